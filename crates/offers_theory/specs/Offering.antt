-- Offers are a call beside the hub: it has no table of its own, moves no clock and changes nothing, and the lists of demand 3 may hold it.
use Rattle.std.specs.Prelude.{ℕ, ◌≡◌, List, ◌∷◌, eqb, if◌then◌else◌}
use Rattle.rules.specs.Plan.{Plan}
use Rattle.beside.specs.Beside.{Reply, refusal, told, stays, Beside, Item, aside, projected}
use Rattle.beside.specs.Extended.{Extended}
use Rattle.beside.specs.SameHub.{six_calls, ExtendedDemands}
use Rattle.offers.specs.Offers.{offers_row, offers_left, clock_of, OffersPromise}
use Rattle.offers_theory.specs.Single.{Singly, AtClock}

-- what is lent: the offers' numbers and the buffer
pub record Lent : Type 0 where
  pub numbers : List ℕ
  pub buffer : List ℕ

-- what is heard of a call: the number that refuses it, or the buffer with the answers
abbrev pub heard : ℕ → List ℕ → Reply (List ℕ)
heard r left = if eqb r 0 then told left else refusal r

abbrev pub offering : Beside
offering =
    record {
      State = Unit {0};
      start = tt;
      Ask = Lent;
      Told = λ q. List ℕ;
      reply = λ P s q b. heard (offers_row q.numbers q.buffer) (offers_left P (clock_of s) s q.numbers q.buffer);
      next = λ P s q b. b;
      effect = λ q left. stays;
      watch = λ P s e b. b;
    }

-- P and p are a taken plan's cells and the plan, s the hub's cells behind the list
pub record InLists (P : List ℕ) (p : Plan) (xs : List (Item offering)) (s : List ℕ) : Type 0 where
  -- all the demands hold of the list, demand 3 among them
  pub demands : ExtendedDemands offering P p xs s
  -- offers leave no trace: the hub saw the six calls alone
  pub no_trace : projected offering xs ≡ six_calls offering xs
  -- a further call of `offers::at_clock`, by its contract, is the next one of such a list, and leaves the hub's cells as they are
  pub goes_on : (q : Lent) (r : ℕ) (left : List ℕ) → OffersPromise P (clock_of s) s q.numbers q.buffer r left
      → Extended offering P (aside q (heard r left) ∷ xs) tt s
  -- and what it answers
  pub at_clock : AtClock P p (projected offering xs) s
  pub singly : Singly P (clock_of s) s
