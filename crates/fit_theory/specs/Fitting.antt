-- What would make it fit is a question beside the hub, and the lists of demand 3 may hold it.
use Rattle.std.specs.Prelude.{ℕ, ◌≡◌, List, ◌∷◌}
use Rattle.rules.specs.Plan.{Plan}
use Rattle.rules.specs.Call.{until}
use Rattle.cells.specs.Calls.{row_by}
use Rattle.beside.specs.Beside.{Reply, told, Beside, Item, aside, projected}
use Rattle.beside.specs.Extended.{Extended}
use Rattle.beside.specs.SameHub.{six_calls, ExtendedDemands}
use Rattle.beside.specs.Question.{question}
use Rattle.offers.specs.Offers.{Offer, clock_of}
use Rattle.offers_theory.specs.Single.{AtClock}
use Rattle.fit.specs.Change.{Fit}
use Rattle.fit.specs.Fit.{fit_for}
use Rattle.fit_theory.specs.Smallest.{Smallest}

-- it is always answered
abbrev pub heard_of : List ℕ → List ℕ → Offer → Reply Fit
heard_of P s o = told (fit_for P (clock_of s) s o)

abbrev pub fitting : Beside
fitting = question Offer Fit heard_of

-- P and p are a taken plan's cells and the plan, s the hub's cells behind the list
pub record InLists (P : List ℕ) (p : Plan) (xs : List (Item fitting)) (s : List ℕ) : Type 0 where
  -- all the demands hold of the list, demand 3 among them
  pub demands : ExtendedDemands fitting P p xs s
  -- questions leave no trace: the hub saw the six calls alone
  pub no_trace : projected fitting xs ≡ six_calls fitting xs
  -- a further call of `fit::at_time` at the clock, by its contract, is the next one of such a list, and leaves the hub's cells as they are
  pub goes_on : (o : Offer) (x : Fit) → x ≡ fit_for P (clock_of s) s o → Extended fitting P (aside o (told x) ∷ xs) tt s
  -- what it answers: 11 and 12 don't apply at the clock, and the change that it names is the smallest that fits
  pub at_clock : AtClock P p (projected fitting xs) s
  pub smallest : Smallest P (clock_of s) s
  -- and so at any other time at which they don't, as in a hall, whose clock may be later
  pub at_time : (t : ℕ) → row_by P (until t) s ≡ 0 → Smallest P t s
