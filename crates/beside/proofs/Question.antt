-- Questions move no clock and leave nothing behind, so a list with them is, for the hub, the list of its six calls.
use Prim.Native.Nat.{ℕ}
use mathlib.Core.Path.{◌≡◌, refl, ap}
use mathlib.Core.List.{List, [], ◌∷◌}
use Rattle.rules.proofs.Laws.Clash.{clash}
use Rattle.beside.specs.Beside.{Reply, refusal, told, Beside, Lawful, Item, of_hub, aside, effect_of, projected}
use Rattle.beside.specs.Extended.{cells_left, state_left, AsidePromise, Extended, after, besides}
use Rattle.beside.specs.SameHub.{six_calls}
use Rattle.beside.specs.Question.{question}

module _ (Ask Told : Type 0) (answered : List ℕ → List ℕ → Ask → Reply Told) where
  abbrev asked : Beside
  asked = question Ask Told answered

  pub question_lawful : Lawful asked
  question_lawful = record { as_until = λ P s q b a t e f. clash (cc) }

  -- whatever is heard, the hub and the place beside it stay
  hub_stays : (P s : List ℕ) (q : Ask) (r : Reply Told) → s ≡ cells_left P (effect_of asked q r) s
  hub_stays P s q (refusal n) = refl
  hub_stays P s q (told a) = refl

  beside_stays : (P s : List ℕ) (q : Ask) (r : Reply Told) → tt ≡ state_left asked P q r s tt
  beside_stays P s q (refusal n) = refl
  beside_stays P s q (told a) = refl

  -- a call that answers as the cells have it, and writes nothing, keeps the promise of a call beside the hub
  pub as_aside : (P s : List ℕ) (q : Ask) (r : Reply Told) → r ≡ answered P s q → AsidePromise asked P q s tt r s tt
  as_aside P s q r e = (e, hub_stays P s q r, beside_stays P s q r)

  -- so a list goes on by it
  pub goes_on : {P s : List ℕ} {xs : List (Item asked)} → Extended asked P xs tt s → (q : Ask) (r : Reply Told) → r ≡ answered P s q
      → Extended asked P (aside q r ∷ xs) tt s
  goes_on {P} {s} made q r e = after made (besides q r s tt (as_aside P s q r e))

  pub no_trace : (xs : List (Item asked)) → projected asked xs ≡ six_calls asked xs
  unfolding projected six_calls
  no_trace [] = refl
  no_trace (of_hub e ∷ xs) = ap (◌∷◌ e) (no_trace xs)
  no_trace (aside q (refusal n) ∷ xs) = no_trace xs
  no_trace (aside q (told a) ∷ xs) = no_trace xs
