-- Offers move no clock and leave nothing behind, so a list with them is, for the hub, the list of its six calls.
use Prim.Native.Nat.{ℕ}
use mathlib.Core.Path.{◌≡◌, refl, ap, ap₂}
use mathlib.Core.List.{List, [], ◌∷◌}
use Rattle.rules.proofs.Laws.Clash.{clash}
use Rattle.plan.specs.Tables.{plan_of}
use Rattle.plan.specs.Reading.{reading}
use Rattle.plan_theory.specs.Taken.{TakenAs}
use Rattle.beside.specs.Beside.{Reply, refusal, told, Lawful, Item, of_hub, aside, effect_of, projected}
use Rattle.beside.specs.Extended.{cells_left, state_left, AsidePromise, Extended, after, besides}
use Rattle.beside.specs.SameHub.{six_calls}
use Rattle.beside.proofs.SameHub.{same_hub, extended_demands}
use Rattle.offers.specs.Offers.{clock_of, OffersPromise}
use Rattle.offers_theory.specs.Offering.{Lent, heard, offering, InLists}
use Rattle.offers_theory.proofs.Single.{singly}
use Rattle.offers_theory.proofs.AtClock.{at_clock}

pub offers_lawful : Lawful offering
offers_lawful = record { as_until = λ P s q b a t e f. clash (cc) }

-- whatever is heard, the hub and the place beside it stay
hub_stays : (P s : List ℕ) (q : Lent) (r : Reply (List ℕ)) → s ≡ cells_left P (effect_of offering q r) s
hub_stays P s q (refusal n) = refl
hub_stays P s q (told left) = refl

beside_stays : (P s : List ℕ) (q : Lent) (r : Reply (List ℕ)) → tt ≡ state_left offering P q r s tt
beside_stays P s q (refusal n) = refl
beside_stays P s q (told left) = refl

-- the contract of `offers::at_clock` is the promise of a call beside the hub
pub as_aside : (P s : List ℕ) (q : Lent) (r : ℕ) (left : List ℕ) → OffersPromise P (clock_of s) s q.numbers q.buffer r left
    → AsidePromise offering P q s tt (heard r left) s tt
as_aside P s q r left w = (ap₂ heard w.0 w.1, hub_stays P s q (heard r left), beside_stays P s q (heard r left))

pub no_trace : (xs : List (Item offering)) → projected offering xs ≡ six_calls offering xs
unfolding projected six_calls
no_trace [] = refl
no_trace (of_hub e ∷ xs) = ap (◌∷◌ e) (no_trace xs)
no_trace (aside q (refusal n) ∷ xs) = no_trace xs
no_trace (aside q (told left) ∷ xs) = no_trace xs

pub in_lists : (text : List ℕ) (nodes hubs at line : ℕ) → TakenAs text nodes hubs at line
    → {xs : List (Item offering)} {s : List ℕ} → Extended offering (reading text).tables xs tt s
    → InLists (reading text).tables (plan_of (reading text).tables) xs s
in_lists text nodes hubs at line t {xs = xs} {s = s} made =
    let P = (reading text).tables in
    record {
      demands = extended_demands offering offers_lawful text nodes hubs at line t made;
      no_trace = no_trace xs;
      goes_on = λ q r left w. after made (besides q (heard r left) s tt (as_aside P s q r left w));
      at_clock = at_clock text nodes hubs at line t (projected offering xs) s (same_hub offering offers_lawful P made).calls;
      singly = singly P (clock_of s) s;
    }
