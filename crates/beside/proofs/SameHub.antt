-- The hub after an extended list is the hub after its projection, the answers to the six calls are the same, and so all the demands hold.
use Prim.Native.Nat.{ℕ}
use mathlib.Core.Path.{◌≡◌, refl, sym, ap, ◌∙◌}
use mathlib.Core.Bool.{Bool}
use mathlib.Core.List.{List, [], ◌∷◌}
use Rattle.rules.specs.Run.{Entry}
use Rattle.plan.specs.Tables.{plan_of}
use Rattle.plan.specs.Reading.{reading}
use Rattle.plan_theory.specs.Taken.{TakenAs}
use Rattle.demands.proofs.Sequence.{sequence}
use Rattle.demands.proofs.Demands.{demands}
use Rattle.beside.specs.Beside.{refusal, Effect, stays, comes_to, Beside, Lawful, seen, Item, of_hub, aside, effect_of, projected}
use Rattle.beside.specs.Extended.{AsidePromise, Extended}
use Rattle.beside.specs.SameHub.{less, mark_seen, six_calls, put_there, SameHub, ExtendedDemands}
use Rattle.beside.proofs.Projection.{projects}

-- what is put there is marked
seen-less : (x : Effect) (marks : List Bool) (past : List Entry) → less (mark_seen x marks) (seen x past) ≡ less marks past
unfolding less
seen-less stays marks past = refl
seen-less (comes_to t) marks past = refl

pub six_kept : (B : Beside) (xs : List (Item B)) → six_calls B xs ≡ less (put_there B xs) (projected B xs)
unfolding less six_calls put_there projected
six_kept B [] = refl
six_kept B (of_hub e ∷ xs) = ap (◌∷◌ e) (six_kept B xs)
six_kept B (aside q r ∷ xs) = six_kept B xs ∙ sym (seen-less (effect_of B q r) (put_there B xs) (projected B xs))

-- demand 1 of calls beside the hub: a refusal changes neither the hub's cells nor what stands beside it
pub refused_aside : (B : Beside) (P : List ℕ) (q : B.Ask) (n : ℕ) (s z : List ℕ) (b c : B.State) → AsidePromise B P q s b (refusal n) z c
    → (z ≡ s) × (c ≡ b)
refused_aside B P q n s z b c p = (p.1, p.2)

module _ (B : Beside) (law : Lawful B) where
  pub same_hub : (P : List ℕ) {xs : List (Item B)} {b : B.State} {s : List ℕ} → Extended B P xs b s → SameHub B P xs s
  same_hub P {xs = xs} made =
      let calls = projects B law P made in
      let m = sequence P calls in
      record { calls = calls; cells = m.cells_are; answers = m.past_is; six = six_kept B xs }

  pub extended_demands : (text : List ℕ) (nodes hubs at line : ℕ) → TakenAs text nodes hubs at line
      → {xs : List (Item B)} {b : B.State} {s : List ℕ} → Extended B (reading text).tables xs b s
      → ExtendedDemands B (reading text).tables (plan_of (reading text).tables) xs s
  extended_demands text nodes hubs at line t {xs = xs} {s = s} made =
      demands text nodes hubs at line t (projected B xs) s (projects B law (reading text).tables made)
