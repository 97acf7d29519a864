-- The hub after an extended list is the hub after its projection.
use Prim.Native.Nat.{ℕ}
use mathlib.Core.Path.{◌≡◌, refl, sym, subst}
use mathlib.Core.List.{List}
use Rattle.rules.specs.Call.{until}
use Rattle.rules.specs.Run.{Entry}
use Rattle.rules.proofs.Laws.Clash.{clash}
use Rattle.cells.specs.Calls.{row_by}
use Rattle.demands.specs.Demands as hub
use Rattle.demands.specs.Demands.{Calls}
use Rattle.beside.specs.Beside.{Reply, refusal, told, Effect, stays, comes_to, Beside, Lawful, seen, Item, effect_of, projected}
use Rattle.beside.specs.Extended.{cells_left, Extended, before, after, event, stepping, besides}

module _ (B : Beside) (law : Lawful B) (P : List ℕ) where
  -- a call beside the hub that moved the clock to t was made where `until t` is accepted
  pub until_accepted : (s : List ℕ) (q : B.Ask) (b : B.State) (r : Reply (B.Told q)) → r ≡ B.reply P s q b
      → (t : ℕ) → effect_of B q r ≡ comes_to t → row_by P (until t) s ≡ 0
  until_accepted s q b (refusal n) e t f = clash (cc)
  until_accepted s q b (told a) e t f = law.as_until P s q b a t (sym e) f

  -- so the hub made that `until`, or nothing
  one_aside : {past : List Entry} {s : List ℕ} → Calls P past s → (x : Effect) → ((t : ℕ) → x ≡ comes_to t → row_by P (until t) s ≡ 0)
      → (z : List ℕ) → z ≡ cells_left P x s → Calls P (seen x past) z
  one_aside {past = past} made stays ok z f = subst (Calls P past) (sym f) made
  one_aside made (comes_to t) ok z f = hub.event made (until t) refl 0 z (sym (ok t refl), f)

  pub projects : {xs : List (Item B)} {b : B.State} {s : List ℕ} → Extended B P xs b s → Calls P (projected B xs) s
  unfolding projected
  projects before = hub.before
  projects (after more (event call ev r z c p w)) = hub.event (projects more) call ev r z p
  projects (after more (stepping t r z c p w)) = hub.stepping (projects more) t r z p
  projects (after {b = b} {s = s} more (besides q r z c p)) =
      one_aside (projects more) (effect_of B q r) (until_accepted s q b r p.0) z p.1
