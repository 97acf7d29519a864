-- The due instant before a bound, by what is due: from the definition's cases, and back to them.
use Rattle.std.specs.Prelude.{Option, Some, None}
use Prim.Native.Nat.{ℕ}
use mathlib.Core.Path.{◌≡◌, ap}
use mathlib.Core.Bool.{true, false}
use mathlib.Core.List.{List}
use lib.Dec.{ltb}
use Rattle.rules.specs.Plan.{Plan}
use Rattle.rules.specs.Core.{before}
use Rattle.rules.proofs.Laws.Passes.{Which, which, yes', no'}
use Rattle.rules.proofs.Laws.Clash.{clash}
use Rattle.cells.specs.Instants.{due_by, due_in}
use Rattle.instants.specs.Bound.{if_before, due_before}

module _ (p : Plan) (t : ℕ) (s : List ℕ) where
  pub at_before : {d : ℕ} {x : Option ℕ} → x ≡ if_before t d → due_by p s ≡ Some d → x ≡ due_before p t s
  unfolding due_before
  at_before e w = rw w e

  pub never_before : due_by p s ≡ None → None ≡ due_before p t s
  unfolding due_before
  never_before w = rw w

  pub due_at : {d : ℕ} → due_before p t s ≡ Some d → (due_by p s ≡ Some d) × (ltb d t ≡ true)
  unfolding due_before
  due_at {d} h = go (which (before (due_in (due_by p s)) t))
    where
      go : Which (before (due_in (due_by p s)) t) → (due_by p s ≡ Some d) × (ltb d t ≡ true)
      go (yes' e) = let w : due_by p s ≡ Some d = rw e at h in (w, rw w at e)
      go (no' e) = clash (cc (rw e at h))

  pub none-due : due_before p t s ≡ None → before (due_in (due_by p s)) t ≡ false
  unfolding due_before
  none-due h = go (which (before (due_in (due_by p s)) t))
    where
      go : Which (before (due_in (due_by p s)) t) → before (due_in (due_by p s)) t ≡ false
      go (yes' e) = let w : due_by p s ≡ None = rw e at h in ap (λ (x : Option ℕ). before (due_in x) t) w
      go (no' e) = e
