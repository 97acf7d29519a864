-- The pointers of hubs n to 1: none is left at 0, else hub n's are put first.
use Prim.Native.Nat.{ℕ, zero, suc, ◌-◌}
use mathlib.Core.Path.{◌≡◌, refl}
use mathlib.Core.Bool.{true, false}
use mathlib.Core.List.{List}
use native.Mathlib.Numerals.{unary_clauses}
use lib.ListN.{set}
use Rattle.cells.specs.Layout.{pointer_cell, unmarked_code}
use Rattle.cells.specs.Fresh.{pointed}

pub pointed-none : (n : ℕ) (s : List ℕ) → n ≡ 0 → s ≡ pointed n s
unfolding pointed
pointed-none n s e = rw e

pub pointed_some :
    (n : ℕ) (s : List ℕ) →
    (n ≡ 0 → ⊥) →
    pointed (n - 1) (set (set s (pointer_cell false n) (unmarked_code 1)) (pointer_cell true n) (unmarked_code 1)) ≡ pointed n s
unfolding pointed
pointed_some zero s h = absurd (h refl)
pointed_some (suc n) s h = simp unary_clauses
