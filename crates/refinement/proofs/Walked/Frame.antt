-- The cells that a walk leaves as they were, and what it asks of the others.
use Prim.Native.Nat.{ℕ, ◌≤◌}
use mathlib.Core.Path.{◌≡◌, refl, ◌∙◌}
use mathlib.Core.Bool.{Bool, true, false}
use mathlib.Core.List.{List}
use native.Mathlib.Omega.{arith}
use lib.Dec.{eqb}
use lib.ListN.{length, get_or, set, length-set}
use lib.Seq.{get_or-set_same, get_or-set_other}
use borrow.Author.Tests.{eqb-true, eqb-false}
use Rattle.rules.specs.Plan.{Plan}
use Rattle.rules.specs.Drawn.{Within}
use Rattle.rules.proofs.Laws.Passes.{Which, which, yes', no'}
use Rattle.ports.specs.Mask.{digit}
use Rattle.cells.specs.Layout.{cells, mask_cell, pointer_cell}
use Rattle.refinement.specs.Kept.{MasksRight, Pointing}

-- i is no pointer's cell
abbrev pub NoPointer : ℕ → Type 0
NoPointer i = (is_high : Bool) (g : ℕ) → Within 32 g → i ≡ pointer_cell is_high g → ⊥

-- the same cells but for the pointers
abbrev pub SameButPointers : List ℕ → List ℕ → Type 0
SameButPointers s r = (i : ℕ) → NoPointer i → get_or r i 0 ≡ get_or s i 0

-- what a walk for what counts by f asks of the cells, and leaves
pub record Walkable (p : Plan) (is_high : Bool) (f : ℕ → Bool) (s : List ℕ) : Type 0 where
  pub size : length s ≡ cells
  pub masks : MasksRight p is_high f s
  pub pointers : (b : Bool) (g : ℕ) → Within p.hubs g → Pointing (get_or s (pointer_cell b g) 0)

-- ---- one pointer's cell is stored into

pub digit-up : (b : Bool) → digit b ≤ 1
digit-up true = omega arith
digit-up false = omega arith

pub mask_no_pointer : (b : Bool) (g : ℕ) → NoPointer (mask_cell b g)
mask_no_pointer b g d h w e = omega (arith, digit-up b, digit-up d)

-- another pointer's cell, or the same
data Cell (b d : Bool) (g h : ℕ) : Type 0 where
  here : b ≡ d → g ≡ h → Cell b d g h
  there : (pointer_cell b g ≡ pointer_cell d h → ⊥) → Cell b d g h

which_cell : (b d : Bool) (g h : ℕ) → 1 ≤ g → 1 ≤ h → Cell b d g h
which_cell b d g h l m = go b d (which (eqb g h))
  where
    go : (b d : Bool) → Which (eqb g h) → Cell b d g h
    go true true (yes' e) = here refl (eqb-true g h e)
    go false false (yes' e) = here refl (eqb-true g h e)
    go true false w = there (λ z. omega arith)
    go false true w = there (λ z. omega arith)
    go true true (no' e) = there (λ z. eqb-false g h e (omega arith))
    go false false (no' e) = there (λ z. eqb-false g h e (omega arith))

module _ (p : Plan) (few : p.hubs ≤ 32) (is_high : Bool) (f : ℕ → Bool) (h v : ℕ) (w : Within p.hubs h) where
  pub stored_same : (s : List ℕ) → SameButPointers s (set s (pointer_cell is_high h) v)
  stored_same s i n =
      get_or-set_other s (pointer_cell is_high h) i v 0 (n is_high h (record { low = w.low; up = omega (arith, w.up) }))

  pub stored : (s : List ℕ) → Pointing v → Walkable p is_high f s → Walkable p is_high f (set s (pointer_cell is_high h) v)
  stored s x k =
      record {
        size = length-set s (pointer_cell is_high h) v ∙ k.size;
        masks = λ g u. stored_same s (mask_cell is_high g) (mask_no_pointer is_high g) ∙ k.masks g u;
        pointers = λ b g u. go b g u (which_cell b is_high g h u.low w.low);
      }
    where
      go : (b : Bool) (g : ℕ) → Within p.hubs g → Cell b is_high g h → Pointing (get_or (set s (pointer_cell is_high h) v) (pointer_cell b g) 0)
      go b g u (here e d) =
          rw (e, d, get_or-set_same s (pointer_cell is_high h) v 0 (omega (arith, k.size, w.up, digit-up is_high))) x
      go b g u (there n) = rw (get_or-set_other s (pointer_cell is_high h) (pointer_cell b g) v 0 n) (k.pointers b g u)
