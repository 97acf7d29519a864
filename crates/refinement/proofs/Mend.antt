-- What `mend` leaves: the size, every cell that is no mask's, and the other class's masks.
use Prim.Native.Nat.{ℕ, zero, suc}
use mathlib.Core.Path.{◌≡◌, refl, ◌∙◌}
use mathlib.Core.Bool.{Bool, true, false, not}
use mathlib.Core.List.{List}
use native.Mathlib.Omega.{arith}
use lib.Dec.{ltb}
use lib.ListN.{length, get_or, set, length-set}
use lib.Seq.{get_or-set_other}
use borrow.Author.Tests.{ltb-false}
use Rattle.std.specs.Prelude.{if◌then◌else◌}
use Rattle.rules.specs.Drawn.{Within}
use Rattle.rules.proofs.Laws.Passes.{Which, which, yes', no'}
use Rattle.ports.specs.Ports.{any_port}
use Rattle.ports.specs.Mask.{shows}
use Rattle.plan_tree.specs.Tables as plan
use Rattle.cells.specs.Layout.{mask_cell, if_hub}
use Rattle.cells.specs.Masks.{mask_with, alike, mend}
use Rattle.refinement.specs.Kept.{SameButMasks}

module _ (P : List ℕ) (is_high : Bool) where
  -- the steps of `mend`, by cases on the hub's number
  if_hub_holds : {A : Type 0} (C : A → Type 0) (g : ℕ) (a b : A) → (Within 32 g → C a) → C b → C (if_hub g a b)
  if_hub_holds C g a b in_table out = go (which (ltb g 1)) (which (ltb 32 g))
    where
      go : Which (ltb g 1) → Which (ltb 32 g) → C (if_hub g a b)
      go (yes' e) t = rw e out
      go (no' e) (yes' h) = rw (e, h) out
      go (no' e) (no' h) = rw (e, h) (in_table (record { low = ltb-false g 1 e; up = ltb-false 32 g h }))

  -- and on whether the climb ends there
  if_holds : {A : Type 0} (C : A → Type 0) (t : Bool) (a b : A) → C a → C b → C (if t then a else b)
  if_holds C true a b x y = x
  if_holds C false a b x y = y

  -- one step: what holds of s, of the table with hub g's mask stored, and of what the climb leaves from there, holds of what `mend` leaves
  module _ (levels g q : ℕ) (b : Bool) (s : List ℕ) where
    abbrev old : ℕ
    old = get_or s (mask_cell is_high g) 0

    abbrev mask : ℕ
    mask = mask_with old q b

    abbrev left : List ℕ
    left = set s (mask_cell is_high g) mask

    abbrev rest : List ℕ
    rest = mend P is_high levels (get_or P (plan.parent_cell g) 0) (get_or P (plan.place_cell g) 0) (any_port (shows mask)) left

    step_holds : (C : List ℕ → Type 0) → (Within 32 g → C left) → (C left → C rest) → C s → C (mend P is_high (suc levels) g q b s)
    unfolding mend
    step_holds C stored onward same =
        if_hub_holds C g (if alike old mask then left else rest) s (λ w. if_holds C (alike old mask) left rest (stored w) (onward (stored w))) same

  pub mend_size : (levels g q : ℕ) (b : Bool) (s : List ℕ) → length (mend P is_high levels g q b s) ≡ length s
  unfolding mend
  mend_size zero g q b s = refl
  mend_size (suc levels) g q b s =
      step_holds levels g q b s (λ r. length r ≡ length s) (λ w. length-set s (mask_cell is_high g) _) (λ e. mend_size levels _ _ _ _ ∙ e) refl

  -- every cell that is no mask's of the class
  pub mend_keeps : (i : ℕ) → ((g : ℕ) → Within 32 g → i ≡ mask_cell is_high g → ⊥) → (levels g q : ℕ) (b : Bool) (s : List ℕ)
      → get_or (mend P is_high levels g q b s) i 0 ≡ get_or s i 0
  unfolding mend
  mend_keeps i other zero g q b s = refl
  mend_keeps i other (suc levels) g q b s =
      step_holds levels g q b s (λ r. get_or r i 0 ≡ get_or s i 0) (λ w. get_or-set_other s (mask_cell is_high g) i _ 0 (other g w))
      (λ e. mend_keeps i other levels _ _ _ _ ∙ e) refl

  pub mend_same : (levels g q : ℕ) (b : Bool) (s : List ℕ) → SameButMasks s (mend P is_high levels g q b s)
  mend_same levels g q b s i n = mend_keeps i (n is_high) levels g q b s

  -- hub 0 is none
  pub mend_none : (levels q : ℕ) (b : Bool) (s : List ℕ) → mend P is_high levels 0 q b s ≡ s
  unfolding mend
  mend_none zero q b s = refl
  mend_none (suc levels) q b s = refl

-- the other class's masks
other_mask : (is_high : Bool) (g h : ℕ) → mask_cell (not is_high) g ≡ mask_cell is_high h → ⊥
other_mask true g h e = omega arith
other_mask false g h e = omega arith

pub mend_other : (P : List ℕ) (is_high : Bool) (levels g q : ℕ) (b : Bool) (s : List ℕ) (h : ℕ)
    → get_or (mend P is_high levels g q b s) (mask_cell (not is_high) h) 0 ≡ get_or s (mask_cell (not is_high) h) 0
mend_other P is_high levels g q b s h = mend_keeps P is_high (mask_cell (not is_high) h) (λ i w. other_mask is_high h i) levels g q b s
