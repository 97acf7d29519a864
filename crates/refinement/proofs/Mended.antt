-- A change at one node, mended in the classes concerned: the masks are right again in both, and nothing else changes.
use Prim.Native.Nat.{ℕ}
use mathlib.Core.Path.{◌≡◌, refl, sym, ap, ap₂, subst, ◌∙◌}
use mathlib.Core.Bool.{Bool, true, false, not, ◌||◌, true≢false}
use mathlib.Core.List.{List}
use lib.ListN.{length, get_or}
use borrow.Author.Tests.{le-leb}
use Rattle.std.specs.Prelude.{if◌then◌else◌}
use Rattle.rules.specs.Plan.{Plan, most_levels}
use Rattle.rules.specs.Drawn.{Within}
use Rattle.rules.specs.Core.{counts_in}
use Rattle.rules.proofs.Laws.Passes.{Which, which, yes', no', or-none}
use Rattle.cells.specs.Layout.{cells, mask_cell, request_cell, force_cell, granted_cell}
use Rattle.cells.specs.Decode.{plan_in, core_of}
use Rattle.cells.specs.Masks.{stands_in, counts_by, counts_at, mend_bit, mend_class}
use Rattle.refinement.specs.Kept.{Ready, counts_of, MasksRight, SameButMasks, RightBut, Mended}
use Rattle.refinement.proofs.Same.{agree, same_trans, node_no_mask}
use Rattle.refinement.proofs.Mend.{mend_size, mend_same, mend_other}
use Rattle.refinement.proofs.Climb.{node_mends}

-- what a node's cells say is what counts
pub counts_at_lem : (p : Plan) (is_high : Bool) (k : ℕ) (s : List ℕ) → Within p.nodes k → counts_at is_high k s ≡ counts_of p is_high s k
unfolding counts_in core_of
counts_at_lem p true k s w = rw (le-leb 1 k w.low, le-leb k p.nodes w.up)
counts_at_lem p false k s w = rw (le-leb 1 k w.low, le-leb k p.nodes w.up)

-- a request that doesn't stand in a class doesn't count there
none-counts : (is_high : Bool) (x granted force : ℕ) → stands_in is_high x ≡ false → counts_by is_high x granted force ≡ false
none-counts false x granted force e = e
none-counts true x granted force e = rw e

-- node k's request is x in place of `old`
module _ (P : List ℕ) (k old x : ℕ) where
  -- the steps of `mend_class`: what holds of s and of what the climb leaves holds of what it leaves
  class_holds : (is_high : Bool) (s : List ℕ) (C : List ℕ → Type 0)
      → (stands_in is_high x ≡ false → stands_in is_high old ≡ false → C s) → C (mend_bit P is_high k x s) → C (mend_class P is_high k old x s)
  unfolding mend_class
  class_holds is_high s C same climbed = go (which (stands_in is_high x || stands_in is_high old))
    where
      go : Which (stands_in is_high x || stands_in is_high old)
          → C (if stands_in is_high x || stands_in is_high old then mend_bit P is_high k x s else s)
      go (yes' e) = rw e climbed
      go (no' e) = let n = or-none (stands_in is_high x) (stands_in is_high old) e in rw e (same n.0 n.1)

  class_size : (is_high : Bool) (s : List ℕ) → length (mend_class P is_high k old x s) ≡ length s
  unfolding mend_bit
  class_size is_high s = class_holds is_high s (λ r. length r ≡ length s) (λ n o. refl) (mend_size P is_high most_levels _ _ _ s)

  pub class_same : (is_high : Bool) (s : List ℕ) → SameButMasks s (mend_class P is_high k old x s)
  unfolding mend_bit
  class_same is_high s = class_holds is_high s (SameButMasks s) (λ n o i m. refl) (mend_same P is_high most_levels _ _ _ s)

  class_other : (is_high : Bool) (s : List ℕ) (h : ℕ)
      → get_or (mend_class P is_high k old x s) (mask_cell (not is_high) h) 0 ≡ get_or s (mask_cell (not is_high) h) 0
  unfolding mend_bit
  class_other is_high s h =
      class_holds is_high s (λ r. get_or r (mask_cell (not is_high) h) 0 ≡ get_or s (mask_cell (not is_high) h) 0) (λ n o. refl)
      (mend_other P is_high most_levels _ _ _ s h)

module _ (P : List ℕ) (R : Ready P) (k : ℕ) (w : Within (plan_in P).nodes k) (old x : ℕ) where
  -- where neither stands in the class, node k counts as little as before
  class_mends : (is_high : Bool) (earlier counts : ℕ → Bool) → ((j : ℕ) → (j ≡ k → ⊥) → counts j ≡ earlier j)
      → (earlier k ≡ true → stands_in is_high old ≡ true) → (s : List ℕ) → length s ≡ cells
      → counts_by is_high x (get_or s (granted_cell k) 0) (get_or s (force_cell k) 0) ≡ counts k
      → MasksRight (plan_in P) is_high earlier s → MasksRight (plan_in P) is_high counts (mend_class P is_high k old x s)
  unfolding mend_bit
  class_mends is_high earlier counts others own s size now right =
      class_holds P k old x is_high s (MasksRight (plan_in P) is_high counts)
      (λ n o. subst (λ (f : ℕ → Bool). MasksRight (plan_in P) is_high f s) (λ i j. same n o j i) right)
      (node_mends P R is_high k earlier counts others s size w right _ now)
    where
      at_k : stands_in is_high old ≡ false → Which (earlier k) → earlier k ≡ false
      at_k o (yes' e) = absurd (true≢false (sym (own e) ∙ o))
      at_k o (no' e) = e

      same : stands_in is_high x ≡ false → stands_in is_high old ≡ false → (j : ℕ) → earlier j ≡ counts j
      same n o =
          agree k (at_k o (which (earlier k)) ∙ sym (none-counts is_high x (get_or s (granted_cell k) 0) (get_or s (force_cell k) 0) n) ∙ now)
          (λ j d. sym (others j d))

  pub mended : (s : List ℕ) → length s ≡ cells → get_or s (request_cell k) 0 ≡ x → ((is_high : Bool) → RightBut (plan_in P) k old is_high s)
      → Mended (plan_in P) s (mend_class P true k old x (mend_class P false k old x s))
  mended s size asked but =
      record {
        size = class_size P k old x true first ∙ first_size;
        same = same_trans s first second (class_same P k old x false s) (class_same P k old x true first);
        masks = masks;
      }
    where
      first : List ℕ
      first = mend_class P false k old x s

      second : List ℕ
      second = mend_class P true k old x first

      first_size : length first ≡ cells
      first_size = class_size P k old x false s ∙ size

      counts : (is_high : Bool) → counts_by is_high x (get_or s (granted_cell k) 0) (get_or s (force_cell k) 0) ≡ counts_of (plan_in P) is_high s k
      counts is_high =
          ap (λ (n : ℕ). counts_by is_high n (get_or s (granted_cell k) 0) (get_or s (force_cell k) 0)) (sym asked) ∙ counts_at_lem (plan_in P) is_high k s w

      counts-first : counts_by true x (get_or first (granted_cell k) 0) (get_or first (force_cell k) 0) ≡ counts_of (plan_in P) true s k
      counts-first =
          ap₂ (λ (n m : ℕ). counts_by true x n m) (class_same P k old x false s (granted_cell k) (node_no_mask k 3))
          (class_same P k old x false s (force_cell k) (node_no_mask k 1))
          ∙ counts true

      masks : (is_high : Bool) → MasksRight (plan_in P) is_high (counts_of (plan_in P) is_high s) second
      masks true g v =
          class_mends true (but true).earlier (counts_of (plan_in P) true s) (but true).others (but true).own first first_size counts-first
          (λ h u. class_other P k old x false s h ∙ (but true).masks h u) g v
      masks false g v =
          class_other P k old x true first g
          ∙ class_mends false (but false).earlier (counts_of (plan_in P) false s) (but false).others (but false).own s size (counts false)
          (but false).masks g v
