-- A change of one node's cells: what counts elsewhere is as it was, so the masks are right but for that node.
use Prim.Native.Nat.{ℕ, ◌-◌, ◌≤◌, ◌<◌}
use mathlib.Core.Path.{◌≡◌, refl, sym, subst, ◌∙◌}
use mathlib.Core.Bool.{Bool, true, false, true≢false}
use mathlib.Core.List.{List}
use native.Mathlib.Omega.{arith}
use borrow.Author.Tests.{leb-true, le-leb}
use lib.Dec.{leb}
use lib.ListN.{length, get_or}
use Rattle.std.specs.Prelude.{if◌then◌else◌}
use Rattle.rules.specs.Choice.{sum}
use Rattle.ports.specs.Mask.{digit}
use Rattle.rules.specs.Plan.{Plan}
use Rattle.rules.specs.Drawn.{Within, Drawn}
use Rattle.rules.specs.Core.{counts_in}
use Rattle.rules.proofs.Laws.Passes.{Which, which, yes', no', and_both}
use Rattle.cells.specs.Layout.{cells, standing_cell, holder_cell, class_cell, node_cell, mask_cell, pointer_cell, request_cell, force_cell, granted_cell, latest_cell}
use Rattle.cells.specs.Decode.{is_node, is_hub, core_of}
use Rattle.cells.specs.Masks.{stands_in, counts_by, counts_at, stands}
use Rattle.refinement.specs.Kept.{counts_of, MasksRight, RightBut, Pointing, Kept, standing_in, Mended}
use Rattle.refinement.proofs.Same.{counts_same, holder_no_mask, class_no_mask, standing_no_mask, pointer_no_mask, node_no_mask}

-- ---- numbers of nodes and hubs

pub node_within : (p : Plan) (k : ℕ) → is_node p k ≡ true → Within p.nodes k
node_within p k e =
    let b = and_both (leb 1 k) (leb k p.nodes) e in
    record { low = leb-true 1 k b.0; up = leb-true k p.nodes b.1 }

pub within_node : (p : Plan) (k : ℕ) → Within p.nodes k → is_node p k ≡ true
within_node p k w = simp (le-leb _ _ w.low, le-leb _ _ w.up)

pub hub_within : (p : Plan) (g : ℕ) → is_hub p g ≡ true → Within p.hubs g
hub_within p g e =
    let b = and_both (leb 1 g) (leb g p.hubs) e in
    record { low = leb-true 1 g b.0; up = leb-true g p.hubs b.1 }

-- ---- a node's cells say whether it counts

pub counts-cells : (p : Plan) (is_high : Bool) (s : List ℕ) (k : ℕ) → counts_of p is_high s k ≡ (if is_node p k then counts_at is_high k s else false)
unfolding core_of counts_in
counts-cells p true s k = go (which (is_node p k))
  where
    go : Which (is_node p k) → counts_of p true s k ≡ (if is_node p k then counts_at true k s else false)
    go (yes' e) = simp e
    go (no' e) = simp e
counts-cells p false s k = go (which (is_node p k))
  where
    go : Which (is_node p k) → counts_of p false s k ≡ (if is_node p k then counts_at false k s else false)
    go (yes' e) = simp e
    go (no' e) = simp e

-- i is none of node k's cells
abbrev pub Elsewhere : ℕ → ℕ → Type 0
Elsewhere k i = (i ≡ request_cell k → ⊥) × (i ≡ force_cell k → ⊥) × (i ≡ latest_cell k → ⊥) × (i ≡ granted_cell k → ⊥)

-- r is s but for cells of node k and the number of standing requests
pub record Change (k : ℕ) (s r : List ℕ) : Type 0 where
  pub size : length r ≡ cells
  pub same : (i : ℕ) → (i ≡ standing_cell → ⊥) → Elsewhere k i → get_or r i 0 ≡ get_or s i 0

module _ (p : Plan) (D : Drawn p) (k : ℕ) (w : Within p.nodes k) (s r : List ℕ) (c : Change k s r) where
  -- another node's cells are as they were: with no more nodes than a table has cells, no two share one
  pub other_cell : (j i : ℕ) → Within p.nodes j → (j ≡ k → ⊥) → i < 4 → get_or r (node_cell j i) 0 ≡ get_or s (node_cell j i) 0
  other_cell j i v d u =
      c.same (node_cell j i) (λ e. omega arith) (omega (arith, w.low, w.up, v.low, v.up, D.few_nodes))

  other_counts : (is_high : Bool) (j : ℕ) → Within p.nodes j → (j ≡ k → ⊥) → counts_at is_high j r ≡ counts_at is_high j s
  other_counts is_high j v d =
      rw (other_cell j 0 v d (omega arith), other_cell j 1 v d (omega arith), other_cell j 3 v d (omega arith))

  pub others_count : (is_high : Bool) (j : ℕ) → (j ≡ k → ⊥) → counts_of p is_high r j ≡ counts_of p is_high s j
  others_count is_high j d = counts-cells p is_high r j ∙ go (which (is_node p j)) ∙ sym (counts-cells p is_high s j)
    where
      go : Which (is_node p j) → (if is_node p j then counts_at is_high j r else false) ≡ (if is_node p j then counts_at is_high j s else false)
      go (yes' e) = rw e (other_counts is_high j (node_within p j e) d)
      go (no' e) = rw e

  -- a mask's cell is none of a node's
  pub mask_cell_lem : (is_high : Bool) (g : ℕ) → g ≤ 32 → get_or r (mask_cell is_high g) 0 ≡ get_or s (mask_cell is_high g) 0
  mask_cell_lem true g u = c.same (mask_cell true g) (λ e. omega arith) (omega arith)
  mask_cell_lem false g u = c.same (mask_cell false g) (λ e. omega arith) (omega arith)

  pub right_but : {old : ℕ} (is_high : Bool) → RightBut p k old is_high s → RightBut p k old is_high r
  right_but is_high b =
      record {
        earlier = b.earlier;
        own = b.own;
        others = λ j d. others_count is_high j d ∙ b.others j d;
        masks = λ g v. mask_cell_lem is_high g (omega (arith, v.up, D.few_hubs)) ∙ b.masks g v;
      }

-- only a request that stands in a class counts there
counts-stands : (is_high : Bool) (x granted force : ℕ) → counts_by is_high x granted force ≡ true → stands_in is_high x ≡ true
counts-stands false x granted force e = e
counts-stands true x granted force e = (and_both (stands_in true x) _ e).0

own_stands : (p : Plan) (is_high : Bool) (s : List ℕ) (k : ℕ) → counts_of p is_high s k ≡ true → stands_in is_high (get_or s (request_cell k) 0) ≡ true
own_stands p is_high s k e = go (which (is_node p k))
  where
    here : (if is_node p k then counts_at is_high k s else false) ≡ true
    here = sym (counts-cells p is_high s k) ∙ e

    go : Which (is_node p k) → stands_in is_high (get_or s (request_cell k) 0) ≡ true
    go (yes' n) = counts-stands is_high (get_or s (request_cell k) 0) (get_or s (granted_cell k) 0) (get_or s (force_cell k) 0) (rw n at here)
    go (no' n) = absurd (true≢false (sym (rw n at here)))

-- masks that are right are right but for any node
pub kept_right : (p : Plan) (k : ℕ) (s : List ℕ) → Kept p s → (is_high : Bool) → RightBut p k (get_or s (request_cell k) 0) is_high s
kept_right p k s K is_high =
    record { earlier = counts_of p is_high s; own = own_stands p is_high s k; others = λ j d. refl; masks = K.masks is_high }

-- what is kept beside the masks
pub record KeptBut (p : Plan) (s : List ℕ) : Type 0 where
  pub standing : get_or s standing_cell 0 ≡ standing_in p.nodes s
  pub holder : Within p.hubs (get_or s holder_cell 0)
  pub class : get_or s class_cell 0 ≤ 1
  pub pointers : (is_high : Bool) (g : ℕ) → Within p.hubs g → Pointing (get_or s (pointer_cell is_high g) 0)

pub kept_but : (p : Plan) (s : List ℕ) → Kept p s → KeptBut p s
kept_but p s K = record { standing = K.standing; holder = K.holder; class = K.class; pointers = K.pointers }

-- with the masks mended all is kept
pub mended_kept : (p : Plan) → p.hubs ≤ 32 → (s r : List ℕ) → KeptBut p s → Mended p s r → Kept p r
mended_kept p few s r k m =
    record {
      size = m.size;
      masks = λ is_high. subst (λ (f : ℕ → Bool). MasksRight p is_high f r) (sym (counts_same p is_high s r m.same)) (m.masks is_high);
      standing =
          m.same standing_cell standing_no_mask ∙ k.standing
          ∙ sym (λ i. sum p.nodes (λ j. digit (stands (m.same (request_cell j) (node_no_mask j 0) i))));
      holder = subst (λ (x : ℕ). Within p.hubs x) (sym (m.same holder_cell holder_no_mask)) k.holder;
      class = subst (λ (x : ℕ). x ≤ 1) (sym (m.same class_cell class_no_mask)) k.class;
      pointers = λ is_high g w. subst Pointing (sym (m.same (pointer_cell is_high g) (pointer_no_mask is_high g))) (k.pointers is_high g w);
    }
