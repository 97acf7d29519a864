-- Cells that differ only in the recorded times are the same hub, and kept as well.
-- A frame's start and a request that comes first change those times alone.
use Prim.Native.Nat.{ℕ, zero, suc, ◌+◌, ◌*◌, ◌/◌, ◌%◌, ◌≤◌, ◌<◌}
use mathlib.Core.Path.{◌≡◌, refl, sym, ap, ap₂, subst, ◌∙◌}
use mathlib.Core.Bool.{Bool}
use mathlib.Core.List.{List}
use native.Mathlib.Omega.{arith}
use lib.Dec.{eqb, ltb, leb}
use lib.ListN.{get_or, set, length-set}
use lib.Seq.{get_or-set_other}
use Rattle.std.specs.Prelude.{if◌then◌else◌}
use Rattle.rules.specs.Plan.{Plan}
use Rattle.rules.specs.Drawn.{Drawn, Within}
use Rattle.rules.specs.Call.{Class}
use Rattle.rules.specs.Core.{Core, none, nothing_reserved, resting, busy, counts_in}
use Rattle.rules.proofs.Laws.Passes.{Which, which, yes', no', sum_same}
use Rattle.ports.specs.Mask.{digit}
use Rattle.cells.specs.Layout.{two_32, time_at, clock_cell, end_cell, busy_cell, holder_cell, class_cell, standing_cell, node_cell, since_cell, since_high_cell, mask_cell, pointer_cell, request_cell, class_of, request_of, share_of}
use Rattle.cells.specs.Decode.{is_node, is_hub, is_class_high, core_of, control_of, hub_of}
use Rattle.cells.specs.Masks.{stands, stands_in}
use Rattle.cells.specs.Waits.{put_since, turn_cells, turn_nodes, turn_all, record_since}
use Rattle.refinement.specs.Kept.{MasksRight, Pointing, Kept}
use Rattle.refinement.specs.Waits.{OtherTimes}
use Rattle.refinement.proofs.Changed.{node_within, hub_within}
use Rattle.refinement.proofs.Requested.{Left, core_path}
use Rattle.refinement.proofs.Walked.Frame.{digit-up}

-- ---- what changes the recorded times alone

pub other_refl : (s : List ℕ) → OtherTimes s s
other_refl s = record { size = refl; same = λ i l. refl }

pub other_trans : {s r t : List ℕ} → OtherTimes s r → OtherTimes r t → OtherTimes s t
other_trans first second = record { size = second.size ∙ first.size; same = λ i l. second.same i l ∙ first.same i l }

pub since_other : (k low high : ℕ) (s : List ℕ) → OtherTimes s (put_since k low high s)
unfolding put_since
since_other k low high s =
    record {
      size = simp length-set;
      same = λ i l.
          get_or-set_other (set s (since_cell k) low) (since_high_cell k) i high 0 (λ e. omega arith)
          ∙ get_or-set_other s (since_cell k) i low 0 (λ e. omega arith);
    }

pub turn_other : (low high k : ℕ) (s : List ℕ) → OtherTimes s (turn_cells low high k s)
unfolding turn_cells
turn_other low high k s = since_other k _ _ s

turned_other : (low high n : ℕ) (s : List ℕ) → OtherTimes s (turn_nodes low high n s)
unfolding turn_nodes
turned_other low high zero s = other_refl s
turned_other low high (suc n) s = other_trans (turn_other low high (suc n) s) (turned_other low high n (turn_cells low high (suc n) s))

pub all_other : (P : List ℕ) (start : ℕ) (s : List ℕ) → OtherTimes s (turn_all P start s)
unfolding turn_all
all_other P start s = turned_other _ _ _ s

pub record_other : (k x t : ℕ) (s : List ℕ) → OtherTimes s (record_since k x t s)
unfolding record_since
record_other k x t s = go (which (ltb k 1)) (which (ltb 256 k)) (which (stands_in (leb 131072 x) (get_or s (request_cell k) 0)))
  where
    go : Which (ltb k 1) → Which (ltb 256 k) → Which (stands_in (leb 131072 x) (get_or s (request_cell k) 0)) → OtherTimes s (record_since k x t s)
    go (yes' a) b c = rw a (other_refl s)
    go (no' a) (yes' b) c = rw (a, b) (other_refl s)
    go (no' a) (no' b) (yes' c) = rw (a, b, c) (other_refl s)
    go (no' a) (no' b) (no' c) = rw (a, b, c) (since_other k (t % two_32) (t / two_32) s)

-- ---- and leaves the same hub

module _ (p : Plan) (D : Drawn p) (s r : List ℕ) (o : OtherTimes s r) where
  node_cell_lem : (k i : ℕ) → Within p.nodes k → i < 4 → get_or r (node_cell k i) 0 ≡ get_or s (node_cell k i) 0
  node_cell_lem k i w l = o.same (node_cell k i) (omega (arith, w.low, w.up, D.few_nodes))

  low_cell : (i : ℕ) → i < 8 → get_or r i 0 ≡ get_or s i 0
  low_cell i l = o.same i (omega arith)

  mask_cell_lem : (is_high : Bool) (g : ℕ) → Within p.hubs g → get_or r (mask_cell is_high g) 0 ≡ get_or s (mask_cell is_high g) 0
  mask_cell_lem is_high g w = o.same (mask_cell is_high g) (omega (arith, digit-up is_high, w.up, D.few_hubs))

  pointer_cell_lem : (is_high : Bool) (g : ℕ) → Within p.hubs g → get_or r (pointer_cell is_high g) 0 ≡ get_or s (pointer_cell is_high g) 0
  pointer_cell_lem is_high g w = o.same (pointer_cell is_high g) (omega (arith, digit-up is_high, w.up, D.few_hubs))

  -- what is read of a node's cell: above the plan's nodes nothing is
  field : {A : Type 0} (read : ℕ → A) (default : A) (i : ℕ) → i < 4 → (k : ℕ)
      → (if is_node p k then read (get_or r (node_cell k i) 0) else default) ≡ (if is_node p k then read (get_or s (node_cell k i) 0) else default)
  field read default i l k = go (which (is_node p k))
    where
      go : Which (is_node p k)
          → (if is_node p k then read (get_or r (node_cell k i) 0) else default) ≡ (if is_node p k then read (get_or s (node_cell k i) 0) else default)
      go (yes' e) = rw (e, node_cell_lem k i (node_within p k e) l)
      go (no' e) = rw e

  time_cell : (i : ℕ) → i < 7 → time_at r i ≡ time_at s i
  time_cell i l = ap₂ (λ (x y : ℕ). x + y * two_32) (low_cell i (omega arith)) (low_cell (i + 1) (omega arith))

  pub other_core : core_of p r ≡ core_of p s
  unfolding core_of
  other_core =
      core_path (time_cell clock_cell (omega arith))
      (ap₂ (λ (x t : ℕ). if eqb x 0 then resting else busy t) (low_cell busy_cell (omega arith)) (time_cell end_cell (omega arith)))
      (field request_of none 0 (omega arith))
      (field share_of nothing_reserved 1 (omega arith))
      (field share_of nothing_reserved 2 (omega arith))
      (field (λ x. x) 0 3 (omega arith))

  other_pointer : (c : Class) (g : ℕ) → (control_of p r).pointer c g ≡ (control_of p s).pointer c g
  unfolding control_of
  other_pointer c g = go (which (is_hub p g))
    where
      go : Which (is_hub p g) → (control_of p r).pointer c g ≡ (control_of p s).pointer c g
      go (yes' e) = rw (e, pointer_cell_lem (is_class_high c) g (hub_within p g e))
      go (no' e) = rw e

  other_control : control_of p r ≡ control_of p s
  unfolding control_of
  other_control i =
      record {
        holder = low_cell holder_cell (omega arith) i;
        latest = class_of (eqb (low_cell class_cell (omega arith) i) 1);
        pointer = λ c g. other_pointer c g i;
      }

  pub other_hub : hub_of p r ≡ hub_of p s
  other_hub i = record { core = other_core i; turn = other_control i }

  other_kept : Kept p s → Kept p r
  other_kept K =
      record {
        size = o.size ∙ K.size;
        masks = λ is_high g w.
            mask_cell_lem is_high g w
            ∙ subst (λ (c : Core). MasksRight p is_high (counts_in (class_of is_high) c) s) (sym other_core) (K.masks is_high) g w;
        standing =
            low_cell standing_cell (omega arith) ∙ K.standing
            ∙ sym (sum_same p.nodes _ _ (λ k w. ap (λ (x : ℕ). digit (stands x)) (node_cell_lem k 0 w (omega arith))));
        holder = subst (λ (x : ℕ). Within p.hubs x) (sym (low_cell holder_cell (omega arith))) K.holder;
        class = subst (λ (x : ℕ). x ≤ 1) (sym (low_cell class_cell (omega arith))) K.class;
        pointers = λ is_high g w. subst Pointing (sym (pointer_cell_lem is_high g w)) (K.pointers is_high g w);
      }

  pub other_left : Kept p s → Left p r (core_of p s) (control_of p s)
  other_left K = record { kept = other_kept K; core = other_core; control = other_control }
