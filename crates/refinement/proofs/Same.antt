-- What a change of masks alone leaves: the core and the control that the cells are. No cell that they are read from is a mask's.
use Prim.Native.Nat.{ℕ, ◌+◌, ◌*◌, ◌≤◌, ◌<◌}
use mathlib.Core.Path.{◌≡◌, sym, ap, ap₂, subst, ◌∙◌}
use mathlib.Core.Bool.{Bool, true, false}
use mathlib.Core.List.{List}
use native.Mathlib.Omega.{arith}
use borrow.Author.Tests.{eqb-true, eqb-false}
use lib.Dec.{eqb}
use Rattle.std.specs.Prelude.{if◌then◌else◌}
use Rattle.rules.specs.Plan.{Plan}
use Rattle.rules.specs.Core.{Core, none, nothing_reserved, resting, busy, counts_in}
use Rattle.rules.specs.Control.{at_port}
use Rattle.rules.proofs.Laws.Passes.{Which, which, yes', no'}
use Rattle.cells.specs.Layout.{two_32, time_at, clock_cell, end_cell, busy_cell, holder_cell, class_cell, standing_cell, node_cell, pointer_cell, class_of, request_of, share_of, pointer_of, force_cell, granted_cell, latest_cell, request_cell}
use Rattle.cells.specs.Decode.{is_node, is_hub, is_class_high, line_of, core_of, control_of}
use Rattle.refinement.specs.Kept.{NoMask, SameButMasks, counts_of}

-- ---- cells that are no mask's

-- those before the first hub's: clock, line, holder, class and number of standing requests
pub low_no_mask : (i : ℕ) → i < 8 → NoMask i
low_no_mask i l true g w e = omega arith
low_no_mask i l false g w e = omega arith

pub standing_no_mask : NoMask standing_cell
standing_no_mask = low_no_mask standing_cell (omega arith)

pub holder_no_mask : NoMask holder_cell
holder_no_mask = low_no_mask holder_cell (omega arith)

pub class_no_mask : NoMask class_cell
class_no_mask = low_no_mask class_cell (omega arith)

-- all of a node's
pub node_no_mask : (k i : ℕ) → NoMask (node_cell k i)
node_no_mask k i true g w e = omega arith
node_no_mask k i false g w e = omega arith

pub pointer_no_mask : (is_high : Bool) (g : ℕ) → NoMask (pointer_cell is_high g)
pointer_no_mask true g true h w e = omega arith
pointer_no_mask true g false h w e = omega arith
pointer_no_mask false g true h w e = omega arith
pointer_no_mask false g false h w e = omega arith

-- ---- so the same is read

time-same : (s r : List ℕ) → SameButMasks s r → (i : ℕ) → i < 7 → time_at r i ≡ time_at s i
time-same s r same i l =
    ap₂ (λ (x y : ℕ). x + y * two_32) (same i (low_no_mask i (omega arith))) (same (i + 1) (low_no_mask (i + 1) (omega arith)))

line_same : (s r : List ℕ) → SameButMasks s r → line_of r ≡ line_of s
line_same s r same =
    ap₂ (λ (x t : ℕ). if eqb x 0 then resting else busy t) (same busy_cell (low_no_mask busy_cell (omega arith)))
    (time-same s r same end_cell (omega arith))

pub core_same : (p : Plan) (s r : List ℕ) → SameButMasks s r → core_of p r ≡ core_of p s
unfolding core_of
core_same p s r same =
    λ i. record {
      clock = time-same s r same clock_cell (omega arith) i;
      line = line_same s r same i;
      request = λ k. (if is_node p k then request_of (same (request_cell k) (node_no_mask k 0) i) else none);
      force = λ k. (if is_node p k then share_of (same (force_cell k) (node_no_mask k 1) i) else nothing_reserved);
      latest = λ k. (if is_node p k then share_of (same (latest_cell k) (node_no_mask k 2) i) else nothing_reserved);
      granted = λ k. (if is_node p k then same (granted_cell k) (node_no_mask k 3) i else 0);
    }

pub counts_same : (p : Plan) (is_high : Bool) (s r : List ℕ) → SameButMasks s r → counts_of p is_high r ≡ counts_of p is_high s
counts_same p is_high s r same = ap (λ (x : Core). counts_in (class_of is_high) x) (core_same p s r same)

pub control-same : (p : Plan) → p.hubs ≤ 32 → (s r : List ℕ) → SameButMasks s r → control_of p r ≡ control_of p s
unfolding control_of
control-same p few s r same =
    λ i. record {
      holder = same holder_cell holder_no_mask i;
      latest = class_of (eqb (same class_cell class_no_mask i) 1);
      pointer = λ c g. (if is_hub p g then pointer_of (same (pointer_cell (is_class_high c) g) (pointer_no_mask (is_class_high c) g) i) else at_port 1);
    }

pub same_trans : (s r t : List ℕ) → SameButMasks s r → SameButMasks r t → SameButMasks s t
same_trans s r t first second i n = second i n ∙ first i n

-- two tables that agree at k and elsewhere
pub agree : {A : Type 0} {x y : ℕ → A} (k : ℕ) → x k ≡ y k → ((j : ℕ) → (j ≡ k → ⊥) → x j ≡ y j) → (j : ℕ) → x j ≡ y j
agree {A} {x} {y} k here there j = go (which (eqb j k))
  where
    go : Which (eqb j k) → x j ≡ y j
    go (yes' e) = subst (λ (i : ℕ). x i ≡ y i) (sym (eqb-true j k e)) here
    go (no' e) = there j (eqb-false j k e)
