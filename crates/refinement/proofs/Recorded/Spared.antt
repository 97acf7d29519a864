-- The recorded times stay, whatever else a call stores: every other cell stands before theirs.
use Prim.Native.Nat.{ℕ, zero, suc, ◌+◌, ◌*◌, ◌≤◌, ◌<◌}
use mathlib.Core.Path.{◌≡◌, refl, ◌∙◌}
use mathlib.Core.Bool.{Bool, true, false}
use mathlib.Core.List.{List}
use native.Mathlib.Omega.{arith}
use native.Mathlib.Nat.{min-le_right}
use borrow.Author.Tests.{ltb-false}
use lib.Dec.{ltb}
use lib.ListN.{get_or, set}
use lib.Seq.{get_or-set_other}
use Rattle.std.specs.Prelude.{if◌then◌else◌}
use Rattle.rules.specs.Plan.{Plan}
use Rattle.rules.specs.Drawn.{Within}
use Rattle.rules.proofs.Laws.Passes.{Which, which, yes', no'}
use Rattle.plan.specs.Tables.{plan_of}
use Rattle.cells.specs.Layout.{two_32, clock_cell, end_cell, busy_cell, standing_cell, request_cell, force_cell, granted_cell, since_cell, since_high_cell, if_node, put_time}
use Rattle.cells.specs.Decode.{plan_in, is_node}
use Rattle.cells.specs.Masks.{standing_after, mend_class, put_request, granted_more, grant_node}
use Rattle.cells.specs.Waits.{times_of, turn_all, start_by}
use Rattle.cells.specs.Frames.{start_cells, start_nodes, start_frame, new_frame, advance_by}
use Rattle.cells.specs.Calls.{busy_until}
use Rattle.refinement.specs.Kept.{SameButMasks}
use Rattle.refinement.proofs.Mended.{class_same}
use Rattle.refinement.proofs.Built.{built_same}
use Rattle.refinement.proofs.Walked.Frame.{digit-up}

-- the same recorded times
pub record Spares (s r : List ℕ) : Type 0 where
  pub same : (i : ℕ) → since_cell 1 ≤ i → get_or r i 0 ≡ get_or s i 0

pub times-same : (p : Plan) {s r : List ℕ} → Spares s r → times_of p r ≡ times_of p s
unfolding times_of
times-same p x i k =
    if is_node p k then x.same (since_cell k) (omega arith) i + x.same (since_high_cell k) (omega arith) i * two_32 else 0

spares_stay : {s : List ℕ} → Spares s s
spares_stay = record { same = λ i l. refl }

pub spares_then : {s r t : List ℕ} → Spares s r → Spares r t → Spares s t
spares_then first second = record { same = λ i l. second.same i l ∙ first.same i l }

-- any cell before them
pub spares_set : (s : List ℕ) (i v : ℕ) → i < since_cell 1 → Spares s (set s i v)
spares_set s i v l = record { same = λ j m. get_or-set_other s i j v 0 (λ e. omega arith) }

spares_masks : {s r : List ℕ} → SameButMasks s r → Spares s r
spares_masks same = record { same = λ i l. same i (λ b g w e. omega (arith, digit-up b, w.up)) }

spares_time : (i t : ℕ) (s : List ℕ) → i < 7 → Spares s (put_time i t s)
unfolding put_time
spares_time i t s l = spares_then (spares_set s i _ (omega arith)) (spares_set _ (i + 1) _ (omega arith))

-- by cases on a test that both share, and on a node's number
spares_if : (b : Bool) {s r t u : List ℕ} → Spares s r → Spares t u → Spares (if b then s else t) (if b then r else u)
spares_if true x y = x
spares_if false x y = y

spares_node : (k : ℕ) {s r : List ℕ} → (Within 256 k → Spares s r) → Spares s (if_node k r s)
spares_node k {s} {r} x = go (which (ltb k 1)) (which (ltb 256 k))
  where
    go : Which (ltb k 1) → Which (ltb 256 k) → Spares s (if_node k r s)
    go (yes' e) h = rw e spares_stay
    go (no' e) (yes' h) = rw (e, h) spares_stay
    go (no' e) (no' h) = rw (e, h) (x (record { low = ltb-false k 1 e; up = ltb-false 256 k h }))

-- ---- requests and grants

pub request_spares : (P : List ℕ) (k x : ℕ) (s : List ℕ) → Spares s (put_request P k x s)
unfolding put_request
request_spares P k x s =
    let old = get_or s (request_cell k) 0 in
    let n = standing_after (get_or s standing_cell 0) old x in
    let left = set (set s standing_cell n) (request_cell k) x in
    let mended = mend_class P false k old x left in
    spares_node k
    (λ w.
    spares_then (spares_set s standing_cell n (omega arith))
    (spares_then (spares_set (set s standing_cell n) (request_cell k) x (omega (arith, w.up)))
    (spares_then {r = mended} (spares_masks (class_same P k old x false left)) (spares_masks (class_same P k old x true mended)))))

grant_spares : (P : List ℕ) (is_high : Bool) (k : ℕ) (s : List ℕ) → Spares s (grant_node P is_high k s)
unfolding grant_node
grant_spares P is_high k s =
    spares_node k
    (λ w.
    spares_then (spares_set s (granted_cell k) (granted_more is_high (get_or s (granted_cell k) 0)) (omega (arith, w.up))) (request_spares P k 0 _))

-- a grant, with the line busy until its end
pub busy_spares : (P : List ℕ) (is_high : Bool) (k end : ℕ) (s : List ℕ) → Spares s (busy_until end (grant_node P is_high k s))
unfolding busy_until
busy_spares P is_high k end s =
    spares_then (grant_spares P is_high k s) (spares_then (spares_set _ busy_cell 1 (omega arith)) (spares_time end_cell end _ (omega arith)))

-- ---- a frame's start, and the clock

start_spares : (n : ℕ) (s : List ℕ) → n ≤ 256 → Spares s (start_nodes n s)
unfolding start_nodes start_cells
start_spares zero s l = spares_stay
start_spares (suc n) s l =
    spares_then (spares_set s (request_cell (suc n)) _ (omega arith))
    (spares_then (spares_set _ (force_cell (suc n)) _ (omega arith))
    (spares_then (spares_set _ (granted_cell (suc n)) 0 (omega arith)) (start_spares n (start_cells (suc n) s) (omega arith))))

frame_spares : (P : List ℕ) (s : List ℕ) → Spares s (start_frame P s)
unfolding start_frame
frame_spares P s =
    spares_then (start_spares (plan_in P).nodes s (min-le_right (plan_of P).nodes 256)) (spares_masks (built_same P (start_nodes (plan_in P).nodes s)))

-- the cells whose recorded times are those once the clock has come to t
abbrev pub turned_by : List ℕ → ℕ → List ℕ → List ℕ
turned_by P t s = if new_frame (plan_in P) t s then turn_all P (start_by P s) s else s

pub advance_spares : (P : List ℕ) (t : ℕ) (s : List ℕ) → Spares (turned_by P t s) (advance_by P t s)
unfolding advance_by
advance_spares P t s =
    spares_then (spares_if (new_frame (plan_in P) t s) (frame_spares P (turn_all P (start_by P s) s)) spares_stay) (spares_time clock_cell t _ (omega arith))
