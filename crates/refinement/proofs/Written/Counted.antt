-- No mask changes that isn't counted: each count is at least the masks that its definition changes, for every content of both tables.
use Prim.Native.Nat.{ℕ, zero, suc, ◌+◌, ◌-◌, ◌/◌, ◌≤◌}
use mathlib.Core.Path.{◌≡◌, refl}
use mathlib.Core.Bool.{Bool, true, false, ◌||◌}
use mathlib.Core.List.{List}
use native.Mathlib.Omega.{arith}
use native.Mathlib.Nat.{min-le_right}
use lib.Dec.{ltb, eqb, leb}
use lib.ListN.{get_or, set}
use Rattle.std.specs.Prelude.{if◌then◌else◌, Option, Some, None}
use Rattle.rules.specs.Plan.{Port, node, empty, hub, most_levels, most_hubs}
use Rattle.rules.specs.Control.{most_looks}
use Rattle.rules.specs.Drawn.{Within}
use Rattle.rules.specs.Call.{Call, ask, off, reserve, until, step, time}
use Rattle.rules.proofs.Laws.Passes.{Which, which, yes', no'}
use Rattle.ports.specs.Ports.{with_port, any_port}
use Rattle.ports.specs.Mask.{shows, mask_of, digit}
use Rattle.ports.specs.Search.{lowest_from}
use Rattle.plan_tree.specs.Tables as plan
use Rattle.cells.specs.declared.Look.{Look}
use Rattle.cells.specs.declared.Look.TheVariants.{Node, Pass, Round, Stop}
use Rattle.cells.specs.declared.Turn.{Turn}
use Rattle.cells.specs.Sought.{Sought}
use Rattle.cells.specs.Sought as seek
use Rattle.cells.specs.Layout.{clock_cell, end_cell, busy_cell, holder_cell, class_cell, standing_cell, mask_cell, pointer_cell, request_cell, force_cell, latest_cell, granted_cell, put_time, share_code, unmarked_code, marked_code}
use Rattle.cells.specs.Decode.{plan_in}
use Rattle.cells.specs.Masks.{stands, stands_in, counts_by, mask_with, alike, mend, mend_bit, mend_class, standing_after, put_request, granted_more, grant_node}
use Rattle.cells.specs.Waits.{turn_all, start_by, record_since}
use Rattle.cells.specs.Build.{clear_masks, show_port, show_request, show_nodes, summary, show_hub, show_hubs, hubs_in, build_masks}
use Rattle.cells.specs.Frames.{start_cells, start_nodes, start_frame, new_frame, advance_by}
use Rattle.cells.specs.Instants.{due_by, sought_by}
use Rattle.cells.specs.Turns.{Looked, Turned, down_by, take_by, up_by, hand_up_by, found_by, look_by, after_look, walk_by, turning_by, climb_by, walked, settled, choose_by}
use Rattle.cells.specs.Calls.{row_by, put_up_code, change_by, event_by, busy_until, resting, grant_by, rest_by, handled_by, step_due, step_by, event_left, perform_by}
use Rattle.cells.specs.Written.{mend_writes, mend_bit_writes, mend_class_writes, put_request_writes, grant_node_writes, clear_writes, show_port_writes, show_nodes_writes, show_hub_writes, show_hubs_writes, build_writes, advance_writes, change_writes, event_writes, grant_writes, handled_writes, step_due_writes, step_writes, call_writes}
use Rattle.refinement.proofs.Same.{low_no_mask, node_no_mask, pointer_no_mask}
use Rattle.refinement.proofs.OtherTimes.{all_other, record_other}
use Rattle.refinement.proofs.Written.Changed.{Wrote, wrote_stay, wrote_off, wrote_times, wrote_then, wrote_behind, wrote_before, wrote_one, wrote_if, wrote_hub, wrote_node}

-- what holds of both of two holds of the one that a test chooses
if_holds : {A : Type 0} (C : A → Type 0) (b : Bool) {x y : A} → C x → C y → C (if b then x else y)
if_holds C true a z = a
if_holds C false a z = z

put-time : (i t : ℕ) (s : List ℕ) → i ≤ 6 → Wrote 0 s (put_time i t s)
unfolding put_time
put-time i t s l =
    wrote_behind (wrote_off s i _ (low_no_mask i (omega arith))) (wrote_off _ (i + 1) _ (low_no_mask (i + 1) (omega arith)))

-- ---- Masks

module _ (P : List ℕ) where
  mend_counted : (is_high : Bool) (levels g q : ℕ) (b : Bool) (s : List ℕ)
      → Wrote (mend_writes P is_high levels g q b s) s (mend P is_high levels g q b s)
  unfolding mend mend_writes
  mend_counted is_high zero g q b s = wrote_stay
  mend_counted is_high (suc levels) g q b s =
      let mask = mask_with (get_or s (mask_cell is_high g) 0) q b in
      let left = set s (mask_cell is_high g) mask in
      wrote_hub g
      (λ w.
      wrote_if (alike (get_or s (mask_cell is_high g) 0) mask) (wrote_one is_high g mask s w)
      (wrote_then (wrote_one is_high g mask s w)
      (mend_counted is_high levels (get_or P (plan.parent_cell g) 0) (get_or P (plan.place_cell g) 0) (any_port (shows mask)) left)))

  class_counted : (is_high : Bool) (k old x : ℕ) (s : List ℕ) → Wrote (mend_class_writes P is_high k old x s) s (mend_class P is_high k old x s)
  unfolding mend_class mend_class_writes mend_bit mend_bit_writes
  class_counted is_high k old x s =
      wrote_if (stands_in is_high x || stands_in is_high old)
      (mend_counted is_high most_levels (plan.hub_of_node P k) (plan.port_of_node P k)
      (counts_by is_high x (get_or s (granted_cell k) 0) (get_or s (force_cell k) 0)) s)
      wrote_stay

  request_counted : (k x : ℕ) (s : List ℕ) → Wrote (put_request_writes P k x s) s (put_request P k x s)
  unfolding put_request put_request_writes
  request_counted k x s =
      let old = get_or s (request_cell k) 0 in
      let n = standing_after (get_or s standing_cell 0) old x in
      let left = set (set s standing_cell n) (request_cell k) x in
      wrote_node k
      (wrote_behind (wrote_off s standing_cell n (low_no_mask standing_cell (omega arith)))
      (wrote_behind (wrote_off (set s standing_cell n) (request_cell k) x (node_no_mask k 0))
      (wrote_then (class_counted false k old x left) (class_counted true k old x (mend_class P false k old x left)))))

  grant_counted : (is_high : Bool) (k : ℕ) (s : List ℕ) → Wrote (grant_node_writes P is_high k s) s (grant_node P is_high k s)
  unfolding grant_node grant_node_writes
  grant_counted is_high k s =
      let n = granted_more is_high (get_or s (granted_cell k) 0) in
      wrote_node k (wrote_behind (wrote_off s (granted_cell k) n (node_no_mask k 3)) (request_counted k 0 (set s (granted_cell k) n)))

  -- ---- Build and Frames

  clear_counted : (n : ℕ) (s : List ℕ) → n ≤ 32 → Wrote (clear_writes n) s (clear_masks n s)
  unfolding clear_masks clear_writes
  clear_counted zero s l = wrote_stay
  clear_counted (suc n) s l =
      let w : Within 32 (suc n) = record { low = omega arith; up = l } in
      let first = set s (mask_cell false (suc n)) 0 in
      wrote_then (wrote_then (wrote_one false (suc n) 0 s w) (wrote_one true (suc n) 0 first w))
      (clear_counted n (set first (mask_cell true (suc n)) 0) (omega arith))

  port_counted : (is_high : Bool) (g q : ℕ) (b : Bool) (s : List ℕ) → Wrote (show_port_writes g) s (show_port is_high g q b s)
  unfolding show_port
  port_counted is_high g q b s =
      wrote_hub g (λ w. wrote_one is_high g (mask_of (with_port (shows (get_or s (mask_cell is_high g) 0)) q b)) s w)

  shown_counted : (k : ℕ) (s : List ℕ) → Wrote (show_port_writes (plan.hub_of_node P k)) s (show_request P k s)
  unfolding show_request
  shown_counted k s =
      let x = get_or s (request_cell k) 0 in
      port_counted (leb 131072 x) (plan.hub_of_node P k) (plan.port_of_node P k) (stands x) s

  nodes_counted : (n : ℕ) (s : List ℕ) → Wrote (show_nodes_writes P n) s (show_nodes P n s)
  unfolding show_nodes show_nodes_writes
  nodes_counted zero s = wrote_stay
  nodes_counted (suc n) s = wrote_then (shown_counted (suc n) s) (nodes_counted n (show_request P (suc n) s))

  hub_counted : (g : ℕ) (s : List ℕ) → Wrote (show_hub_writes P g) s (show_hub P g s)
  unfolding show_hub show_hub_writes
  hub_counted g s =
      let parent = get_or P (plan.parent_cell g) 0 in
      let place = get_or P (plan.place_cell g) 0 in
      wrote_then (port_counted false parent place (summary false g s) s)
      (port_counted true parent place (summary true g s) (show_port false parent place (summary false g s) s))

  hubs_counted : (n : ℕ) (s : List ℕ) → Wrote (show_hubs_writes P n) s (show_hubs P n s)
  unfolding show_hubs show_hubs_writes
  hubs_counted zero s = wrote_stay
  hubs_counted (suc n) s = wrote_then (hub_counted (suc n) s) (hubs_counted n (show_hub P (suc n) s))

  build_counted : (s : List ℕ) → Wrote (build_writes P) s (build_masks P s)
  unfolding build_masks build_writes
  build_counted s =
      let cleared = clear_masks (hubs_in P) s in
      let c = clear_counted (hubs_in P) s (min-le_right (plan_in P).hubs most_hubs) in
      let n = nodes_counted (plan_in P).nodes cleared in
      let h = hubs_counted (hubs_in P) (show_nodes P (plan_in P).nodes cleared) in
      record { few = omega (arith, (wrote_then c (wrote_then n h)).few) }

  start_same : (n : ℕ) (s : List ℕ) → Wrote 0 s (start_nodes n s)
  unfolding start_nodes start_cells
  start_same zero s = wrote_stay
  start_same (suc n) s =
      wrote_behind
      (wrote_behind (wrote_behind (wrote_off s (request_cell (suc n)) _ (node_no_mask (suc n) 0)) (wrote_off _ (force_cell (suc n)) _ (node_no_mask (suc n) 1)))
      (wrote_off _ (granted_cell (suc n)) 0 (node_no_mask (suc n) 3)))
      (start_same n (start_cells (suc n) s))

  advance_counted : (t : ℕ) (s : List ℕ) → Wrote (advance_writes P t s) s (advance_by P t s)
  unfolding advance_by advance_writes start_frame
  advance_counted t s =
      let turned = turn_all P (start_by P s) s in
      let started = start_nodes (plan_in P).nodes turned in
      wrote_before
      (wrote_if (new_frame (plan_in P) t s)
      (wrote_behind (wrote_times (all_other P (start_by P s) s)) (wrote_behind (start_same (plan_in P).nodes turned) (build_counted started))) wrote_stay)
      (put-time clock_cell t _ (omega arith))

  -- ---- Turns

  module _ (is_high : Bool) where
    pointer_same : (g v : ℕ) (s : List ℕ) → Wrote 0 s (set s (pointer_cell is_high g) v)
    pointer_same g v s = wrote_off s (pointer_cell is_high g) v (pointer_no_mask is_high g)

    down-same : (g q h : ℕ) (s : List ℕ) → Wrote 0 s (down_by is_high g q h s)
    unfolding down_by
    down-same g q h s =
        let left = set s (pointer_cell is_high g) (marked_code q) in
        wrote_behind (pointer_same g (marked_code q) s)
        (if_holds (Wrote 0 left) (eqb (get_or s (pointer_cell is_high g) 0) (marked_code q)) wrote_stay (pointer_same h (unmarked_code 1) left))

    take_same : (g q : ℕ) (x : Port) (s : List ℕ) → Wrote 0 s (take_by is_high g q x s).cells
    unfolding take_by
    take_same g q (node k) s = pointer_same g (unmarked_code (q + 1)) s
    take_same g q empty s = wrote_stay
    take_same g q (hub h) s = if_holds (λ (x : Looked). Wrote 0 s x.cells) (ltb 32 h) wrote_stay (down-same g q h s)

    up_same : (h q : ℕ) (s : List ℕ) → Wrote 0 s (up_by is_high h q s).cells
    unfolding up_by
    up_same h q s =
        if_holds (λ (x : Looked). Wrote 0 s x.cells) (ltb h 1) wrote_stay
        (if_holds (λ (x : Looked). Wrote 0 s x.cells) (ltb 32 h) wrote_stay
        (if_holds (λ (x : Looked). Wrote 0 s x.cells) (ltb 32 q) wrote_stay (pointer_same h (unmarked_code (q + 1)) s)))

    found-same : (g : ℕ) (x : Option ℕ) (s : List ℕ) → Wrote 0 s (found_by P is_high g x s).cells
    unfolding found_by hand_up_by
    found-same g (Some q) s = take_same g q (plan.port_of (get_or P (plan.port_cell g q) 0)) s
    found-same g None s =
        if_holds (λ (x : Looked). Wrote 0 s x.cells) (eqb g 1) (pointer_same 1 (unmarked_code 1) s)
        (up_same (get_or P (plan.parent_cell g) 0) (get_or P (plan.place_cell g) 0) s)

    look_same : (g : ℕ) (s : List ℕ) → Wrote 0 s (look_by P is_high g s).cells
    unfolding look_by
    look_same g s = found-same g (lowest_from (shows (get_or s (mask_cell is_high g) 0)) (get_or s (pointer_cell is_high g) 0 / 2)) s

    after_same : (again : ℕ → ℕ → List ℕ → Turned) → ((g m : ℕ) (s : List ℕ) → Wrote 0 s (again g m s).cells)
        → (g m : ℕ) (x : Look) (s : List ℕ) → Wrote 0 s (after_look P is_high again g m x s).cells
    unfolding after_look
    after_same again on g m (Node k) s = wrote_stay
    after_same again on g m (Pass h) s = on h (m + 1) s
    after_same again on g m Round s = on 1 m s
    after_same again on g m Stop s = wrote_stay

    walk_same : (looks g m : ℕ) (s : List ℕ) → Wrote 0 s (walk_by P is_high looks g m s).cells
    unfolding walk_by
    walk_same zero g m s = wrote_stay
    walk_same (suc looks) g m s =
        let onward = after_same (walk_by P is_high looks) (walk_same looks) g m (look_by P is_high g s).look (look_by P is_high g s).cells in
        if_holds (λ (x : Turned). Wrote 0 s x.cells) (ltb g 1) wrote_stay
        (if_holds (λ (x : Turned). Wrote 0 s x.cells) (ltb 32 g) wrote_stay (wrote_behind (look_same g s) onward))

    settled_same : (t : Turn) (s : List ℕ) → Wrote 0 s (settled is_high t s)
    unfolding settled
    settled_same t s =
        let held = set s holder_cell t.hub in
        wrote_behind (wrote_off s holder_cell t.hub (low_no_mask holder_cell (omega arith)))
        (if_holds (Wrote 0 held) (eqb t.node 0) wrote_stay (wrote_off held class_cell (digit is_high) (low_no_mask class_cell (omega arith))))

    choose_same : (s : List ℕ) → Wrote 0 s (choose_by P is_high s).cells
    unfolding choose_by walked
    choose_same s =
        wrote_behind
        (if_holds (λ (x : Turned). Wrote 0 s x.cells) (eqb (get_or s class_cell 0) (digit is_high))
        (walk_same most_looks (get_or s holder_cell 0) 0 s)
        (walk_same most_looks (turning_by P is_high s) (climb_by P (get_or s holder_cell 0) - climb_by P (turning_by P is_high s)) s))
        (settled_same (walked P is_high s).turn (walked P is_high s).cells)

  -- ---- Calls

  change_counted : (call : Call) (s : List ℕ) → Wrote (change_writes P call s) s (change_by P call s)
  unfolding change_by change_writes
  change_counted (ask c t k b) s =
      let x = put_up_code c k b s in
      wrote_behind (wrote_times (record_other k x t s)) (request_counted k x (record_since k x t s))
  change_counted (off t k) s = request_counted k 0 s
  change_counted (reserve t k n b) s = wrote_off s (latest_cell k) (share_code n b) (node_no_mask k 2)
  change_counted (until t) s = wrote_stay
  change_counted (step t) s = wrote_stay

  event_counted : (call : Call) (s : List ℕ) → Wrote (event_writes P call s) s (event_by P call s)
  unfolding event_by event_writes
  event_counted call s =
      wrote_if (eqb (row_by P call s) 0) (wrote_then (advance_counted (time call) s) (change_counted call (advance_by P (time call) s))) wrote_stay

  handled_counted : (d : ℕ) (x : Sought) (s : List ℕ) → Wrote (handled_writes P x s) s (handled_by P d x s).cells
  unfolding handled_by grant_by rest_by busy_until resting handled_writes grant_writes
  handled_counted d (seek.Class is_high) s =
      let w = choose_by P is_high s in
      wrote_before
      (wrote_before (wrote_behind (choose_same is_high s) (grant_counted is_high w.turn.node w.cells))
      (wrote_off _ busy_cell 1 (low_no_mask busy_cell (omega arith))))
      (put-time end_cell _ _ (omega arith))
  handled_counted d seek.Nothing s =
      wrote_behind (wrote_off s holder_cell 1 (low_no_mask holder_cell (omega arith))) (wrote_off _ busy_cell 0 (low_no_mask busy_cell (omega arith)))

  due_counted : (x : Option ℕ) (t : ℕ) (s : List ℕ) → Wrote (step_due_writes P x t s) s (step_due P x t s).cells
  unfolding step_due step_due_writes
  due_counted None t s = wrote_stay
  due_counted (Some d) t s = go (which (ltb d t))
    where
      go : Which (ltb d t) → Wrote (step_due_writes P (Some d) t s) s (step_due P (Some d) t s).cells
      go (yes' e) = rw e (wrote_then (advance_counted d s) (handled_counted d (sought_by (advance_by P d s)) (advance_by P d s)))
      go (no' e) = rw e wrote_stay

  step_counted : (t : ℕ) (s : List ℕ) → Wrote (step_writes P t s) s (step_by P t s).cells
  unfolding step_by step_writes
  step_counted t s = go (which (eqb (row_by P (step t) s) 0))
    where
      go : Which (eqb (row_by P (step t) s) 0) → Wrote (step_writes P t s) s (step_by P t s).cells
      go (yes' e) = rw e (due_counted (due_by (plan_in P) s) t s)
      go (no' e) = rw e wrote_stay

  pub call_counted : (call : Call) (s : List ℕ) → Wrote (call_writes P call s) s (perform_by P call s).cells
  unfolding perform_by event_left call_writes
  call_counted (ask c t k b) s = event_counted (ask c t k b) s
  call_counted (off t k) s = event_counted (off t k) s
  call_counted (reserve t k n b) s = event_counted (reserve t k n b) s
  call_counted (until t) s = event_counted (until t) s
  call_counted (step t) s = step_counted t s
