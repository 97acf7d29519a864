-- The worst case of a call: how many mask cells it writes, by the levels of the plan; at a frame's start by its
-- nodes and hubs. The counts stand beside the definitions of Masks, Build, Frames and Calls, case by case.
use Rattle.std.specs.Prelude.{ℕ, zero, suc, ◌+◌, Bool, true, false, ◌||◌, List, ltb, eqb, get_or, set, if◌then◌else◌, Option, Some, None}
use Rattle.rules.specs.Plan.{most_levels}
use Rattle.rules.specs.Call.{Call, ask, off, reserve, until, step, time}
use Rattle.ports.specs.Ports.{any_port}
use Rattle.ports.specs.Mask.{shows}
use Rattle.plan_tree.specs.Tables as plan
use Rattle.cells.specs.Sought.{Sought}
use Rattle.cells.specs.Sought as seek
use Rattle.cells.specs.Layout.{standing_cell, mask_cell, request_cell, force_cell, granted_cell, if_hub, if_node}
use Rattle.cells.specs.Decode.{plan_in}
use Rattle.cells.specs.Masks.{stands_in, counts_by, mask_with, alike, mend_class, standing_after, granted_more}
use Rattle.cells.specs.Waits.{record_since}
use Rattle.cells.specs.Build.{hubs_in}
use Rattle.cells.specs.Frames.{new_frame, advance_by}
use Rattle.cells.specs.Instants.{due_by, sought_by}
use Rattle.cells.specs.Turns.{Turned, choose_by}
use Rattle.cells.specs.Calls.{row_by, put_up_code}

-- ---- Masks

-- beside `mend`: each hub's mask is written once, up to where the climb ends
unfoldable pub mend_writes : List ℕ → Bool → ℕ → ℕ → ℕ → Bool → List ℕ → ℕ
mend_writes P is_high zero g q b s = 0
mend_writes P is_high (suc levels) g q b s =
    let old = get_or s (mask_cell is_high g) 0 in
    let mask = mask_with old q b in
    let left = set s (mask_cell is_high g) mask in
    if_hub g
    (if alike old mask then 1
    else mend_writes P is_high levels (get_or P (plan.parent_cell g) 0) (get_or P (plan.place_cell g) 0) (any_port (shows mask)) left + 1)
    0

-- beside `mend_bit`
unfoldable pub mend_bit_writes : List ℕ → Bool → ℕ → ℕ → List ℕ → ℕ
mend_bit_writes P is_high k x s =
    mend_writes P is_high most_levels (plan.hub_of_node P k) (plan.port_of_node P k)
    (counts_by is_high x (get_or s (granted_cell k) 0) (get_or s (force_cell k) 0)) s

-- beside `mend_class`
unfoldable pub mend_class_writes : List ℕ → Bool → ℕ → ℕ → ℕ → List ℕ → ℕ
mend_class_writes P is_high k old x s = if stands_in is_high x || stands_in is_high old then mend_bit_writes P is_high k x s else 0

-- beside `put_request`: of both classes; of one that neither the old request nor the new stands in, none
unfoldable pub put_request_writes : List ℕ → ℕ → ℕ → List ℕ → ℕ
put_request_writes P k x s =
    let old = get_or s (request_cell k) 0 in
    let left = set (set s standing_cell (standing_after (get_or s standing_cell 0) old x)) (request_cell k) x in
    if_node k (mend_class_writes P true k old x (mend_class P false k old x left) + mend_class_writes P false k old x left) 0

-- beside `grant_node`
unfoldable pub grant_node_writes : List ℕ → Bool → ℕ → List ℕ → ℕ
grant_node_writes P is_high k s =
    if_node k (put_request_writes P k 0 (set s (granted_cell k) (granted_more is_high (get_or s (granted_cell k) 0)))) 0

-- ---- Build

-- beside `clear_masks`: both masks of each hub
unfoldable pub clear_writes : ℕ → ℕ
clear_writes zero = 0
clear_writes (suc n) = clear_writes n + 2

-- beside `show_port`
abbrev pub show_port_writes : ℕ → ℕ
show_port_writes g = if_hub g 1 0

-- beside `show_nodes`: one mask for each node
unfoldable pub show_nodes_writes : List ℕ → ℕ → ℕ
show_nodes_writes P zero = 0
show_nodes_writes P (suc n) = show_nodes_writes P n + show_port_writes (plan.hub_of_node P (suc n))

-- beside `show_hub` and `show_hubs`: both masks of a hub's parent
unfoldable pub show_hub_writes : List ℕ → ℕ → ℕ
show_hub_writes P g = show_port_writes (get_or P (plan.parent_cell g) 0) + show_port_writes (get_or P (plan.parent_cell g) 0)

unfoldable pub show_hubs_writes : List ℕ → ℕ → ℕ
show_hubs_writes P zero = 0
show_hubs_writes P (suc n) = show_hubs_writes P n + show_hub_writes P (suc n)

-- beside `build_masks`
unfoldable pub build_writes : List ℕ → ℕ
build_writes P = show_hubs_writes P (hubs_in P) + show_nodes_writes P (plan_in P).nodes + clear_writes (hubs_in P)

-- ---- Frames

-- beside `start_frame` and `advance_by`: only a frame's start writes
unfoldable pub advance_writes : List ℕ → ℕ → List ℕ → ℕ
advance_writes P t s = if new_frame (plan_in P) t s then build_writes P else 0

-- ---- Calls

-- beside `change_by`
unfoldable pub change_writes : List ℕ → Call → List ℕ → ℕ
change_writes P (ask c t k b) s = put_request_writes P k (put_up_code c k b s) (record_since k (put_up_code c k b s) t s)
change_writes P (off t k) s = put_request_writes P k 0 s
change_writes P (reserve t k n b) s = 0
change_writes P (until t) s = 0
change_writes P (step t) s = 0

-- beside `event_by`
unfoldable pub event_writes : List ℕ → Call → List ℕ → ℕ
event_writes P call s =
    if eqb (row_by P call s) 0 then change_writes P call (advance_by P (time call) s) + advance_writes P (time call) s else 0

-- beside `grant_by`, and `handled_by`: a rest writes none
unfoldable pub grant_writes : List ℕ → Bool → Turned → ℕ
grant_writes P is_high w = grant_node_writes P is_high w.turn.node w.cells

unfoldable pub handled_writes : List ℕ → Sought → List ℕ → ℕ
handled_writes P (seek.Class is_high) s = grant_writes P is_high (choose_by P is_high s)
handled_writes P seek.Nothing s = 0

-- beside `step_due` and `step_by`
unfoldable pub step_due_writes : List ℕ → Option ℕ → ℕ → List ℕ → ℕ
step_due_writes P None t s = 0
step_due_writes P (Some d) t s =
    if ltb d t then handled_writes P (sought_by (advance_by P d s)) (advance_by P d s) + advance_writes P d s else 0

unfoldable pub step_writes : List ℕ → ℕ → List ℕ → ℕ
step_writes P t s = if eqb (row_by P (step t) s) 0 then step_due_writes P (due_by (plan_in P) s) t s else 0

-- beside `perform_by`: the mask cells that one call writes
unfoldable pub call_writes : List ℕ → Call → List ℕ → ℕ
call_writes P (step t) s = step_writes P t s
call_writes P (ask c t k b) s = event_writes P (ask c t k b) s
call_writes P (off t k) s = event_writes P (off t k) s
call_writes P (reserve t k n b) s = event_writes P (reserve t k n b) s
call_writes P (until t) s = event_writes P (until t) s
