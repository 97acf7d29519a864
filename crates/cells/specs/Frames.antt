-- The start of a frame, and the clock.
use Rattle.std.specs.Prelude.{ℕ, zero, suc, Bool, List, ltb, get_or, set, if◌then◌else◌}
use Rattle.rules.specs.Plan.{Plan}
use Rattle.rules.specs.Core.{reclassed, frame_of}
use Rattle.cells.specs.Layout.{clock_cell, time_at, put_time, request_cell, force_cell, latest_cell, granted_cell, request_of, request_code, share_of}
use Rattle.cells.specs.Decode.{plan_in}
use Rattle.cells.specs.Waits.{turn_all, start_by}
use Rattle.cells.specs.Build.{build_masks}

-- node k at a frame's start: its latest reservation comes into force, its request may turn normal, and its high grants count from 0
unfoldable pub start_cells : ℕ → List ℕ → List ℕ
start_cells k s =
    let r = get_or s (latest_cell k) 0 in
    set (set (set s (request_cell k) (request_code (reclassed (share_of r) (request_of (get_or s (request_cell k) 0))))) (force_cell k) r) (granted_cell k) 0

-- nodes n to 1
unfoldable pub start_nodes : ℕ → List ℕ → List ℕ
start_nodes zero s = s
start_nodes (suc n) s = start_nodes n (start_cells (suc n) s)

-- each node's cells, and then the masks
unfoldable pub start_frame : List ℕ → List ℕ → List ℕ
start_frame P s = build_masks P (start_nodes (plan_in P).nodes s)

-- whether the clock's frame ends at t or before
abbrev pub new_frame : Plan → ℕ → List ℕ → Bool
new_frame p t s = ltb (frame_of p (time_at s clock_cell)) (frame_of p t)

-- the clock comes to t; where a frame starts, the requests that it makes normal get its start
unfoldable pub advance_by : List ℕ → ℕ → List ℕ → List ℕ
advance_by P t s = put_time clock_cell t (if new_frame (plan_in P) t s then start_frame P (turn_all P (start_by P s) s) else s)
