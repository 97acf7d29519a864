-- The times at which the nodes' standing requests were first put up (request 1 of document 02): the last two tables of the cells.
use Rattle.std.specs.Prelude.{ℕ, zero, suc, ◌+◌, ◌-◌, ◌*◌, ◌/◌, ◌%◌, Bool, List, leb, get_or, set, if◌then◌else◌}
use Rattle.rules.specs.Plan.{Plan}
use Rattle.rules.specs.Waits.{turns_normal, next_start}
use Rattle.cells.specs.Layout.{two_32, time_at, clock_cell, request_cell, latest_cell, since_cell, since_high_cell, if_node, request_of, share_of}
use Rattle.cells.specs.Decode.{plan_in, is_node}
use Rattle.cells.specs.Masks.{stands_in}

-- node k's recorded time
abbrev pub since_at : ℕ → List ℕ → ℕ
since_at k s = get_or s (since_cell k) 0 + get_or s (since_high_cell k) 0 * two_32

-- the recorded times that the cells are
unfoldable pub times_of : Plan → List ℕ → ℕ → ℕ
times_of p s k = if is_node p k then since_at k s else 0

-- node k's two cells
unfoldable pub put_since : ℕ → ℕ → ℕ → List ℕ → List ℕ
put_since k low high s = set (set s (since_cell k) low) (since_high_cell k) high

-- node k as a frame starts at a time of these two halves: a request that turns normal gets that time, any other keeps its own
unfoldable pub turn_cells : ℕ → ℕ → ℕ → List ℕ → List ℕ
turn_cells low high k s =
    let turns = turns_normal (share_of (get_or s (latest_cell k) 0)) (request_of (get_or s (request_cell k) 0)) in
    put_since k (if turns then low else get_or s (since_cell k) 0) (if turns then high else get_or s (since_high_cell k) 0) s

-- nodes n to 1
unfoldable pub turn_nodes : ℕ → ℕ → ℕ → List ℕ → List ℕ
turn_nodes low high zero s = s
turn_nodes low high (suc n) s = turn_nodes low high n (turn_cells low high (suc n) s)

-- all nodes of the plan, as a frame starts at a time
unfoldable pub turn_all : List ℕ → ℕ → List ℕ → List ℕ
turn_all P start s = turn_nodes (start % two_32) (start / two_32) (plan_in P).nodes s

-- the start of the frame behind the clock's
abbrev pub start_by : List ℕ → List ℕ → ℕ
start_by P s = next_start (plan_in P) (time_at s clock_cell)

-- a request whose cell is to be x is put up by node k at t: where one of its class stands already, that one's time is kept
unfoldable pub record_since : ℕ → ℕ → ℕ → List ℕ → List ℕ
record_since k x t s =
    if_node k (if stands_in (leb 131072 x) (get_or s (request_cell k) 0) then s else put_since k (t % two_32) (t / two_32) s) s

-- the wait of node k at d: 0 where the recorded time is later, which no run leaves, and of a number that is no node
unfoldable pub wait_at : ℕ → ℕ → List ℕ → ℕ
wait_at d k s = if_node k (d - since_at k s) 0
