-- Whole runs of the program, as document 01's log and the vectors of the same
-- names give them: each event behind the answers of the steps before it.
use Rattle.std.specs.Prelude.{List, [], ◌∷◌}
use Rattle.rules.specs.Call.{normal, high, ask, off, reserve, until, taken, refused, grant, rest}
use Rattle.trials.specs.Row.{Row, ◌⟶◌, ◌before◌, running}
use Rattle.trials.specs.Plans.{plan01, two_deep}

-- document 01's own run, under "The log"
abbrev pub example : Row
example =
    running plan01 4 2
    ([] before reserve 0 3 2 4000 ⟶ taken
    ∷ [] before ask normal 0 1 12000 ⟶ taken
    ∷ [] before ask normal 0 4 6000 ⟶ taken
    ∷ [] before ask high 0 3 4000 ⟶ refused 16
    ∷ (grant 0 1 normal 13000 0 ∷ grant 13000 4 normal 20000 0 ∷ rest 20000 0 ∷ []) before ask normal 99000 2 12000 ⟶ taken
    ∷ (grant 99000 2 normal 112000 1 ∷ []) before ask high 100000 3 4000 ⟶ taken
    ∷ [] before ask normal 100000 1 1000 ⟶ taken
    ∷ (grant 112000 3 high 117000 2 ∷ grant 117000 1 normal 119000 1 ∷ rest 119000 0 ∷ []) before until 200000 ⟶ taken
    ∷ [])

-- the change to high takes control to the root, as no high pointer is marked, and at the change back the lower hub resumes at its pointer
abbrev pub class_change_and_resume : Row
class_change_and_resume =
    running plan01 4 2
    ([] before reserve 0 4 2 512 ⟶ taken
    ∷ [] before ask normal 100000 2 12000 ⟶ taken
    ∷ (grant 100000 2 normal 113000 1 ∷ []) before ask high 100001 4 512 ⟶ taken
    ∷ (grant 113000 4 high 114512 1 ∷ []) before until 113001 ⟶ taken
    ∷ [] before ask normal 113001 2 600 ⟶ taken
    ∷ [] before ask normal 113001 3 600 ⟶ taken
    ∷ (grant 114512 3 normal 116112 1 ∷ grant 116112 2 normal 117712 2 ∷ rest 117712 1 ∷ []) before until 200000 ⟶ taken
    ∷ [])

-- a high request above its share is held up to the next frame
abbrev pub held_to_next_frame : Row
held_to_next_frame =
    running plan01 4 2
    ([] before reserve 0 3 1 4000 ⟶ taken
    ∷ [] before ask high 100000 3 4000 ⟶ taken
    ∷ (grant 100000 3 high 105000 1 ∷ []) before ask high 100500 3 4000 ⟶ taken
    ∷ (rest 105000 1 ∷ grant 200000 3 high 205000 3 ∷ rest 205000 1 ∷ []) before until 300000 ⟶ taken
    ∷ [])

-- a rest moves no pointer, so no turn is lost
abbrev pub turn_lost_by_no_rest : Row
turn_lost_by_no_rest =
    running plan01 4 2
    ([] before ask normal 0 2 512 ⟶ taken
    ∷ (grant 0 2 normal 1512 1 ∷ rest 1512 1 ∷ []) before until 5000 ⟶ taken
    ∷ [] before ask normal 5000 3 512 ⟶ taken
    ∷ [] before ask normal 5000 1 512 ⟶ taken
    ∷ (grant 5000 3 normal 6512 1 ∷ grant 6512 1 normal 8024 1 ∷ rest 8024 0 ∷ []) before until 9000 ⟶ taken
    ∷ [] before ask normal 9000 2 512 ⟶ taken
    ∷ (grant 9000 2 normal 10512 1 ∷ rest 10512 1 ∷ []) before until 20000 ⟶ taken
    ∷ [])

-- high requests without a reservation, or above its bits, become normal at a frame start
abbrev pub turned_normal_at_frame_start : Row
turned_normal_at_frame_start =
    running plan01 4 2
    ([] before reserve 0 3 1 4000 ⟶ taken
    ∷ [] before reserve 0 4 1 4000 ⟶ taken
    ∷ [] before ask high 100000 3 4000 ⟶ taken
    ∷ (grant 100000 3 high 105000 1 ∷ []) before ask high 100001 3 4000 ⟶ taken
    ∷ [] before ask high 100001 4 3000 ⟶ taken
    ∷ [] before reserve 100002 3 0 0 ⟶ taken
    ∷ (grant 105000 4 high 109000 1 ∷ []) before ask high 105500 4 4000 ⟶ taken
    ∷ (rest 109000 0 ∷ []) before reserve 150000 4 1 2000 ⟶ taken
    ∷ (grant 200000 3 normal 205000 1 ∷ grant 205000 4 normal 210000 1 ∷ rest 210000 0 ∷ []) before until 400000 ⟶ taken
    ∷ [])

-- 16 moves in one step: up, down a marked line, up it, and down again
abbrev pub most_moves : Row
most_moves =
    running two_deep 4 9
    ([] before reserve 0 1 3 512 ⟶ taken
    ∷ [] before reserve 0 2 3 512 ⟶ taken
    ∷ [] before reserve 0 3 3 512 ⟶ taken
    ∷ [] before reserve 0 4 3 512 ⟶ taken
    ∷ [] before ask normal 100700 3 512 ⟶ taken
    ∷ (grant 100700 3 normal 102212 4 ∷ []) before ask normal 102212 2 512 ⟶ taken
    ∷ (grant 102212 2 normal 103724 8 ∷ []) before ask normal 102912 3 512 ⟶ taken
    ∷ [] before ask normal 103612 3 512 ⟶ taken
    ∷ [] before ask high 103612 3 512 ⟶ taken
    ∷ (grant 103724 3 high 105236 8 ∷ []) before ask high 104312 3 512 ⟶ taken
    ∷ [] before ask high 104312 4 512 ⟶ taken
    ∷ [] before ask normal 104312 3 512 ⟶ taken
    ∷ [] before ask high 104312 4 512 ⟶ taken
    ∷ [] before ask high 104312 3 512 ⟶ taken
    ∷ (grant 105236 4 high 106748 0 ∷ []) before ask normal 105824 4 512 ⟶ taken
    ∷ [] before ask normal 105824 2 512 ⟶ taken
    ∷ [] before ask normal 105824 4 512 ⟶ taken
    ∷ [] before ask high 106524 3 512 ⟶ taken
    ∷ (grant 106748 3 high 108260 8 ∷ grant 108260 4 normal 109772 16 ∷ grant 109772 2 normal 111284 8 ∷ rest 111284 4 ∷ []) before until 400000 ⟶ taken
    ∷ [])

-- reservations that the frame can hold and those that it can't
abbrev pub admission : Row
admission =
    running plan01 4 2
    ([] before reserve 0 3 29 2001 ⟶ refused 17
    ∷ [] before reserve 0 3 29 2000 ⟶ taken
    ∷ [] before reserve 0 1 1 512 ⟶ refused 17
    ∷ [] before reserve 0 3 28 2000 ⟶ taken
    ∷ [] before reserve 0 1 1 512 ⟶ taken
    ∷ [] before reserve 0 1 2 1000 ⟶ refused 17
    ∷ [] before reserve 0 3 0 0 ⟶ taken
    ∷ [] before reserve 0 1 64 512 ⟶ refused 17
    ∷ [] before reserve 0 1 57 512 ⟶ taken
    ∷ [] before reserve 0 1 65 512 ⟶ refused 14
    ∷ [] before reserve 0 1 0 512 ⟶ refused 15
    ∷ [] before reserve 0 1 1 511 ⟶ refused 15
    ∷ [] before reserve 0 1 1 12001 ⟶ refused 15
    ∷ [] before reserve 0 1 1 12000 ⟶ taken
    ∷ [])

-- an event at the due instant itself is not too late, and a step to it is quiet
abbrev pub due_at_its_own_instant : Row
due_at_its_own_instant =
    running plan01 4 2
    ([] before ask normal 0 1 12000 ⟶ taken
    ∷ (grant 0 1 normal 13000 0 ∷ []) before ask normal 13000 2 600 ⟶ taken
    ∷ (grant 13000 2 normal 14600 1 ∷ []) before ask normal 13001 3 600 ⟶ taken
    ∷ [] before until 14600 ⟶ taken
    ∷ (grant 14600 3 normal 16200 0 ∷ []) before until 14601 ⟶ taken
    ∷ [])

-- both ends of a length, and nodes that the plan lacks
abbrev pub lengths_and_nodes : Row
lengths_and_nodes =
    running plan01 4 2
    ([] before ask normal 0 1 511 ⟶ refused 15
    ∷ [] before ask normal 0 1 512 ⟶ taken
    ∷ (grant 0 1 normal 1512 0 ∷ []) before ask normal 1 2 12001 ⟶ refused 15
    ∷ [] before ask normal 1 2 12000 ⟶ taken
    ∷ [] before ask normal 2 0 600 ⟶ refused 13
    ∷ [] before ask normal 2 5 600 ⟶ refused 13
    ∷ [] before off 3 5 ⟶ refused 13
    ∷ [] before off 3 2 ⟶ taken
    ∷ [] before ask high 4 1 511 ⟶ refused 15
    ∷ [] before ask high 4 1 512 ⟶ refused 16
    ∷ (rest 1512 0 ∷ []) before until 90000 ⟶ taken
    ∷ [])

-- the greatest time, one above it and one before the clock, which the program makes no step for
abbrev pub times : Row
times =
    running plan01 4 2
    ([] before until 1000000000000000 ⟶ taken
    ∷ (until 1000000000000001 ⟶ refused 11 ∷ [])
    ∷ (until 999999999999999 ⟶ refused 11 ∷ [])
    ∷ [] before ask normal 1000000000000000 1 512 ⟶ taken
    ∷ [] before until 1000000000000000 ⟶ taken
    ∷ [])

abbrev pub runs : List Row
runs = class_change_and_resume ∷ held_to_next_frame ∷ turn_lost_by_no_rest ∷ turned_normal_at_frame_start ∷ most_moves ∷ admission ∷ due_at_its_own_instant ∷ lengths_and_nodes ∷ times ∷ []
