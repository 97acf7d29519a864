-- What each call answers, and the cells that it leaves.
use Rattle.std.specs.Prelude.{ℕ, ◌+◌, ◌≡◌, Bool, true, false, List, [], ◌∷◌, ltb, eqb, get_or, set, if◌then◌else◌, Option, Some, None}
use Rattle.rules.specs.Plan.{Plan}
use Rattle.rules.specs.Call.{Class, normal, high, Call, ask, off, reserve, until, step, time, Answer, taken, refused, grant, rest, quiet}
use Rattle.rules.specs.Core.{standing, bits_of, before}
use Rattle.rules.specs.Rows.{Row, Verdict, accept, refuse, first_row, row11, row13, row14, row15, row15r, row16, row17, put_up}
use Rattle.cells.specs.Sought.{Sought}
use Rattle.cells.specs.Sought as seek
use Rattle.cells.specs.Step.{class_number, Step, Grant, Rest, Quiet, Refused}
use Rattle.cells.specs.Layout.{end_cell, busy_cell, holder_cell, request_cell, force_cell, latest_cell, if_node, put_time, share_code, share_of, request_of, request_code}
use Rattle.cells.specs.Decode.{plan_in, core_of}
use Rattle.cells.specs.Masks.{put_request, grant_node}
use Rattle.cells.specs.Waits.{record_since, wait_at}
use Rattle.cells.specs.Frames.{advance_by}
use Rattle.cells.specs.Instants.{due_by, due_in, sought_by}
use Rattle.cells.specs.Turns.{Turned, choose_by, climb_by}

-- 12, by the masks
abbrev pub row12_by : Plan → List ℕ → ℕ → Row
row12_by p s t = record { number = 12; applies = before (due_in (due_by p s)) t }

-- the rows of `rules` over the hub that the cells are
unfoldable pub rows_by : Plan → List ℕ → Call → List Row
rows_by p s (ask c t k b) =
    row11 (core_of p s) t ∷ row12_by p s t ∷ row13 p k ∷ row15 p b ∷ row16 p (core_of p s) c t k b ∷ []
rows_by p s (off t k) = row11 (core_of p s) t ∷ row12_by p s t ∷ row13 p k ∷ []
rows_by p s (reserve t k n b) =
    row11 (core_of p s) t ∷ row12_by p s t ∷ row13 p k ∷ row14 n ∷ row15r p n b
    ∷ row17 p (core_of p s) k (record { packets = n; bits = b }) ∷ []
rows_by p s (until t) = row11 (core_of p s) t ∷ row12_by p s t ∷ []
rows_by p s (step t) = row11 (core_of p s) t ∷ []

-- 0, or the number of the row that refuses
abbrev pub number_of : Verdict → ℕ
number_of accept = 0
number_of (refuse n) = n

unfoldable pub row_by : List ℕ → Call → List ℕ → ℕ
row_by P call s = number_of (first_row (rows_by (plan_in P) s call))

-- the cell of the request that an accepted event of node k puts up, by its reservation in force
abbrev pub put_up_code : Class → ℕ → ℕ → List ℕ → ℕ
put_up_code c k b s = request_code (standing (put_up (share_of (get_or s (force_cell k) 0)) c) b)

-- what an accepted event changes, once the clock has come to its time
unfoldable pub change_by : List ℕ → Call → List ℕ → List ℕ
change_by P (ask c t k b) s = put_request P k (put_up_code c k b s) (record_since k (put_up_code c k b s) t s)
change_by P (off t k) s = put_request P k 0 s
change_by P (reserve t k n b) s = set s (latest_cell k) (share_code n b)
change_by P (until t) s = s
change_by P (step t) s = s

-- the cells after an event: a refusal changes none
unfoldable pub event_by : List ℕ → Call → List ℕ → List ℕ
event_by P call s = if eqb (row_by P call s) 0 then change_by P call (advance_by P (time call) s) else s

-- a step's answer, and the cells that it leaves
pub record Stepped : Type 0 where
  pub answer : Step
  pub cells : List ℕ

-- the line is busy until an end, or rests
unfoldable pub busy_until : ℕ → List ℕ → List ℕ
busy_until end s = put_time end_cell end (set s busy_cell 1)

unfoldable pub resting : List ℕ → List ℕ
resting s = set s busy_cell 0

-- a node's bits; node 0 has none
abbrev pub bits_at : ℕ → List ℕ → ℕ
bits_at k s = if_node k (bits_of (request_of (get_or s (request_cell k) 0))) 0

module _ (P : List ℕ) where
  -- a grant at d to the turn's node, until d + b + O, with its wait
  unfoldable pub grant_by : ℕ → Bool → Turned → Stepped
  grant_by d is_high w =
      let end = d + bits_at w.turn.node w.cells + (plan_in P).overhead in
      record {
        answer = Grant d w.turn.node (class_number is_high) end w.turn.moves (wait_at d w.turn.node w.cells);
        cells = busy_until end (grant_node P is_high w.turn.node w.cells);
      }

  -- a rest at d: control goes up to the root
  unfoldable pub rest_by : ℕ → List ℕ → Stepped
  rest_by d s = record { answer = Rest d (climb_by P (get_or s holder_cell 0)); cells = resting (set s holder_cell 1) }

  unfoldable pub handled_by : ℕ → Sought → List ℕ → Stepped
  handled_by d (seek.Class is_high) s = grant_by d is_high (choose_by P is_high s)
  handled_by d seek.Nothing s = rest_by d s

  unfoldable pub step_due : Option ℕ → ℕ → List ℕ → Stepped
  step_due None t s = record { answer = Quiet; cells = s }
  step_due (Some d) t s =
      if ltb d t then handled_by d (sought_by (advance_by P d s)) (advance_by P d s) else record { answer = Quiet; cells = s }

  unfoldable pub step_by : ℕ → List ℕ → Stepped
  step_by t s =
      if eqb (row_by P (step t) s) 0 then step_due (due_by (plan_in P) s) t s
      else record { answer = Refused (row_by P (step t) s); cells = s }

-- document 01's answer for each: an event's number, and a step's case
abbrev pub event_answer : ℕ → Answer
event_answer n = if eqb n 0 then taken else refused n

abbrev pub class_numbered : ℕ → Class
class_numbered n = if eqb n 2 then high else normal

unfoldable pub step_answer : Step → Answer
step_answer (Grant s k class end moves wait) = grant s k (class_numbered class) end moves
step_answer (Rest s moves) = rest s moves
step_answer Quiet = quiet
step_answer (Refused n) = refused n

-- the wait of a grant; no other answer has one
unfoldable pub step_wait : Step → ℕ
step_wait (Grant s k class end moves wait) = wait
step_wait (Rest s moves) = 0
step_wait Quiet = 0
step_wait (Refused n) = 0

-- a call's answer with its wait, and the cells that it leaves
pub record Performed : Type 0 where
  pub answer : Answer
  pub wait : ℕ
  pub cells : List ℕ

unfoldable pub event_left : List ℕ → Call → List ℕ → Performed
event_left P call s = record { answer = event_answer (row_by P call s); wait = 0; cells = event_by P call s }

unfoldable pub perform_by : List ℕ → Call → List ℕ → Performed
perform_by P (step t) s = record { answer = step_answer (step_by P t s).answer; wait = step_wait (step_by P t s).answer; cells = (step_by P t s).cells }
perform_by P (ask c t k b) s = event_left P (ask c t k b) s
perform_by P (off t k) s = event_left P (off t k) s
perform_by P (reserve t k n b) s = event_left P (reserve t k n b) s
perform_by P (until t) s = event_left P (until t) s

-- the five events
abbrev pub is_event : Call → Bool
is_event (ask c t k b) = true
is_event (off t k) = true
is_event (reserve t k n b) = true
is_event (until t) = true
is_event (step t) = false

-- What an entry point promises for every content of both tables: P and s are the plan's and the cascade's cells
-- at entry, r is the answer and z the cascade's cells at exit. First of the five events, then of the step.
abbrev pub EventPromise : List ℕ → Call → List ℕ → ℕ → List ℕ → Type 0
EventPromise P call s r z = (r ≡ row_by P call s) × (z ≡ event_by P call s)

abbrev pub StepPromise : List ℕ → ℕ → List ℕ → Step → List ℕ → Type 0
StepPromise P t s r z = (r ≡ (step_by P t s).answer) × (z ≡ (step_by P t s).cells)
