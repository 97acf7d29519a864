-- A pass over one text as it goes over the lent tables and the lent buffer: each line is
-- written whole, or only measured, and the pass ends at the first that doesn't fit.
use Rattle.std.specs.Prelude.{ℕ, zero, suc, ◌+◌, ◌*◌, Bool, true, false, List, [], ◌∷◌, eqb, length, get_or, if◌then◌else◌, Option, Some, None}
use Rattle.std.proofs.Math.Option as math
use Rattle.rules.specs.Call.{Call, time}
use Rattle.text.specs.Part.{part}
use Rattle.text.specs.Line.{next_line}
use Rattle.text.specs.declared.Cursor.{Cursor}
use Rattle.text.specs.declared.Next.{Next}
use Rattle.text.specs.declared.Next.TheVariants.{Line, Unended, Done}
use Rattle.writer.specs.Write.{fits, put_answer, pass_buffer}
use Rattle.plan.specs.Answer.{Answer, Taken, Refused}
use Rattle.plan.specs.Reading.{reading, leaves}
use Rattle.log_lines.specs.Handed.{handed}
use Rattle.log_lines.specs.FirstLine.{first_line, refused_line}
use Rattle.event_lines.specs.Event.{event_of, call_on}
use Rattle.log_lines.specs.Lines.{step_line}
use Rattle.cells.specs.Step.{Step}
use Rattle.cells.specs.Step as stepped
use Rattle.cells.specs.Layout.{busy_cell, standing_cell}
use Rattle.cells.specs.Fresh.{fresh_cells}
use Rattle.cells.specs.Calls.{row_by, event_by, step_by}
use Rattle.log_spec.specs.Log.{log_bytes}

-- lines written into a buffer from a place on: the place behind them, or that one didn't fit, and the buffer
pub record Written : Type 0 where
  pub put : Option ℕ
  pub buffer : List ℕ

abbrev pub then_lines : (List ℕ → ℕ → Written) → Option ℕ → List ℕ → Written
then_lines more (Some z) buffer = more buffer z
then_lines more None buffer = record { put = None; buffer = buffer }

unfoldable pub put_lines : Bool → List (List ℕ) → List ℕ → ℕ → Written
put_lines write [] buffer at = record { put = Some at; buffer = buffer }
put_lines write (l ∷ ls) buffer at = then_lines (put_lines write ls) (put_answer buffer at l) (pass_buffer write buffer at l)

-- where a run is: the place behind what it wrote, or that a line didn't fit; the cascade's cells, and the buffer
pub record Run : Type 0 where
  pub put : Option ℕ
  pub cells : List ℕ
  pub buffer : List ℕ

-- the run goes on behind a line, unless it didn't fit
abbrev pub going_on : (List ℕ → List ℕ → ℕ → Run) → Run → Run
going_on more r = go r.put
  where
    go : Option ℕ → Run
    go (Some z) = more r.cells r.buffer z
    go None = r

-- one line, written or measured
abbrev pub line : Bool → List ℕ → List ℕ → List ℕ → ℕ → Run
line write bytes s buffer at = record { put = put_answer buffer at bytes; cells = s; buffer = pass_buffer write buffer at bytes }

-- whether more steps may follow a step's answer
abbrev pub more : Step → Bool
more (stepped.Grant s k class end moves wait) = true
more (stepped.Rest s moves) = true
more stepped.Quiet = false
more (stepped.Refused n) = false

-- twice the standing requests, and one more while the line is busy
abbrev pub budget_by : List ℕ → ℕ
budget_by s = 2 * get_or s standing_cell 0 + (if eqb (get_or s busy_cell 0) 0 then 0 else 1)

module _ (P : List ℕ) where
  -- an event's number: 1 where the line is no form
  unfoldable pub number_by : math.Option Call → List ℕ → ℕ
  number_by math.none s = 1
  number_by (math.some call) s = row_by P call s

  unfoldable pub cells_by : math.Option Call → List ℕ → List ℕ
  cells_by math.none s = s
  cells_by (math.some call) s = event_by P call s

module _ (write : Bool) (P : List ℕ) where
  -- at most n steps with bound t
  unfoldable pub steps_by : ℕ → ℕ → List ℕ → List ℕ → ℕ → Run
  steps_by zero t s buffer at = record { put = Some at; cells = s; buffer = buffer }
  steps_by (suc n) t s buffer at =
      let r = step_by P t s in
      if more r.answer then going_on (steps_by n t) (line write (step_line r.answer) r.cells buffer at)
      else record { put = Some at; cells = r.cells; buffer = buffer }

  -- all steps before an event
  unfoldable pub before_by : math.Option Call → List ℕ → List ℕ → ℕ → Run
  before_by math.none s buffer at = record { put = Some at; cells = s; buffer = buffer }
  before_by (math.some call) s buffer at = steps_by (budget_by s) (time call) s buffer at

  -- the event itself, with its line where it is refused
  unfoldable pub call_by : ℕ → math.Option Call → List ℕ → List ℕ → ℕ → Run
  call_by number call s buffer at =
      if eqb (number_by P call s) 0 then record { put = Some at; cells = cells_by P call s; buffer = buffer }
      else line write (refused_line number (number_by P call s)) (cells_by P call s) buffer at

  unfoldable pub event_line_by : ℕ → math.Option Call → List ℕ → List ℕ → ℕ → Run
  event_line_by number call s buffer at = going_on (call_by number call) (before_by call s buffer at)

  -- the event lines from a cursor on; `left` is at least as many as there are
  abbrev pub next_by : List ℕ → (Cursor → List ℕ → List ℕ → ℕ → Run) → Next → List ℕ → List ℕ → ℕ → Run
  next_by text again (Line start end number next) s buffer at =
      going_on (again next) (event_line_by number (call_on (event_of (part text start end))) s buffer at)
  next_by text again (Unended start end number) s buffer at = line write (refused_line number 1) s buffer at
  next_by text again (Done number) s buffer at = record { put = Some at; cells = s; buffer = buffer }

  unfoldable pub events_by : List ℕ → ℕ → Cursor → List ℕ → List ℕ → ℕ → Run
  events_by text zero c s buffer at = record { put = Some at; cells = s; buffer = buffer }
  events_by text (suc left) c s buffer at = next_by text (events_by text left) (next_line text c) s buffer at

-- behind the plan's own line
unfoldable pub behind_plan : Bool → List ℕ → Answer → List ℕ → List ℕ → List ℕ → ℕ → Run
behind_plan write text (Refused l n) P s buffer at = record { put = Some at; cells = s; buffer = buffer }
behind_plan write text (Taken nodes hubs place number) P s buffer at =
    events_by write P text (suc (length text)) (record { at = place; number = number }) fresh_cells buffer at

-- the whole pass
unfoldable pub pass_by : Bool → List ℕ → List ℕ → List ℕ → Run
pass_by write text s buffer =
    let r = reading (handed text) in
    going_on (behind_plan write (handed text) r.answer r.tables) (line write (first_line r.answer) s buffer 0)

-- what a run leaves of the plan's tables and of the cascade's cells: where the log doesn't fit, what was there
unfoldable pub plan_left : List ℕ → List ℕ → List ℕ → List ℕ
plan_left text plan buffer = if fits buffer 0 (log_bytes text) then leaves (reading (handed text)) plan else plan

unfoldable pub cells_left : List ℕ → List ℕ → List ℕ → List ℕ
cells_left text s buffer = if fits buffer 0 (log_bytes text) then (pass_by true text s buffer).cells else s
