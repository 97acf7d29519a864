-- What a run over a text leaves in the cascade's cells, beside the log that it writes:
-- the hub behind the last event, and the times that are recorded there.
use Rattle.std.specs.Prelude.{ℕ, ◌≡◌, true, List, drop}
use Rattle.rules.specs.Plan.{Plan}
use Rattle.rules.specs.Control.{Control, control}
use Rattle.rules.specs.Waits.{Watched, fresh_watched}
use Rattle.text.specs.Line.{Lines, nothing, unended, ended, lines, next_number}
use Rattle.writer.specs.Write.{fits}
use Rattle.plan.specs.Answer.{Taken, Refused}
use Rattle.plan.specs.Reading.{reading}
use Rattle.log_lines.specs.Handed.{handed}
use Rattle.event_lines.specs.Event.{event_of, call_on}
use Rattle.cells.specs.Decode.{hub_of}
use Rattle.cells.specs.Waits.{times_of}
use Rattle.log_spec.specs.Log.{event_log, log_bytes}
use Rattle.log_spec.specs.NeverTwelve.{plan_read}
use Rattle.log_spec.specs.Cells.{cells_left}

-- the watched hub behind the event lines from line `number` on, as `events_log` goes through them; bytes behind the last LF are no event
unfoldable pub events_left : Plan → ℕ → Watched Control → Lines → Watched Control
events_left p number w nothing = w
events_left p number w (unended l) = w
events_left p number w (ended l more) = events_left p (next_number number) (event_log p number (call_on (event_of l)) w).left more

-- behind all event lines of a text whose plan is taken up to place `at` and line `number`
abbrev pub left_by : List ℕ → ℕ → ℕ → Watched Control
left_by text at number =
    events_left (plan_read text) number (fresh_watched (plan_read text) (control (plan_read text))) (lines (drop at (handed text)))

-- s are the cascade's cells that were lent
pub record RunLeaves (text s buffer : List ℕ) : Type 0 where
  -- where the plan is taken and the log fits, the cells are the hub behind the last event
  pub behind_the_last : (nodes hubs at line : ℕ) → (reading (handed text)).answer ≡ Taken nodes hubs at line → fits buffer 0 (log_bytes text) ≡ true
      → hub_of (plan_read text) (cells_left text s buffer) ≡ (left_by text at line).hub
  -- and the recorded times are those beside it
  pub times_behind : (nodes hubs at line : ℕ) → (reading (handed text)).answer ≡ Taken nodes hubs at line → fits buffer 0 (log_bytes text) ≡ true
      → times_of (plan_read text) (cells_left text s buffer) ≡ (left_by text at line).times
  -- a refused plan leaves them as they were
  pub refused : (line number : ℕ) → (reading (handed text)).answer ≡ Refused line number → cells_left text s buffer ≡ s
