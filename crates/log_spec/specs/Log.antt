-- "The log": the lines that the program writes for a text. It goes over a hub with the recorded times beside it,
-- since a grant's line names its wait (request 1 of document 02).
use Rattle.std.specs.Prelude.{ℕ, zero, suc, ◌+◌, ◌*◌, drop, if◌then◌else◌}
use mathlib.Core.List.{List, [], ◌∷◌, ◌++◌, flatten}
use Rattle.std.proofs.Math.Option.{Option, none, some}
use Rattle.text.specs.Line.{Lines, nothing, unended, ended, lines, next_number}
use Rattle.rules.specs.Choice.{sum}
use Rattle.rules.specs.Plan.{Plan}
use Rattle.rules.specs.Call.{Call, step, time, Answer, taken, refused, grant, rest, quiet}
use Rattle.rules.specs.Core.{Core, Request, standing, Line, resting, busy}
use Rattle.rules.specs.Core as core
use Rattle.rules.specs.Rows.{row11}
use Rattle.rules.specs.Control.{Control, control}
use Rattle.rules.specs.Waits.{Watched, fresh_watched, perform_watched}
use Rattle.plan.specs.Answer as plan
use Rattle.plan.specs.Answer.{Taken, Refused}
use Rattle.plan.specs.Tables.{plan_of}
use Rattle.plan.specs.Reading.{reading}
use Rattle.log_lines.specs.Handed.{handed}
use Rattle.log_lines.specs.FirstLine.{nodes_line, refused_line}
use Rattle.event_lines.specs.Event.{event_of, call_on}
use Rattle.log_lines.specs.Lines.{answer_line}

-- the lines written so far, each with its LF, and the hub that is left, with the recorded times beside it
pub record Logged : Type 0 where
  pub written : List (List ℕ)
  pub left : Watched Control

-- the line of an event's answer: a taken event has none
abbrev pub event_line : ℕ → Answer → List (List ℕ)
event_line number taken = []
event_line number (refused n) = refused_line number n ∷ []
event_line number (grant s k c end moves) = []
event_line number (rest s moves) = []
event_line number quiet = []

-- how many steps can come before the next event: twice the standing requests, and one more while the
-- line is busy. Each grant takes a request, and each rest the busy line, so no step is left out
abbrev pub stands : Request → ℕ
stands core.none = 0
stands (standing c b) = 1

abbrev pub runs : Line → ℕ
runs resting = 0
runs (busy e) = 1

abbrev pub budget : Plan → Core → ℕ
budget p s = 2 * sum p.nodes (λ k. stands (s.request k)) + runs s.line

-- a line in front of what comes after it
abbrev pub further : List ℕ → Logged → Logged
further line more = record { written = line ∷ more.written; left = more.left }

module _ (p : Plan) where
  -- what follows a step's answer with its wait: after quiet no step is due before t
  abbrev pub after_step : (Watched Control → Logged) → Answer → ℕ → Watched Control → Logged
  after_step more taken wait w = record { written = []; left = w }
  after_step more (refused n) wait w = record { written = []; left = w }
  after_step more (grant s k c end moves) wait w = further (answer_line 0 (grant s k c end moves) wait) (more w)
  after_step more (rest s moves) wait w = further (answer_line 0 (rest s moves) wait) (more w)
  after_step more quiet wait w = record { written = []; left = w }

  -- at most n steps with bound t
  unfoldable pub steps : ℕ → ℕ → Watched Control → Logged
  steps zero t w = record { written = []; left = w }
  steps (suc n) t w =
      let o = perform_watched p (control p) (step t) w in
      after_step (steps n t) o.answer o.wait o.left

  -- all steps strictly before t, where row 11 allows it
  unfoldable pub steps_before : ℕ → Watched Control → Logged
  steps_before t w = if (row11 w.hub.core t).applies then record { written = []; left = w } else steps (budget p w.hub.core) t w

  -- the event of line `number`: the steps before it, then the event; a line that is no form is refused by 1
  unfoldable pub event_log : ℕ → Option Call → Watched Control → Logged
  event_log number none w = record { written = refused_line number 1 ∷ []; left = w }
  event_log number (some call) w =
      let before = steps_before (time call) w in
      let o = perform_watched p (control p) call before.left in
      record { written = before.written ++ event_line number o.answer; left = o.left }

  -- the event lines from line `number` on
  unfoldable pub events_log : ℕ → Watched Control → Lines → List (List ℕ)
  events_log number w nothing = []
  events_log number w (unended l) = refused_line number 1 ∷ []
  events_log number w (ended l more) =
      let first = event_log number (call_on (event_of l)) w in
      first.written ++ events_log (next_number number) first.left more

-- behind the plan
unfoldable pub plan_log : List ℕ → plan.Answer → List ℕ → List (List ℕ)
plan_log text (Refused line number) tables = refused_line line number ∷ []
plan_log text (Taken nodes hubs at line) tables =
    let p = plan_of tables in
    nodes_line nodes hubs ∷ events_log p line (fresh_watched p (control p)) (lines (drop at text))

-- the whole log of a text, line by line; bytes behind 65,536 are not there
unfoldable pub log_of : List ℕ → List (List ℕ)
log_of text =
    let r = reading (handed text) in
    plan_log (handed text) r.answer r.tables

-- the same as bytes
unfoldable pub log_bytes : List ℕ → List ℕ
log_bytes text = flatten (log_of text)
