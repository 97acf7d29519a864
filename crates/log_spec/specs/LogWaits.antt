-- Request 1 of document 02, "Log by waiting time", of the log's own lines. They are the answers of one run, whose calls are the text's
-- events with steps before them; and a grant's line has the wait that the calls and answers before it in this run tell.
use Rattle.std.specs.Prelude.{ℕ, ◌≡◌, List, [], ◌∷◌, ◌++◌, drop}
use Rattle.std.proofs.Math.Option.{none, some}
use Rattle.text.specs.Line.{Lines, nothing, unended, ended, lines, next_number}
use Rattle.rules.specs.Plan.{Plan}
use Rattle.rules.specs.Call.{Class, Call, step, time, Answer, grant, rest}
use Rattle.rules.specs.Machine.{perform}
use Rattle.rules.specs.Control.{control}
use Rattle.rules.specs.Run.{made}
use Rattle.rules.specs.Waits.{WaitTold}
use Rattle.plan.specs.Answer.{Taken}
use Rattle.plan.specs.Reading.{reading}
use Rattle.log_lines.specs.Handed.{handed}
use Rattle.log_lines.specs.FirstLine.{refused_line}
use Rattle.log_lines.specs.Lines.{grant_line, rest_line, class_number}
use Rattle.event_lines.specs.Event.{event_of, call_on}
use Rattle.log_spec.specs.Log.{event_line}
use Rattle.log_spec.specs.NeverTwelve.{plan_read, event_lines}

module _ (p : Plan) where
  -- what the next call answers behind these calls, the latest first, in the run that records nothing
  abbrev pub answer_behind : List Call → Call → Answer
  answer_behind calls call = (perform p (control p) call (made p (control p) calls).hub).answer

  -- Behind the calls on the left, steps with bound t write these lines, and then the calls are those on the right.
  -- A quiet step writes nothing and changes nothing, so it isn't among them
  pub data StepsTold (t : ℕ) : List Call → List (List ℕ) → List Call → Type 0 where
    no_more : (calls : List Call) → StepsTold t calls [] calls
    -- a grant's line: the wait is told by the calls and answers before it
    granted : {calls after : List Call} {more : List (List ℕ)} (s k : ℕ) (c : Class) (end moves wait : ℕ)
        → answer_behind calls (step t) ≡ grant s k c end moves → WaitTold p k c s wait (made p (control p) calls).past
        → StepsTold t (step t ∷ calls) more after
        → StepsTold t calls (grant_line s k (class_number c) end moves wait ∷ more) after
    -- a rest's line
    rested : {calls after : List Call} {more : List (List ℕ)} (s moves : ℕ)
        → answer_behind calls (step t) ≡ rest s moves
        → StepsTold t (step t ∷ calls) more after
        → StepsTold t calls (rest_line s moves ∷ more) after

  -- Behind these calls, the text's lines from line `number` on are logged by these lines
  pub data LinesTold : List Call → ℕ → Lines → List (List ℕ) → Type 0 where
    at_end : (calls : List Call) (number : ℕ) → LinesTold calls number nothing []
    -- a last line whose LF is missing, and a line that is no form
    no_end : (calls : List Call) (number : ℕ) (l : List ℕ) → LinesTold calls number (unended l) (refused_line number 1 ∷ [])
    no_form : {calls : List Call} {number : ℕ} {ls : Lines} {more : List (List ℕ)} (l : List ℕ) → call_on (event_of l) ≡ none
        → LinesTold calls (next_number number) ls more
        → LinesTold calls number (ended l ls) (refused_line number 1 ∷ more)
    -- an event: the steps before it, and its own line where it is refused
    event : {calls before : List Call} {number : ℕ} {ls : Lines} {steps more : List (List ℕ)} (l : List ℕ) (call : Call)
        → call_on (event_of l) ≡ some call → StepsTold (time call) calls steps before
        → LinesTold (call ∷ before) (next_number number) ls more
        → LinesTold calls number (ended l ls) ((steps ++ event_line number (answer_behind before call)) ++ more)

-- Of every text whose plan is taken, from the first event line on; a refused plan has none
pub record LogWaits (text : List ℕ) : Type 0 where
  pub lines_told : (nodes hubs at line : ℕ) → (reading (handed text)).answer ≡ Taken nodes hubs at line
      → LinesTold (plan_read text) [] line (lines (drop at (handed text))) (event_lines text)
