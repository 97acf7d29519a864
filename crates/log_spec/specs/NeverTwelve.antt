-- "Before an event with a time allowed by row 11 it makes all steps strictly before t, so it never meets 12."
-- So: what the log makes of each line behind the plan, and what holds of it, whatever the text is.
use Rattle.std.specs.Prelude.{ℕ, ◌≡◌, Bool, true, false, ◌&&◌, ◌||◌, eqb, leb, drop}
use mathlib.Core.List.{List, [], ◌∷◌, ◌++◌, map, flatten}
use Rattle.std.proofs.Math.Option.{Option, none, some}
use Rattle.text.specs.Line.{Lines, nothing, unended, ended, lines, next_number}
use Rattle.rules.specs.Plan.{Plan}
use Rattle.rules.specs.Call.{Call, time}
use Rattle.rules.specs.Core.{due, before}
use Rattle.rules.specs.Rows.{row11}
use Rattle.rules.specs.Machine.{perform}
use Rattle.rules.specs.Control.{Control, control}
use Rattle.rules.specs.Waits.{Watched, fresh_watched}
use Rattle.plan.specs.Answer as plan
use Rattle.plan.specs.Answer.{Taken, Refused}
use Rattle.plan.specs.Tables.{plan_of}
use Rattle.plan.specs.Reading.{reading}
use Rattle.log_lines.specs.Handed.{handed}
use Rattle.log_lines.specs.FirstLine.{refused_line, first_line}
use Rattle.event_lines.specs.Event.{event_of, call_on}
use Rattle.log_spec.specs.Log.{Logged, event_line, steps_before, event_log, log_of}

-- what the log makes of a line behind the plan
pub data Act : Type 0 where
  -- line `number` is no form, or its LF is missing
  no_form : (number : ℕ) → Act
  -- line `number` is an event: the steps before it, with the hub that they leave, and the call that is then made on that hub
  event : (number : ℕ) (steps : Logged) (call : Call) → Act

module _ (p : Plan) where
  -- of one line, on watched hub w: the steps before a call are those that `event_log` makes
  unfoldable pub act : ℕ → Option Call → Watched Control → Act
  act number none w = no_form number
  act number (some call) w = event number (steps_before p (time call) w) call

  -- of the lines from line `number` on: each on the hub that `event_log` leaves behind the line before it
  unfoldable pub acts : ℕ → Watched Control → Lines → List Act
  acts number w nothing = []
  acts number w (unended l) = no_form number ∷ []
  acts number w (ended l more) =
      let call = call_on (event_of l) in
      act number call w ∷ acts (next_number number) (event_log p number call w).left more

  -- what an act writes: the lines of its steps, and then that of its answer
  abbrev pub writes : Act → List (List ℕ)
  writes (no_form number) = refused_line number 1 ∷ []
  writes (event number steps call) = steps.written ++ event_line number (perform p (control p) call steps.left.hub).answer

  -- an event with a time allowed by row 11: as it is made, no instant strictly before its time is due
  abbrev pub NothingDue : Act → Type 0
  NothingDue (no_form number) = Unit {0}
  NothingDue (event number steps call) =
      (row11 steps.left.hub.core (time call)).applies ≡ false → before (due p steps.left.hub.core) (time call) ≡ false

-- behind the plan: a refused plan has no events
unfoldable pub plan_acts : List ℕ → plan.Answer → List ℕ → List Act
plan_acts text (Refused line number) tables = []
plan_acts text (Taken nodes hubs at line) tables =
    let p = plan_of tables in
    acts p line (fresh_watched p (control p)) (lines (drop at text))

-- of a whole text, as in `log_of`
unfoldable pub acts_of : List ℕ → List Act
acts_of text =
    let r = reading (handed text) in
    plan_acts (handed text) r.answer r.tables

-- the plan that a text is read as
abbrev pub plan_read : List ℕ → Plan
plan_read text = plan_of (reading (handed text)).tables

-- the lines that all acts of a text write
abbrev pub event_lines : List ℕ → List (List ℕ)
event_lines text = flatten (map (writes (plan_read text)) (acts_of text))

-- P of every element of a list
abbrev pub Every : {A : Type 0} → (A → Type 0) → List A → Type 0
Every P [] = Unit {0}
Every P (x ∷ xs) = P x × Every P xs

-- the numbers that an event line can be refused by: 1, 11, and 13 to 17
abbrev pub event_number : ℕ → Bool
event_number n = eqb n 1 || eqb n 11 || (leb 13 n && leb n 17)

pub record NeverTwelve (text : List ℕ) : Type 0 where
  -- the log is the plan's own line and then the lines of these acts
  pub the_log : log_of text ≡ first_line (reading (handed text)).answer ∷ event_lines text
  -- all steps strictly before t were made
  pub nothing_due : Every (NothingDue (plan_read text)) (acts_of text)
  -- where one of these lines is `(refused l n)`, n is one of those numbers
  pub event_numbers : Every (λ line. (l n : ℕ) → line ≡ refused_line l n → event_number n ≡ true) (event_lines text)
  -- no line of the log is `(refused l 12)`
  pub no_twelve : Every (λ line. (l : ℕ) → line ≡ refused_line l 12 → ⊥) (log_of text)
