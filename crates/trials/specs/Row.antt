-- A row of the table: a plan's text, calls on its hub, and what is expected of them.
use Rattle.std.specs.Prelude.{ℕ, ◌≡◌}
use mathlib.Core.List.{List, [], ◌∷◌, map, flatten}
use Rattle.rules.specs.Call.{Call, step, time, Answer, quiet}
use Rattle.rules.specs.Plan.{Plan}
use Rattle.rules.specs.Machine.{Machine}
use Rattle.rules.specs.Run.{Entry, answers}
use Rattle.plan.specs.Answer as plan
use Rattle.plan.specs.Answer.{Taken, Refused}
use Rattle.plan.specs.Tables.{plan_of}
use Rattle.plan.specs.Reading.{reading}

-- the plan is refused, at a line with a number; or it is taken, with its numbers of nodes and hubs, and the calls are answered
pub data Outcome : Type 0 where
  refused_at : ℕ → ℕ → Outcome
  answered : ℕ → ℕ → List Answer → Outcome

pub record Row : Type 0 where
  -- the bytes of the plan's text
  pub plan : List ℕ
  -- the calls in the order in which they are made
  pub calls : List Call
  pub expected : Outcome

-- the calls are made on the fresh hub of a plan that was read, which gives turns by a machine
abbrev pub behind : (Plan → Machine) → plan.Answer → List ℕ → List Call → Outcome
behind M (Refused line number) tables calls = refused_at line number
behind M (Taken nodes hubs at line) tables calls =
    let p = plan_of tables in
    answered nodes hubs (answers p (M p) calls)

unfoldable pub outcome : (Plan → Machine) → List ℕ → List Call → Outcome
outcome M text calls =
    let r = reading text in
    behind M r.answer r.tables calls

-- what the rows give by a machine is what is expected of them, row by row
abbrev pub AllRight : (Plan → Machine) → List Row → Type 0
AllRight M rows = map (λ (r : Row). outcome M r.plan r.calls) rows ≡ map (λ (r : Row). r.expected) rows

-- How rows are written: a call with the answer expected of it
infix 70 ◌⟶◌
abbrev pub ◌⟶◌ : Call → Answer → Entry
call ⟶ answer = record { call = call; answer = answer }

-- a plan that is refused
abbrev pub refusing : List ℕ → ℕ → ℕ → Row
refusing text line number = record { plan = text; calls = []; expected = refused_at line number }

-- a plan that is taken, with its numbers of nodes and hubs, and calls with their answers
abbrev pub taking : List ℕ → ℕ → ℕ → List Entry → Row
taking text nodes hubs es =
    record {
      plan = text;
      calls = map (λ (e : Entry). e.call) es;
      expected = answered nodes hubs (map (λ (e : Entry). e.answer) es);
    }

-- An event as the program makes it: before it all steps strictly before its time, with these answers, the last one quiet
infix 68 ◌before◌
abbrev pub ◌before◌ : List Answer → Entry → List Entry
[] before e = (step (time e.call) ⟶ quiet) ∷ e ∷ []
(a ∷ more) before e = (step (time e.call) ⟶ a) ∷ (more before e)

-- a whole run of the program
abbrev pub running : List ℕ → ℕ → ℕ → List (List Entry) → Row
running text nodes hubs events = taking text nodes hubs (flatten events)
