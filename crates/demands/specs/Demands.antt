-- The demands, of the entry points as they can be called. Their contracts (plan/src/lib.rt,
-- hub/src/lib.rt, requests/src/lib.rt) are these, for every text and every content of both tables:
--
--   read(text, plan)         answers (reading text).answer, and leaves `leaves (reading text) plan`
--   fresh(s)                 leaves fresh_cells
--   normal(p, s, t, k, b)    EventPromise P (ask normal t k b) s r z
--   high(p, s, t, k, b)      EventPromise P (ask high t k b) s r z
--   off(p, s, t, k)          EventPromise P (off t k) s r z
--   reserve(p, s, t, k, n, b) EventPromise P (reserve t k n b) s r z
--   until(p, s, t)           EventPromise P (until t) s r z
--   step(p, s, t)            StepPromise P t s r z, where r is a Grant with its wait, a Rest, Quiet or Refused
--   lembuya_longest(p)       answers longest (plan_of P), the longest packet (lembuya/src/lib.rt)
--   lembuya_strict(p)        answers 1 where (plan_of P).strict, else 0
--
-- where P and s are the cells at entry, r is the answer and z the cascade's cells at exit. Below: what
-- follows for every text that is read (`PlanDemands`), and for every list of such calls from the fresh
-- table of a plan that is taken (`Demands`). That each call ends and never faults is part of its contract.
-- Of lists that also hold calls beside the hub the same is said in `beside`, specs/SameHub.antt.
use Rattle.std.specs.Prelude.{ℕ, ◌-◌, ◌*◌, ◌≤◌, ◌≡◌, true, false, ◌↔◌, List, [], ◌∷◌, map}
use Rattle.std.proofs.Math.Option.{Option}
use Rattle.rules.specs.Plan.{Plan, with_strict, levels}
use Rattle.rules.specs.Call.{Call, step, Answer, taken, refused, quiet}
use Rattle.rules.specs.Machine.{perform}
use Rattle.rules.specs.Flat.{flat}
use Rattle.rules.specs.Control.{control, from_root}
use Rattle.rules.specs.Run.{Entry, made}
use Rattle.rules.specs.Agree.{plain, moves_of, Every}
use Rattle.rules.specs.Saving.{SavesOn}
use Rattle.rules.specs.Travel.{Travels}
use Rattle.rules.specs.Looks.{call_looks, most_in_call, FewLooks}
use Rattle.rules.specs.Demand.{Holds3}
use Rattle.rules.specs.AnyMoment.{AnyMoment}
use Rattle.rules.specs.Promises.{NoTimeLost, Admits, Acceptable}
use Rattle.rules.specs.Words.{clock_at}
use Rattle.rules.specs.WaitWords.{stand_at}
use Rattle.rules.specs.Waits.{stand_of, WaitTold}
use Rattle.rules.specs.Strict.{EitherDefault, run_with, all_as_taken, answers_in, StaysNormal}
use Rattle.text.specs.Line.{lines}
use Rattle.plan.specs.Reading.{reading, leaves}
use Rattle.plan.specs.Tables.{plan_of}
use Rattle.plan.specs.AsBefore.{has_framing, has_strict, reading_before, reading_before8}
use Rattle.plan_theory.specs.Tree.{stands, with_strict_line, draw}
use Rattle.plan_theory.specs.Taken.{DrawnBy, TakenAs, RefusedAt, TakenFor}
use Rattle.plan_theory.specs.First.{RowApplies, DecidedBy}
use Rattle.cells.specs.Step.{Step, Grant}
use Rattle.cells.specs.Layout.{time_at, clock_cell}
use Rattle.cells.specs.Decode.{hub_of, core_of}
use Rattle.cells.specs.Fresh.{fresh_cells}
use Rattle.cells.specs.Waits.{times_of}
use Rattle.cells.specs.Calls.{is_event, EventPromise, StepPromise, step_by, event_answer, class_numbered, step_answer, perform_by}
use Rattle.cells.specs.Looks.{looks_by}
use Rattle.refinement.specs.Waits.{OtherTimes}
use Rattle.refinement.specs.Written.{FewWrites}

-- Demand 2, of plans
pub record PlanDemands (text : List ℕ) : Type 0 where
  -- a text is taken just where it starts with the drawing of a tree within the limits, behind good figures and a framing
  pub taken_iff : ((nodes : ℕ) × (hubs : ℕ) × (at : ℕ) × (line : ℕ) × TakenAs text nodes hubs at line) ↔ DrawnBy text
  -- and then for just the hubs, ports, nodes and figures that its lines draw
  pub taken_for : (d : DrawnBy text) → TakenFor text d.fig d.tree d.rest
  -- every other text is refused,
  pub refused_iff : ((line : ℕ) × (number : ℕ) × RefusedAt text line number) ↔ (DrawnBy text → ⊥)
  -- and to no line of one that is taken does a row apply
  pub taken_no_row : DrawnBy text → (n k : ℕ) → RowApplies (lines text) n k → ⊥
  -- the first line from above to which a row applies, then the first row, decides
  pub first_line : (line number : ℕ) → RefusedAt text line number → DecidedBy text line number
  -- Request 8 of document 02: a text without the line `(strict)` is read as before that request,
  pub as_before_8 : has_strict text ≡ false → reading text ≡ reading_before8 text
  -- and one whose fourth line is no framing's either as document 01 alone has it (request 3)
  pub as_before : has_framing text ≡ false → has_strict text ≡ false → reading text ≡ reading_before text
  -- these lines are those of the drawing, and the plan is strict just where the text has its line
  pub framing_stands : (d : DrawnBy text) → has_framing text ≡ stands d.fig.framing
  pub strict_told : DrawnBy text → (plan_of (reading text).tables).strict ≡ has_strict text
  -- a text of the same lines with a line `(strict)`, or without it, is read as the same plan but for that
  pub strict_alone : (d : DrawnBy text) (line : Option (Unit {0})) (other : List ℕ) → lines other ≡ draw (with_strict_line line d.fig) d.tree d.rest
      → plan_of (reading other).tables ≡ with_strict (stands line) (plan_of (reading text).tables)
  -- Demand 1: a refused plan leaves the lent tables as they were
  pub refusal_changes_nothing : (line number : ℕ) → RefusedAt text line number → (plan : List ℕ) → leaves (reading text) plan ≡ plan

-- A list of calls made one after the other on one table, with their answers, the latest first, and
-- the table that they left: the first call gets the fresh table, each later one what the last left,
-- and nobody else writes to it meanwhile. Refused calls and quiet steps stand in it too.
pub data Calls (P : List ℕ) : List Entry → List ℕ → Type 0 where
  before : Calls P [] fresh_cells
  event : {past : List Entry} {s : List ℕ} → Calls P past s → (call : Call) → is_event call ≡ true → (r : ℕ) (z : List ℕ) → EventPromise P call s r z
      → Calls P (record { call = call; answer = event_answer r } ∷ past) z
  stepping : {past : List Entry} {s : List ℕ} → Calls P past s → (t : ℕ) (r : Step) (z : List ℕ) → StepPromise P t s r z
      → Calls P (record { call = step t; answer = step_answer r } ∷ past) z

-- the calls of such a list
abbrev pub calls_of : List Entry → List Call
calls_of past = map (λ (e : Entry). e.call) past

module _ (P : List ℕ) (p : Plan) (past : List Entry) (s : List ℕ) where
  -- one more call: its answer, and the cells that it leaves
  abbrev pub answer_to : Call → Answer
  answer_to call = (perform_by P call s).answer

  abbrev pub cells_after : Call → List ℕ
  cells_after call = (perform_by P call s).cells

  pub record Demands : Type 0 where
    -- Demand 2: the same events are taken and refused as by the flat hub, and each grant, with time, class and end, is the flat hub's
    pub turns_agree : map plain past ≡ map plain (made p (flat p) (calls_of past)).past
    -- the answers, moves among them, are those of the hub-by-hub rules
    pub by_rules : past ≡ (made p (control p) (calls_of past)).past
    -- at most 4 × (L - 1) moves in each grant and rest
    pub few_moves : Every (λ a. moves_of a ≤ 4 * (levels p - 1)) past
    -- Request 13 of document 02: in a run of grants of one class, with w returns of
    -- the root's pointer, which the answers tell, at most 2 × (H - 1) × (w + 1)
    -- moves after the first
    pub travels : Travels p past
    -- The worst case: at most 4 × L - 1 looks at a hub in each call, and 3 × L - 1 where the class is that of the latest grant
    pub few_looks : FewLooks p past
    -- which are the looks that each further call makes over the cells: so few there too
    pub looks_are : (call : Call) → looks_by P call s ≡ call_looks p (hub_of p s) (answer_to call)
    pub looks_few : (call : Call) → looks_by P call s ≤ most_in_call p
    -- and in each further call few mask cells written: within a frame at most 2 × L by a request that comes,
    -- L by `off` and by a step, and none by another; where a frame starts at most 4 × H + N - 2 more
    pub few_writes : FewWrites P p s
    -- Demand 3, one claim over the whole list
    pub demand_3 : Holds3 p past
    -- Request 5 of document 02: a high request of a node with packets left in its frame, put up at any t and kept standing, is
    -- granted by t + D + the sum of c of the other nodes that have a reservation, where no change comes into force before
    pub any_moment : AnyMoment p past
    -- Request 8 of document 02: under either default a reserved unit keeps the share and limit it had; the promise is the same one
    pub either_default : EitherDefault p
    -- and where the plan isn't strict, the answers are those of its strict cascade to the
    -- calls as they are taken, each high request of a node with nothing reserved as a normal one
    pub as_normal : p.strict ≡ false → answers_in past ≡ answers_in (run_with true p (all_as_taken p (calls_of past))).past
    -- such a request stays a normal one when a reservation comes into force: it is no high request, and its grant is a normal grant
    pub stays_normal : StaysNormal p past
    -- Request 1 of document 02: what is recorded of each node is the time at which, by the calls and answers alone, its
    -- standing request was first put up,
    pub recorded : (k : ℕ) → stand_at p k (clock_at past) past ≡ stand_of ((core_of p s).request k) (times_of p s k)
    -- a further step's grant tells the wait, its time less that time,
    pub wait_told : (t d k class end moves wait : ℕ) → (step_by P t s).answer ≡ Grant d k class end moves wait
        → WaitTold p k (class_numbered class) d wait past
    -- and grants and moves are unaffected: with any other recorded times each further call answers the same and leaves the same
    -- hub. Of the whole list `by_rules` says it, and `hub`: the rules' own hub has no recorded times
    pub unaffected : (r : List ℕ) → OtherTimes s r → (call : Call)
        → ((perform_by P call r).answer ≡ answer_to call) × (hub_of p (perform_by P call r).cells ≡ hub_of p (cells_after call))
    -- the cells are the hub that the calls left, and each further call answers as the rules do on that hub
    pub hub : hub_of p s ≡ (made p (control p) (calls_of past)).hub
    pub answers : (call : Call) → answer_to call ≡ (perform p (control p) call (hub_of p s)).answer
    pub leaves : (call : Call) → hub_of p (cells_after call) ≡ (perform p (control p) call (hub_of p s)).hub
    -- Request 4 of document 02, "Grants must be exactly the old ones": the run of the
    -- same calls by document 01's rule 2, up to the root, answers the same but for moves
    pub as_from_root : map plain past ≡ map plain (made p (from_root p) (calls_of past)).past
    -- and from the same cells that rule answers the same, in no fewer moves
    pub saves : (call : Call) → SavesOn p (hub_of p s) call
    -- No time is lost, and the clock never goes back
    pub no_time_lost : NoTimeLost p (control p) (hub_of p s)
    pub clock_grows : (call : Call) → time_at s clock_cell ≤ time_at (cells_after call) clock_cell
    -- Demand 1: a refusal changes no cell, and neither does quiet
    pub refusal_changes_nothing : (call : Call) (n : ℕ) → answer_to call ≡ refused n → cells_after call ≡ s
    pub quiet_changes_nothing : (call : Call) → answer_to call ≡ quiet → cells_after call ≡ s
    -- Admission keeps its promise: no frame is overfilled
    pub admits : Admits p past (core_of p s)
    -- An event is refused where a row says so, and nowhere else
    pub takes : (call : Call) → Acceptable p (core_of p s) call → answer_to call ≡ taken
    pub takes_only : (call : Call) → answer_to call ≡ taken → Acceptable p (core_of p s) call
