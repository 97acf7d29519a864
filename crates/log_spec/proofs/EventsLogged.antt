-- The event lines over the cells write the lines of the log over the watched hub.
use Prim.Native.Nat.{ℕ, zero, suc, ◌+◌, ◌≤◌}
use mathlib.Core.Path.{◌≡◌, refl, subst, sym, ap, ◌∙◌}
use mathlib.Core.Bool.{Bool, true, false}
use mathlib.Core.List.{List}
use mathlib.Core.Option.{none, some}
use native.Mathlib.Omega.{arith}
use lib.Dec.{eqb}
use lib.ListN.{length, drop, drop_of_length-le}
use Rattle.std.specs.Prelude.{if◌then◌else◌, Option, Some, None}
use Rattle.rules.specs.Call.{Call, time, Answer}
use Rattle.rules.specs.Control.{Control}
use Rattle.rules.specs.Waits.{Watched}
use Rattle.text.specs.Line.{Lines, nothing, unended, ended, lines, next_number, hand_out, next_line}
use Rattle.text.specs.declared.Cursor.{Cursor}
use Rattle.plan.proofs.Reading.Agree.{First, first}
use Rattle.log_lines.specs.FirstLine.{refused_line}
use Rattle.event.specs.Call.{call_of}
use Rattle.event.specs.declared.Event.{Event}
use Rattle.event.specs.declared.Event.TheVariants.{Normal, High, Off, Reserve, Until}
use Rattle.event_lines.specs.Event.{event_of, call_on}
use Rattle.cells.specs.Decode.{plan_in}
use Rattle.cells.specs.Calls.{event_answer, row_by, event_by, Performed, event_left, perform_by}
use Rattle.refinement.specs.Kept.{Ready}
use Rattle.log_spec.specs.Log.{event_line, steps_before, event_log, events_log}
use Rattle.log_spec.specs.Left.{events_left}
use Rattle.log_spec.specs.Cells.{line, steps_by, budget_by, number_by, cells_by, before_by, call_by, event_line_by, next_by, events_by}
use Rattle.log_spec.proofs.Writing.{Writes, writes_none, writes_line, writes_on}
use Rattle.log_spec.proofs.Leading.{Leads, on_watched, Further, further}
use Rattle.log_spec.proofs.StepsLogged.{Logs, before_log}

module _ (write : Bool) (P : List ℕ) (R : Ready P) where
  -- an event with its answer, at most one line
  module _ (number : ℕ) (call : Call) (event : (s : List ℕ) → perform_by P call s ≡ event_left P call s) where
    answer_log : (s : List ℕ) (w : Watched Control) → Leads P s w → (buffer : List ℕ) (at : ℕ)
        → Writes write (event_line number (on_watched P call w).answer) buffer at
        (λ r. Leads P r (on_watched P call w).left) (call_by write P number (some call) s buffer at)
    unfolding call_by number_by cells_by event_left
    answer_log s w leads buffer at =
        let f : Further P call s w = further P R call s w leads in
        let g : Leads P (event_by P call s) (on_watched P call w).left =
        subst (λ (o : Performed). Leads P o.cells (on_watched P call w).left) (event s) f.leads in
        let e : event_answer (row_by P call s) ≡ (on_watched P call w).answer =
        ap (λ (o : Performed). o.answer) (sym (event s)) ∙ f.answer in
        subst
        (λ (x : Answer). Writes write (event_line number x) buffer at (λ r. Leads P r (on_watched P call w).left) (call_by write P number (some call) s buffer at))
        e (go (row_by P call s) (eqb (row_by P call s) 0) g)
      where
        go : (n : ℕ) (b : Bool) → Leads P (event_by P call s) (on_watched P call w).left
            → Writes write (event_line number (if b then Answer.taken else Answer.refused n)) buffer at
            (λ r. Leads P r (on_watched P call w).left)
            (if b then record { put = Some at; cells = event_by P call s; buffer = buffer } else line write (refused_line number n) (event_by P call s) buffer at)
        go n true g = writes_none write buffer at _ (event_by P call s) g
        go n false g = writes_line write buffer at _ (refused_line number n) (event_by P call s) g

    call_log : (s : List ℕ) (w : Watched Control) → Leads P s w → (buffer : List ℕ) (at : ℕ)
        → Logs write P (event_log (plan_in P) number (some call) w) buffer at (event_line_by write P number (some call) s buffer at)
    unfolding event_log event_line_by before_by
    call_log s w leads buffer at =
        let before = steps_before (plan_in P) (time call) w in
        writes_on write buffer at (λ r. Leads P r before.left) _ before.written
        (event_line number (on_watched P call before.left).answer)
        (steps_by write P (budget_by s) (time call) s buffer at) (call_by write P number (some call)) (before_log write P R (time call) s w leads buffer at)
        (λ r b z l. answer_log r before.left l b z)

  no_form_log : (number : ℕ) (s : List ℕ) (w : Watched Control) → Leads P s w → (buffer : List ℕ) (at : ℕ)
      → Logs write P (event_log (plan_in P) number none w) buffer at (event_line_by write P number none s buffer at)
  unfolding event_log event_line_by before_by call_by number_by cells_by
  no_form_log number s w leads buffer at = writes_line write buffer at _ (refused_line number 1) s leads

  event_log_lem : (number : ℕ) (e : Option Event) (s : List ℕ) (w : Watched Control) → Leads P s w → (buffer : List ℕ) (at : ℕ)
      → Logs write P (event_log (plan_in P) number (call_on e) w) buffer at (event_line_by write P number (call_on e) s buffer at)
  unfolding perform_by
  event_log_lem number (Some (Normal t k b)) = call_log number (call_of (Normal t k b)) (λ s. refl)
  event_log_lem number (Some (High t k b)) = call_log number (call_of (High t k b)) (λ s. refl)
  event_log_lem number (Some (Off t k)) = call_log number (call_of (Off t k)) (λ s. refl)
  event_log_lem number (Some (Reserve t k n b)) = call_log number (call_of (Reserve t k n b)) (λ s. refl)
  event_log_lem number (Some (Until t)) = call_log number (call_of (Until t)) (λ s. refl)
  event_log_lem number None = no_form_log number

  -- the event lines of a text
  module _ (text : List ℕ) where
    -- and the watched hub that they lead to
    abbrev BehindThem : ℕ → Watched Control → Lines → List ℕ → Type 0
    BehindThem number w ls r = Leads P r (events_left (plan_in P) number w ls)

    abbrev EventsLog : ℕ → Type 0
    EventsLog left =
        (c : Cursor) → length text ≤ left + c.at → (s : List ℕ) (w : Watched Control) → Leads P s w → (buffer : List ℕ) (at : ℕ)
        → Writes write (events_log (plan_in P) c.number w (lines (drop c.at text))) buffer at
        (BehindThem c.number w (lines (drop c.at text))) (events_by write P text left c s buffer at)

    no_line : EventsLog 0
    unfolding events_by events_log events_left lines
    no_line c enough s w leads buffer at = rw (drop_of_length-le text {i = c.at} (omega arith)) (writes_none write buffer at _ s leads)

    -- the line at a cursor, and those behind it
    module _ (left : ℕ) (again : EventsLog left) (c : Cursor) (enough : length text ≤ suc left + c.at) where
      ended_log : (l : List ℕ) (rest : Lines) → First text c l rest → (s : List ℕ) (w : Watched Control) → Leads P s w → (buffer : List ℕ) (at : ℕ)
          → Writes write (events_log (plan_in P) c.number w (ended l rest)) buffer at (BehindThem c.number w (ended l rest))
          (next_by write P text (events_by write P text left) (hand_out c (ended l rest)) s buffer at)
      unfolding events_log events_left hand_out
      ended_log l rest f s w leads buffer at =
          let call = call_on (event_of l) in
          let log = event_log (plan_in P) c.number call w in
          let next : Cursor = record { at = c.at + length l + 1; number = next_number c.number } in
          rw (f.bytes, ← f.behind)
          (writes_on write buffer at (λ r. Leads P r log.left) (BehindThem next.number log.left (lines (drop next.at text))) log.written
          (events_log (plan_in P) next.number log.left (lines (drop next.at text)))
          (event_line_by write P c.number call s buffer at) (events_by write P text left next)
          (event_log_lem c.number (event_of l) s w leads buffer at)
          (λ r b z g. again next (omega arith) r log.left g b z))

      next_log : (ls : Lines) → lines (drop c.at text) ≡ ls → (s : List ℕ) (w : Watched Control) → Leads P s w → (buffer : List ℕ) (at : ℕ)
          → Writes write (events_log (plan_in P) c.number w ls) buffer at (BehindThem c.number w ls)
          (next_by write P text (events_by write P text left) (hand_out c ls) s buffer at)
      unfolding events_log events_left hand_out
      next_log nothing e s w leads buffer at = writes_none write buffer at _ s leads
      next_log (unended l) e s w leads buffer at = writes_line write buffer at _ (refused_line c.number 1) s leads
      next_log (ended l rest) e s w leads buffer at = ended_log l rest (first text c l rest e) s w leads buffer at

    one_line_more : (left : ℕ) → EventsLog left → EventsLog (suc left)
    unfolding events_by next_line
    one_line_more left again c enough s w leads buffer at =
        next_log left again c enough (lines (drop c.at text)) refl s w leads buffer at

    pub events_log_lem : (left : ℕ) → EventsLog left
    events_log_lem zero = no_line
    events_log_lem (suc left) = one_line_more left (events_log_lem left)
