-- The run of an event line and of all of them, by what each call answered.
use Rattle.std.specs.Prelude.{Option, Some, None, Result, Ok, Err}
use Prim.Native.Nat.{ℕ}
use mathlib.Core.Path.{◌≡◌, refl, sym, ap, ◌∙◌}
use mathlib.Core.Bool.{Bool}
use mathlib.Core.List.{List}
use mathlib.Core.Option as math
use native.Mathlib.Omega.{arith}
use borrow.Author.Tests.{eq-eqb, ne_eqb}
use Rattle.rules.specs.Call.{Call, time}
use Rattle.writer.specs.Write.{put_answer, pass_buffer}
use Rattle.log_lines.specs.FirstLine.{refused_line}
use Rattle.cells.specs.Step as cells
use Rattle.cells.specs.declared.Refusal.{Refusal}
use Rattle.cells.specs.declared.Refusal.TheVariants.{OutOfTime, StillDue, NoNode, TooMany, Outside, Unreserved, Overfull}
use Rattle.cells.specs.Calls.{EventPromise, row_by}
use Rattle.log_spec.specs.Cells.{number_by, cells_by, steps_by, budget_by, before_by, call_by, event_line_by}
use Rattle.line_run.specs.LineRun.{Ran}
use Rattle.line_run.proofs.Ran.{onward, halted}

-- no refusal is told by 0
not_0 : (r : Refusal) → cells.refusal_number r ≡ 0 → ⊥
not_0 OutOfTime e = omega arith
not_0 StillDue e = omega arith
not_0 NoNode e = omega arith
not_0 TooMany e = omega arith
not_0 Outside e = omega arith
not_0 Unreserved e = omega arith
not_0 Overfull e = omega arith

module _ (write : Bool) (P : List ℕ) where
  -- the steps before an event
  pub before_event : (call : Call) (s b : List ℕ) (at : ℕ) → {left t : ℕ} → left ≡ budget_by s → t ≡ time call
      → {r : Option ℕ} {s' b' : List ℕ} → Ran (steps_by write P left t s b at) r s' b' → Ran (before_by write P (math.some call) s b at) r s' b'
  unfolding before_by
  before_event call s b at l w x = rw (l, w) at x

  -- the event itself, by what was answered
  module _ (number : ℕ) (call : Call) (s b : List ℕ) (at : ℕ) (answer : Result (Unit {0}) Refusal) {s' : List ℕ} (made : EventPromise P call s (cells.number answer) s') where
    pub call_taken : {u : Unit {0}} → answer ≡ Ok u → Ran (call_by write P number (math.some call) s b at) (Some at) s' b
    unfolding call_by number_by cells_by
    call_taken e = rw (eq-eqb (row_by P call s) 0 (sym made.0 ∙ ap cells.number e)) (refl, (made.1, refl))

    pub call_refused : {r : Refusal} → answer ≡ Err r → {n : ℕ}
        → {put : Option ℕ} {b' : List ℕ} → put ≡ put_answer b at (refused_line number n) → b' ≡ pass_buffer write b at (refused_line number n)
        → n ≡ cells.refusal_number r → Ran (call_by write P number (math.some call) s b at) put s' b'
    unfolding call_by number_by cells_by
    call_refused {r} e {n} {put} {b'} p w told =
        let row : row_by P call s ≡ n = sym made.0 ∙ ap cells.number e ∙ sym told in
        let some : row_by P call s ≡ 0 → ⊥ = λ z. not_0 r (sym told ∙ sym row ∙ z) in
        rw (ne_eqb (row_by P call s) 0 some, row) (p, (made.1, w))

  -- an event line: the steps before it, then the event
  module _ (number : ℕ) (call : math.Option Call) (s b : List ℕ) (at : ℕ) {s' b' : List ℕ} where
    pub line_on : {z : ℕ} → Ran (before_by write P call s b at) (Some z) s' b' → {r : Option ℕ} {s'' b'' : List ℕ}
        → Ran (call_by write P number call s' b' z) r s'' b'' → Ran (event_line_by write P number call s b at) r s'' b''
    unfolding event_line_by
    line_on before x = onward (call_by write P number call) (before_by write P call s b at) before x

    pub line_short : Ran (before_by write P call s b at) None s' b' → Ran (event_line_by write P number call s b at) None s' b'
    unfolding event_line_by
    line_short before = halted (call_by write P number call) (before_by write P call s b at) before
