-- `text_run::pass` meets its contract: what `handed`, `plan::read`,
-- `first_line` and `behind_plan` say, one behind the other. Assumes nothing.
use Prim.Native.Nat.{ℕ}
use mathlib.Core.Path.{sym, ap, ◌∙◌}
use mathlib.Core.List.{List}
use Rattle.plan.specs.Reading.{reading, leaves}
use Rattle.text_run.proofs.WholeLaws.{pass_on, pass_short}
use Rattle.text_run.proofs.pass.Goals as goal

pub returns-in_err-z : goal.returns-in_err-z
returns-in_err-z c =
    let a = c.args in
    let h = c.handed-text.ensures in
    let r = c.read-answer.ensures in
    let l = c.in_err-z.ensures in
    let told = c.with_number.ensures in
    let x = pass_short a.write a.text.now a.s.now a.buffer.now a.plan.now h r.value (rw told at l.buffer_after) (rw told at l.value) in
    record {
      value = c.from_residual.ensures ∙ x.0;
      s_after = x.1.0;
      buffer_after = x.1.1;
      plan_after = r.plan_after ∙ ap (λ (t : List ℕ). leaves (reading t) a.plan.now) h;
    }

pub returns : goal.returns
returns c =
    let a = c.args in
    let h = c.handed-text.ensures in
    let r = c.read-answer.ensures in
    let l = c.in_ok-z.ensures in
    let told = c.with_number.ensures in
    let b = c.behind_plan.ensures in
    let x = pass_on a.write a.text.now a.s.now a.buffer.now a.plan.now h r.value (rw told at l.buffer_after) r.plan_after (rw told at l.value) (b.value, (b.s_after, b.buffer_after)) in
    record {
      value = x.0;
      s_after = x.1.0;
      buffer_after = x.1.1;
      plan_after = r.plan_after ∙ ap (λ (t : List ℕ). leaves (reading t) a.plan.now) h;
    }
