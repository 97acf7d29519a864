-- `read` meets its contract: what is read behind the header is the reading, by the laws of PlanLaws.
use mathlib.Core.Path.{sym, ap, ◌∙◌}
use native.Mathlib.Omega.{arith}
use Rattle.plan.specs.Reading.{Read, leaves}
use Rattle.plan.proofs.PlanLaws.{plan_refused, read_by}
use Rattle.plan.proofs.read.Goals as goal

pub returns-in_err-figures : goal.returns-in_err-figures
returns-in_err-figures c =
    let a = c.args in
    let e = read_by a.text.now (omega arith) c.in_err-figures.ensures in
    record { value = plan_refused _ _ c.from_residual.ensures.1 ∙ sym (ap (λ (r : Read). r.answer) e); plan_after = sym (ap (λ (r : Read). leaves r a.plan.now) e) }

pub returns : goal.returns
returns c =
    let a = c.args in
    let e = read_by a.text.now (omega arith) c.in_ok-figures.ensures in
    let h = c.hub_at.ensures in
    record { value = h.value ∙ sym (ap (λ (r : Read). r.answer) e); plan_after = h.plan_after ∙ sym (ap (λ (r : Read). leaves r a.plan.now) e) }
