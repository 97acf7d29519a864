-- `step` meets its contract: row 11, then the due instant.
use mathlib.Core.Path.{◌∙◌, sym, ap}
use Rattle.cells.specs.Calls.{Stepped}
use Rattle.rows.proofs.CallRows.{in_time_lem}
use Rattle.hub.proofs.CallLaws.{step_refused, step_allowed}
use Rattle.hub.proofs.step.Goals as goal

pub returns-then-out_of_time : goal.returns-then-out_of_time
returns-then-out_of_time c =
    let a = c.args in
    let e = step_refused a.p.now a.s.now a.t c.out_of_time.ensures c.if-out_of_time.true in
    (sym (ap (λ (x : Stepped). x.answer) e), sym (ap (λ (x : Stepped). x.cells) e))

pub step_due-requires : goal.step_due-requires
step_due-requires c =
    let a = c.args in
    (in_time_lem a.s.now a.t c.out_of_time.ensures c.if-out_of_time.false).1

pub returns : goal.returns
returns c =
    let a = c.args in
    let e = step_allowed a.p.now a.s.now a.t c.out_of_time.ensures c.if-out_of_time.false in
    (c.step_due.ensures.value ∙ sym (ap (λ (x : Stepped). x.answer) e), c.step_due.ensures.s_after ∙ sym (ap (λ (x : Stepped). x.cells) e))
