-- `text_run::behind_plan` meets its contract: a taken plan's events from a fresh table, and nothing behind a refused one. Assumes nothing.
use Rattle.text_run.proofs.WholeLaws.{plan_refused, plan_taken}
use Rattle.text_run.proofs.behind_plan.Goals as goal

pub returns-in-Ok : goal.returns-in-Ok
returns-in-Ok c =
    let a = c.args in
    let ran = plan_taken a.write a.text.now a.answer a.p.now a.s.now a.buffer.now a.at c.in-Ok.taken c.in-Ok.is c.fresh.ensures c.events.ensures in
    record { value = ran.0; s_after = ran.1.0; buffer_after = ran.1.1 }

pub returns-in-Err : goal.returns-in-Err
returns-in-Err c =
    let a = c.args in
    let ran = plan_refused a.write a.text.now a.answer a.p.now a.s.now a.buffer.now a.at c.in-Err.is in
    record { value = ran.0; s_after = ran.1.0; buffer_after = ran.1.1 }
