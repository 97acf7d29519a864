-- `line_run::before` meets its contract: the steps of the budget up to the event's time. Assumes nothing.
use Rattle.event.specs.Call.{call_of}
use Rattle.line_run.proofs.EventLaws.{before_event}
use Rattle.line_run.proofs.before.Goals as goal

pub returns : goal.returns
returns c =
    let a = c.args in
    let ran = before_event a.write a.p.now (call_of a.e) a.s.now a.buffer.now a.at c.budget-left.ensures c.time_of.ensures (c.steps.ensures.value, (c.steps.ensures.s_after, c.steps.ensures.buffer_after)) in
    record { value = ran.0; s_after = ran.1.0; buffer_after = ran.1.1 }
