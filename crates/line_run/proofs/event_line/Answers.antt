-- `line_run::event_line` meets its contract: the steps before the event, then the event. Assumes nothing.
use Rattle.event.specs.Call.{call_of}
use mathlib.Core.Option.{some}
use mathlib.Core.Path.{◌∙◌}
use Rattle.line_run.proofs.EventLaws.{line_on, line_short}
use Rattle.line_run.proofs.event_line.Goals as goal

pub returns-in_err-z : goal.returns-in_err-z
returns-in_err-z c =
    let a = c.args in
    let b = c.in_err-z.ensures in
    let ran = line_short a.write a.p.now a.number (some (call_of a.e)) a.s.now a.buffer.now a.at (b.value, (b.s_after, b.buffer_after)) in
    record { value = c.from_residual.ensures ∙ ran.0; s_after = ran.1.0; buffer_after = ran.1.1 }

pub returns : goal.returns
returns c =
    let a = c.args in
    let b = c.in_ok-z.ensures in
    let e = c.call.ensures in
    let ran = line_on a.write a.p.now a.number (some (call_of a.e)) a.s.now a.buffer.now a.at (b.value, (b.s_after, b.buffer_after)) (e.value, (e.s_after, e.buffer_after)) in
    record { value = ran.0; s_after = ran.1.0; buffer_after = ran.1.1 }
