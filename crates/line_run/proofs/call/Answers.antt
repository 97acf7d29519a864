-- `line_run::call` meets its contract: the event, and its line where it is refused. Assumes nothing.
use native.Mathlib.Omega.{arith}
use Rattle.event.specs.Call.{call_of}
use Rattle.line_run.proofs.EventLaws.{call_taken, call_refused}
use Rattle.line_run.proofs.call.Goals as goal

pub returns-in-Ok : goal.returns-in-Ok
returns-in-Ok c =
    let a = c.args in
    let ran = call_taken a.write a.p.now a.number (call_of a.e) a.s.now a.buffer.now a.at c.event.result c.event.ensures c.in-Ok.is in
    record { value = ran.0; s_after = ran.1.0; buffer_after = ran.1.1 }

pub returns-in-Err : goal.returns-in-Err
returns-in-Err c =
    let a = c.args in
    let l = c.refused_line.ensures in
    let ran = call_refused a.write a.p.now a.number (call_of a.e) a.s.now a.buffer.now a.at c.event.result c.event.ensures c.in-Err.is l.value l.buffer_after (omega arith) in
    record { value = ran.0; s_after = ran.1.0; buffer_after = ran.1.1 }
