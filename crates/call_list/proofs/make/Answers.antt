-- `make` meets its contract: kind 6 is the step, and each other kind an event, whose answer has only a number.
use Prim.Native.Nat.{◌+◌, ◌*◌}
use mathlib.Core.Path.{sym, ap, ◌∙◌}
use lib.ListN.{get_or}
use Rattle.cells.specs.Calls.{step_answer, step_wait, perform_by}
use Rattle.call_list.specs.Table.{call_at, seven_of, number_seven}
use Rattle.call_list.proofs.Numbers.{step_seven_lem}
use Rattle.call_list.proofs.Making.{event_kind, call_step, event_made}
use Rattle.call_list.proofs.make.Goals as goal

pub returns-in-Ok : goal.returns-in-Ok
unfolding perform_by
returns-in-Ok c =
    let a = c.args in
    let e = c.in-Ok.ensures in
    rw (call_step a.p.now a.calls.now a.s.now a.i c.if-kind-eq6.true)
    (record { s_value = step_seven_lem a.p.now (get_or a.calls.now (a.i * 5 + 1) 0) a.s.now e.0 ∙ sym c.from.ensures; s_after = e.1 })

pub returns-in-Err : goal.returns-in-Err
unfolding perform_by seven_of step_answer step_wait
returns-in-Err c =
    let a = c.args in
    let e = c.in-Err.ensures in
    rw (call_step a.p.now a.calls.now a.s.now a.i c.if-kind-eq6.true)
    (record {
      s_value =
          step_seven_lem a.p.now (get_or a.calls.now (a.i * 5 + 1) 0) a.s.now e.0
          ∙ ap number_seven (sym c.from-in-Err.ensures) ∙ sym c.of_number.ensures;
      s_after = e.1;
    })

pub decoded-requires : goal.decoded-requires
decoded-requires c =
    event_kind (get_or c.args.calls.now (c.args.i * 5) 0) c.requires.1 c.if-kind-eq6.false

pub returns : goal.returns
unfolding call_at
returns c =
    let a = c.args in
    let w =
    event_made a.p.now a.calls.now a.s.now a.i c.decoded.result c.decoded.ensures _ c.event.new.s c.event.ensures in
    record { s_value = w.0 ∙ ap number_seven (sym c.number.ensures) ∙ sym c.of_number-2.ensures; s_after = w.1 }
