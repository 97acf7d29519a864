-- `masks::show_port` meets its contract: each way through the tests is a law of Building.
use native.Mathlib.Omega.{arith}
use Rattle.masks.proofs.Building.{no_port, port_shown}
use Rattle.masks.proofs.show_port.Goals as goal

pub returns-in_default : goal.returns-in_default
returns-in_default c = let a = c.args in no_port a.high a.g a.q a.b a.s.now c.in_default.ensures

pub returns : goal.returns
returns c =
    let a = c.args in
    rw (← c.in-Some.ensures)
    (port_shown a.high c.in-Some.hub.number a.q a.b a.s.now c.mask-at.result c.with_port.result (omega arith) (omega arith)
    c.mask-at.ensures.value c.with_port.ensures)
