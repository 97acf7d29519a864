-- `take` meets its contract: each return by what the port's cell says.
use mathlib.Core.Path.{ap, ◌∙◌}
use Prim.Native.Nat.{ℕ}
use native.Mathlib.Omega.{arith}
use lib.ListN.{get_or, set}
use Rattle.plan_tree.specs.Tables.{port_cell}
use Rattle.cells.specs.Layout.{pointer_cell}
use Rattle.control.proofs.Looks.{looked, take_empty, take_node, take_beyond, take_hub}
use Rattle.control.proofs.take.Goals as goal

pub returns-then-x-eq-EMPTY : goal.returns-then-x-eq-EMPTY
returns-then-x-eq-EMPTY c =
    let a = c.args in
    let e = looked (take_empty a.high a.hub.number a.q a.s.now (get_or a.p.now (port_cell a.hub.number a.q) 0) c.if-x-eq-EMPTY.true) in
    record { value = e.0; s_after = e.1 }

pub returns-then-x-le-HUB_CODE : goal.returns-then-x-le-HUB_CODE
returns-then-x-le-HUB_CODE c =
    let a = c.args in
    let e = looked (take_node a.high a.hub.number a.q a.s.now (get_or a.p.now (port_cell a.hub.number a.q) 0) c.if-x-eq-EMPTY.false c.if-x-le-HUB_CODE.true) in
    record { value = e.0; s_after = c.point.ensures ∙ ap (λ (n : ℕ). set a.s.now (pointer_cell a.high a.hub.number) n) (omega arith) ∙ e.1 }

pub returns-in_default : goal.returns-in_default
returns-in_default c =
    let a = c.args in
    let e = looked (take_beyond a.high a.hub.number a.q a.s.now (get_or a.p.now (port_cell a.hub.number a.q) 0) c.if-x-le-HUB_CODE.false c.in_default.ensures) in
    record { value = e.0; s_after = e.1 }

pub returns : goal.returns
returns c =
    let a = c.args in
    let e = looked (take_hub a.high a.hub.number a.q a.s.now (get_or a.p.now (port_cell a.hub.number a.q) 0) c.in-Some.below.number (omega arith) c.if-x-le-HUB_CODE.false (omega arith)) in
    record { value = e.0; s_after = c.go_down.ensures ∙ e.1 }
