-- `nearest` meets its contract, and ends since `levels` falls. Each return is a law of Walks, by what hub g's pointer says.
use mathlib.Core.Path.{◌∙◌}
use native.Mathlib.Omega.{arith}
use Rattle.control.proofs.Walks.{line_over, line_beyond, line_ends, line_goes_on}
use Rattle.control.proofs.+nearest.Goals as goal

pub returns-then-levels-eq0 : goal.returns-then-levels-eq0
returns-then-levels-eq0 t c =
    let a = c.args in
    line_over a.p.now a.high a.levels a.g a.q a.t a.s.now c.if-levels-eq0.true

pub returns-in_default : goal.returns-in_default
returns-in_default t c =
    let a = c.args in
    line_beyond a.p.now a.high a.levels a.g a.q a.t a.s.now c.if-levels-eq0.false c.in_default.ensures

-- behind the tests the pointer is read
pub returns-then-g-eq1 : goal.returns-then-g-eq1
returns-then-g-eq1 t c =
    let a = c.args in
    line_ends a.p.now a.high a.levels a.g a.q a.t a.s.now c.if-levels-eq0.false (omega arith) (omega arith)
    c.nearer-u.result c.pointer.result (rw c.in-Some.ensures at c.pointer.ensures.value) c.nearer-u.ensures (omega arith)

pub returns : goal.returns
returns t c =
    let a = c.args in
    c.nearest.ensures
    ∙ rw c.in-Some.ensures (line_goes_on a.p.now a.high a.levels a.g a.q a.t a.s.now c.if-levels-eq0.false (omega arith) (omega arith)
    c.nearer-u.result c.pointer.result (rw c.in-Some.ensures at c.pointer.ensures.value) c.nearer-u.ensures c.if-g-eq1.false)
