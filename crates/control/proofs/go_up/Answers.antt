-- `go_up` meets its contract: each return by the tests that led there.
use mathlib.Core.Path.{ap, ◌∙◌}
use Prim.Native.Nat.{ℕ}
use lib.ListN.{set}
use Rattle.cells.specs.Layout.{pointer_cell}
use native.Mathlib.Omega.{arith}
use Rattle.control.proofs.Looks.{looked, up_beyond, up_no_port, up-passes}
use Rattle.control.proofs.go_up.Goals as goal

pub returns-in_default : goal.returns-in_default
returns-in_default c =
    let a = c.args in
    let e = looked (up_beyond a.high a.h a.q a.s.now c.in_default.ensures) in
    record { value = e.0; s_after = e.1 }

pub returns-then-q-gt-MOST_PORTS : goal.returns-then-q-gt-MOST_PORTS
returns-then-q-gt-MOST_PORTS c =
    let a = c.args in
    let e = looked (up_no_port a.high a.h a.q a.s.now (omega arith) (omega arith) (omega arith)) in
    record { value = e.0; s_after = e.1 }

pub returns : goal.returns
returns c =
    let a = c.args in
    let e = looked (up-passes a.high a.h a.q a.s.now (omega arith) (omega arith) (omega arith)) in
    record { value = e.0; s_after = rw c.in-Some.ensures at c.point.ensures ∙ ap (λ (n : ℕ). set a.s.now (pointer_cell a.high a.h) n) (omega arith) ∙ e.1 }
