-- `frames::next_start` meets its contract: the start is at t at the latest, and so it fits.
use Prim.Native.Nat.{◌/◌}
use native.Mathlib.Omega.{arith}
use native.Mathlib.Nat.{div-le_self}
use borrow.Author.Tests.{ltb-true}
use Rattle.frames.proofs.Ending.{some_frame, by_then}
use Rattle.frames.proofs.next_start.Goals as goal

pub returns-then-frame-eq0 : goal.returns-then-frame-eq0
returns-then-frame-eq0 c = let a = c.args in absurd (some_frame a.frame a.clock a.t c.if-frame-eq0.true c.requires)

pub overflow_add-result : goal.overflow_add-result
overflow_add-result c =
    let a = c.args in
    let h = ltb-true (a.clock / a.frame) (a.t / a.frame) c.requires in
    omega (arith, div-le_self a.t a.frame)

pub overflow_mul-result : goal.overflow_mul-result
overflow_mul-result c =
    let a = c.args in
    omega (arith, by_then a.frame a.clock a.t c.if-frame-eq0.false c.requires)
