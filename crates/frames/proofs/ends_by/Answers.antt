-- `frames::ends_by` meets its contract: each way through the tests is a law of Ending. The clock's frame starts at the clock at the latest.
use mathlib.Core.Logic.{⊎_elim}
use native.Mathlib.Omega.{arith}
use native.Mathlib.Nat.{div-mul-le_self}
use Rattle.frames.proofs.Ending.{no_frame, not_behind, behind_start}
use Rattle.frames.proofs.ends_by.Goals as goal

pub returns-then-t-clock : goal.returns-then-t-clock
returns-then-t-clock c =
    let a = c.args in
    ⊎_elim (not_behind a.frame a.clock a.t) (λ w. no_frame a.frame a.clock a.t w.1) c.then-t-clock.either

pub overflow_mul-start : goal.overflow_mul-start
overflow_mul-start c =
    let a = c.args in
    let h = div-mul-le_self a.clock a.frame in
    omega arith

pub overflow_sub-result : goal.overflow_sub-result
overflow_sub-result c =
    let a = c.args in
    let h = div-mul-le_self a.clock a.frame in
    omega arith

pub returns : goal.returns
returns c =
    let a = c.args in
    behind_start a.frame a.clock a.t c.if-frame-eq0.false c.if-t-clock.false
