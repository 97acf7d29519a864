-- `more_than` meets its contract: the loads are far below 2^64, and a sum that saturates is more than T by itself.
use Prim.Native.Nat.{◌+◌, ◌*◌, ◌/◌, ◌%◌}
use native.Mathlib.Omega.{arith}
use Rattle.frames.proofs.Sums.{load_small}
use Rattle.admission.proofs.more_than.Goals as goal

pub overflow_add-interrupt : goal.overflow_add-interrupt
overflow_add-interrupt c =
    let a = c.args in
    let f = c.ranges in
    omega (arith, load_small a.overhead a.new f.overhead.fits f.new.fits)

pub overflow_add-result : goal.overflow_add-result
overflow_add-result c =
    let a = c.args in
    let f = c.ranges in
    omega (arith, load_small a.overhead a.old f.overhead.fits f.old.fits)

pub returns : goal.returns
returns c =
    let a = c.args in
    let f = c.ranges in
    grind (arith, load_small a.overhead a.old f.overhead.fits f.old.fits)
