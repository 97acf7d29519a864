-- `frame_room` meets its contract: the loads are far below 2^64, and a sum that isn't is more than T by itself.
use native.Mathlib.Omega.{arith}
use Rattle.frames.proofs.Sums.{load_small}
use Rattle.fit.proofs.frame_room.Goals as goal

pub overflow_add-most : goal.overflow_add-most
overflow_add-most c =
    let a = c.args in
    let f = c.ranges in
    omega (arith, c.load.ensures, load_small a.overhead a.old f.overhead.fits f.old.fits)

pub overflow_add-interrupt : goal.overflow_add-interrupt
overflow_add-interrupt c =
    let a = c.args in
    let f = c.ranges in
    omega (arith, c.load.ensures, load_small a.overhead a.old f.overhead.fits f.old.fits)

pub overflow_add-result : goal.overflow_add-result
overflow_add-result c =
    let a = c.args in
    let f = c.ranges in
    omega (arith, c.load.ensures, load_small a.overhead a.old f.overhead.fits f.old.fits)
