-- `lower_bits` meets its contract: what has room n times, less the overhead, if that is 512 or more.
use native.Mathlib.Omega.{arith}
use Rattle.fit.proofs.Largest.{too_short, long_enough}
use Rattle.fit.proofs.lower_bits.Goals as goal

pub returns-then-long-overhead : goal.returns-then-long-overhead
returns-then-long-overhead c =
    let a = c.args in
    too_short a.b a.overhead a.n a.room c.most_below-long.ensures 512 (omega arith) (omega (arith, c.if-long-overhead.true))

pub returns : goal.returns
returns c =
    let a = c.args in
    long_enough a.b a.overhead a.n a.room c.most_below-long.ensures 512 (omega arith) (omega (arith, c.if-long-overhead.false))
