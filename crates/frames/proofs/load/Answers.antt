-- `frames::load` meets its contract: the product is far below 2^64.
use native.Mathlib.Omega.{arith}
use Rattle.frames.proofs.Sums.{load_small}
use Rattle.frames.proofs.load.Goals as goal

pub overflow_mul-result : goal.overflow_mul-result
overflow_mul-result c = omega (arith, load_small c.args.overhead c.args.share c.ranges.overhead.fits c.ranges.share.fits)
