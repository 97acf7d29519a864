-- `ports::any_shown` meets its contract.
use Rattle.ports.proofs.Coding.{any_shown}
use Rattle.ports.proofs.any_shown.Goals as goal

pub returns : goal.returns
returns c = any_shown 32 c.args.mask c.ranges.mask.fits
