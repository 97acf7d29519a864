-- `requests::busy_until` meets its contract: the line is busy, and the time.
use Rattle.std.proofs.Common.{rules}
use Rattle.cells.specs.Calls.{busy_until}
use Rattle.requests.proofs.busy_until.Goals as goal

pub returns : goal.returns
unfolding busy_until
returns c = search rules
