-- `requests::put_time` meets its contract: two stores.
use Rattle.cells.specs.Layout.{put_time}
use Rattle.requests.proofs.put_time.Goals as goal

pub returns : goal.returns
unfolding put_time
returns c = rw (c.halves-low.ensures.low, c.halves-low.ensures.high)
