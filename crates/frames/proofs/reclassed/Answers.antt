-- `frames::reclassed` meets its contract: no request stays none, and a standing one goes on in its class.
use Rattle.frames.proofs.Reclassing.{stays_away}
use Rattle.frames.proofs.reclassed.Goals as goal

pub returns-then-x-lt-NORMAL : goal.returns-then-x-lt-NORMAL
returns-then-x-lt-NORMAL c = let a = c.args in stays_away a.share a.x c.if-x-lt-NORMAL.true

pub returns : goal.returns
returns c = c.class_then.ensures.half_value
