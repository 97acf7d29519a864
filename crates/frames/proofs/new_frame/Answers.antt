-- `frames::new_frame` meets its contract: the clock's frame ends at t at the latest.
use Rattle.plan.specs.Tables.{plan_of}
use Rattle.frames.proofs.new_frame.Goals as goal

pub returns : goal.returns
unfolding plan_of
returns c = cc
