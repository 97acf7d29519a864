-- `lembuya_longest` meets its contract: the plan's longest packet by its framing's cell.
use Rattle.plan.specs.Tables.{plan_of}
use Rattle.lembuya.proofs.lembuya_longest.Goals as goal

pub returns : goal.returns
unfolding plan_of
returns c = c.longest.ensures
