-- `masks::nodes` meets its contract: the lesser of two.
use Rattle.std.proofs.Common.{arith}
use Rattle.plan.specs.Tables.{plan_of}
use Rattle.masks.proofs.nodes.Goals as goal

pub returns : goal.returns
unfolding plan_of
returns c = omega arith
