-- `outside` meets its contract: the plan's longest packet by its framing's cell.
use native.Mathlib.Omega.{arith}
use Rattle.plan.specs.Tables.{plan_of}
use Rattle.rows.proofs.outside.Goals as goal

pub returns : goal.returns
unfolding plan_of
returns c = grind arith
