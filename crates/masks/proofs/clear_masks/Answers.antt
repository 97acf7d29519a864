-- `masks::clear_masks` meets its contract.
use mathlib.Core.Path.{◌∙◌}
use native.Mathlib.Omega.{arith}
use Rattle.masks.proofs.Building.{cleared_none, cleared_some}
use Rattle.masks.proofs.clear_masks.Goals as goal

pub loop-hub-preserved : goal.loop-hub-preserved
loop-hub-preserved c = cleared_some c.loop-hub.hub c.loop-hub.s (λ e. omega arith) ∙ c.loop-hub.invariant

pub returns : goal.returns
returns c = cleared_none c.loop-hub.hub c.loop-hub.s (omega arith) ∙ c.loop-hub.invariant
