-- `requests::fresh` meets its contract: all 0, the root's number, and the pointers.
use mathlib.Core.Path.{refl, ◌∙◌}
use native.Mathlib.Omega.{arith}
use Rattle.cells.specs.Fresh.{fresh_cells}
use Rattle.requests.proofs.Pointing.{pointed-none, pointed_some}
use Rattle.requests.proofs.fresh.Goals as goal

pub loop-hub-init : goal.loop-hub-init
unfolding fresh_cells
loop-hub-init c = refl

pub loop-hub-preserved : goal.loop-hub-preserved
loop-hub-preserved c = pointed_some c.loop-hub.hub c.loop-hub.s (λ e. omega arith) ∙ c.loop-hub.invariant

pub returns : goal.returns
returns c = pointed-none c.loop-hub.hub c.loop-hub.s (omega arith) ∙ c.loop-hub.invariant
