-- `point` meets its contract: one store.
use Rattle.control.proofs.point.Goals as goal

pub returns : goal.returns
returns c = rw c.pointer-at.ensures.value
