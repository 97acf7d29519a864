-- `rest` meets its contract: two stores.
use mathlib.Core.Path.{refl}
use Rattle.cells.specs.Calls.{rest_by, resting}
use Rattle.hub.proofs.handling.rest.Goals as goal

pub returns : goal.returns
unfolding rest_by resting
returns c = record { value = rw c.climb-moves.ensures.value; s_after = refl }
