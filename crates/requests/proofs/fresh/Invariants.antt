use mathlib.Core.Path.{◌≡◌}
use Rattle.cells.specs.Fresh.{pointed, fresh_cells}
use Rattle.requests.proofs.fresh.Given as goal

-- the hubs below are still to be pointed
abbrev pub invariant-loop-hub : goal.invariant-loop-hub
invariant-loop-hub l = pointed l.hub l.s ≡ fresh_cells
