use mathlib.Core.Path.{◌≡◌}
use Rattle.cells.specs.Build.{clear_masks}
use Rattle.masks.proofs.clear_masks.Given as goal

-- the hubs below are still to be cleared
abbrev pub invariant-loop-hub : goal.invariant-loop-hub
invariant-loop-hub l = clear_masks l.hub l.s ≡ clear_masks l.n l.initial.s
