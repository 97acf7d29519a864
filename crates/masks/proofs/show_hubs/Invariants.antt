use mathlib.Core.Path.{◌≡◌}
use Rattle.cells.specs.Build.{show_hubs}
use Rattle.masks.proofs.show_hubs.Given as goal

-- the hubs below are still to hand up their summaries
abbrev pub invariant-loop-hub : goal.invariant-loop-hub
invariant-loop-hub l = show_hubs l.p l.hub l.s ≡ show_hubs l.p l.n l.initial.s
