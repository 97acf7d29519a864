use mathlib.Core.Path.{◌≡◌}
use Rattle.cells.specs.Build.{show_nodes}
use Rattle.cells.specs.Decode.{plan_in}
use Rattle.masks.proofs.show_nodes.Given as goal

-- the nodes below are still to be shown
abbrev pub invariant-loop-at : goal.invariant-loop-at
invariant-loop-at l = show_nodes l.p l.at l.s ≡ show_nodes l.p (plan_in l.p).nodes l.initial.s
