use mathlib.Core.Path.{◌≡◌}
use Rattle.cells.specs.Decode.{plan_in}
use Rattle.cells.specs.Frames.{start_nodes}
use Rattle.frames.proofs.start_frame.Given as goal

-- the nodes below are still to start
abbrev pub invariant-loop-at : goal.invariant-loop-at
invariant-loop-at l = start_nodes l.at l.s ≡ start_nodes (plan_in l.p).nodes l.initial.s
