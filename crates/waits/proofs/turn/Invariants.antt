use mathlib.Core.Path.{◌≡◌}
use Rattle.cells.specs.Decode.{plan_in}
use Rattle.cells.specs.Waits.{turn_nodes}
use Rattle.waits.proofs.turn.Given as goal

-- the nodes below are still to be turned
abbrev pub invariant-loop-at : goal.invariant-loop-at
invariant-loop-at l = turn_nodes l.low l.high l.at l.s ≡ turn_nodes l.low l.high (plan_in l.p).nodes l.initial.s
