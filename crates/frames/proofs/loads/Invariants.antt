use Rattle.std.proofs.Common.{◌≡◌, ◌*◌, ◌≤◌}
use Rattle.rules.specs.Choice.{sum}
use Rattle.frames.proofs.Sums.{cell_load}
use Rattle.frames.proofs.loads.Given as goal

-- the nodes so far are summed
abbrev pub invariant-loop-at : goal.invariant-loop-at
invariant-loop-at l = record { value : l.all ≡ sum l.at (cell_load l.p l.s); upper_bound : l.all ≤ l.at * 1125899906842624 }
