-- `climb` meets its contract: one move for each level above the root's.
use mathlib.Core.Path.{◌∙◌}
use native.Mathlib.Omega.{arith}
use Rattle.control.proofs.Walks.{climb_beyond, climb-levels}
use Rattle.control.proofs.climb.Goals as goal

pub returns-in_default : goal.returns-in_default
returns-in_default c = record { value = climb_beyond c.args.p.now c.args.g c.in_default.ensures; upper_bound = omega arith }

pub returns : goal.returns
returns c =
    let a = c.args in
    record { value = rw (← c.in-Some.ensures) (c.saturating_sub.ensures ∙ climb-levels a.p.now c.in-Some.hub.number (omega arith) (omega arith)); upper_bound = omega arith }
