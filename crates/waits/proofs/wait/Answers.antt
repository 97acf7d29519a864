-- `waits::wait` meets its contract. Each return is a law of Recording.
use mathlib.Core.Path.{◌∙◌}
use native.Mathlib.Omega.{arith}
use Rattle.waits.proofs.Recording.{no_wait, waits}
use Rattle.waits.proofs.wait.Goals as goal

pub returns-in_default : goal.returns-in_default
returns-in_default c = let a = c.args in no_wait a.d a.k a.s.now c.in_default.ensures

pub returns : goal.returns
returns c =
    let a = c.args in
    rw (← c.in-Some.ensures) (rw c.wide.ensures at c.saturating_sub.ensures ∙ waits a.d c.in-Some.node.number a.s.now (omega arith) (omega arith))
