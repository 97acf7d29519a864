-- `nearer` meets its contract: each return by the tests that led there.
use mathlib.Core.Logic.{⊎_elim}
use native.Mathlib.Omega.{arith}
use Rattle.control.proofs.Walks.{nearer_unmarked, nearer_there, nearer_elsewhere}
use Rattle.control.proofs.nearer.Goals as goal

pub returns-then-port-q : goal.returns-then-port-q
returns-then-port-q c =
    let a = c.args in
    nearer_there a.pointer a.g a.q a.t (λ e. omega (arith, c.if-mark-ne0.true)) (omega arith)

pub returns : goal.returns
returns c =
    let a = c.args in
    ⊎_elim (λ w. nearer_elsewhere a.pointer a.g a.q a.t (λ e. omega (arith, w.1))) (λ w. nearer_unmarked a.pointer a.g a.q a.t (omega arith)) c.else-mark-ne0.either
