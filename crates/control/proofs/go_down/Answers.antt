-- `go_down` meets its contract: the pointer as it was before says whether the hub below resumes.
use mathlib.Core.Path.{◌∙◌}
use native.Mathlib.Omega.{arith}
use Rattle.control.proofs.Looks.{down_resumed, down_afresh}
use Rattle.control.proofs.go_down.Goals as goal

pub returns-then-before-marked : goal.returns-then-before-marked
returns-then-before-marked c =
    let a = c.args in
    down_resumed a.high a.hub.number a.q a.s.now a.below.number c.pointer-at.result c.pointer-at.ensures.value (omega arith)

pub returns : goal.returns
returns c =
    let a = c.args in
    c.point.ensures
    ∙ down_afresh a.high a.hub.number a.q a.s.now a.below.number c.pointer-at.result c.pointer-at.ensures.value (λ same. omega arith)
