-- `hand_up` meets its contract: the root goes round, and another hub goes up.
use mathlib.Core.Path.{sym, ap, ◌∙◌}
use native.Mathlib.Omega.{arith}
use Rattle.cells.specs.Turns.{Looked}
use Rattle.control.proofs.Looks.{looked, root_round, handed_up}
use Rattle.control.proofs.hand_up.Goals as goal

pub returns-then-hub-eq1 : goal.returns-then-hub-eq1
returns-then-hub-eq1 c =
    let a = c.args in
    let e = looked (root_round a.p.now a.high a.hub.number a.s.now (omega arith)) in
    record { value = e.0; s_after = c.point.ensures ∙ e.1 }

pub returns : goal.returns
returns c =
    let a = c.args in
    let e = handed_up a.p.now a.high a.hub.number a.s.now c.if-hub-eq1.false in
    record {
      value = c.go_up.ensures.value ∙ sym (ap (λ (w : Looked). w.look) e);
      s_after = c.go_up.ensures.s_after ∙ sym (ap (λ (w : Looked). w.cells) e);
    }
