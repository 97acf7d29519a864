-- `settle` meets its contract: node 0 leaves the class of the latest grant.
use mathlib.Core.Path.{sym, ap, ◌∙◌}
use Prim.Native.Nat.{ℕ}
use lib.ListN.{set}
use Rattle.cells.specs.Layout.{holder_cell, class_cell}
use Rattle.ports.proofs.Digits.{byte_digit}
use Rattle.control.proofs.Walks.{nobody_granted, class_settled}
use Rattle.control.proofs.settle.Goals as goal

pub returns-then-t-eq0 : goal.returns-then-t-eq0
returns-then-t-eq0 c =
    let a = c.args in
    sym (nobody_granted a.high a.t a.s.now c.if-t-eq0.true)

pub returns : goal.returns
returns c =
    let a = c.args in
    ap (λ (n : ℕ). set (set a.s.now holder_cell a.t.hub) class_cell n) (byte_digit a.high)
    ∙ sym (class_settled a.high a.t a.s.now c.if-t-eq0.false)
