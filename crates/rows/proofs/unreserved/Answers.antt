-- `unreserved` meets its contract, by the cell of the reservation in force.
use mathlib.Core.Path.{◌≡◌}
use Prim.Native.Nat.{◌/◌}
use native.Mathlib.Omega.{arith}
use borrow.Author.Tests.{eq-eqb, ne_eqb}
use Rattle.plan.specs.Tables.{plan_of}
use Rattle.cells.specs.Layout.{half}
use Rattle.cells.specs.Decode.{plan_in}
use Rattle.rows.proofs.InForce.{row16_cell}
use Rattle.rows.proofs.unreserved.Goals as goal

pub returns-then-share-lt-HALF : goal.returns-then-share-lt-HALF
unfolding plan_of
returns-then-share-lt-HALF c =
    let a = c.args in
    let x = c.share_at-share.result in
    let z : x / half ≡ 0 = omega arith in
    rw (eq-eqb (x / half) 0 z) at
    (row16_cell (plan_in a.p.now) a.s.now a.k c.requires a.high a.t a.b x c.if-not-high.false c.share_at-share.ensures)

pub returns : goal.returns
returns c =
    let a = c.args in
    let x = c.share_at-share.result in
    rw (ne_eqb (x / half) 0 (λ z. omega arith)) at
    (row16_cell (plan_in a.p.now) a.s.now a.k c.requires a.high a.t a.b x c.if-not-high.false c.share_at-share.ensures)
