-- `overfull` meets its contract: all loads but the old one, and the new one.
use mathlib.Core.Path.{◌∙◌, ap}
use Prim.Native.Nat.{ℕ, ◌+◌, ◌*◌, ◌/◌, ◌%◌}
use native.Mathlib.Omega.{arith}
use lib.Dec.{ltb}
use lib.ListN.{get_or}
use Rattle.plan.specs.Tables.{plan_of}
use Rattle.cells.specs.Layout.{half, latest_cell}
use Rattle.cells.specs.Decode.{plan_in}
use Rattle.admission.proofs.ReserveRows.{limits_kept}
use Rattle.admission.proofs.Shares.{row17-cells}
use Rattle.admission.proofs.overfull.Goals as goal

pub returns : goal.returns
unfolding plan_of
returns c =
    let a = c.args in
    let p = plan_in a.p.now in
    let old = get_or a.s.now (latest_cell a.k) 0 in
    let kept = limits_kept a.p.now a.k a.n a.b c.requires in
    c.more_than.ensures
    ∙ ap (λ (new : ℕ). ltb (p.frame + old / half * (old % half + p.overhead)) (p.interrupt + (a.all + new / half * (new % half + p.overhead))))
    c.share_code.ensures
    ∙ row17-cells p a.s.now a.all a.k kept.node a.n a.b kept.bits
