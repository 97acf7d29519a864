-- `waits::turn` meets its contract: all nodes of the plan.
use Prim.Native.Nat.{ℕ}
use mathlib.Core.Path.{ap, ◌∙◌}
use native.Mathlib.Omega.{arith}
use Rattle.cells.specs.Waits.{turn_nodes}
use Rattle.waits.proofs.Recording.{turned_none, turned_some, turned_all}
use Rattle.waits.proofs.turn.Goals as goal

pub loop-at-init : goal.loop-at-init
loop-at-init c = ap (λ (n : ℕ). turn_nodes c.halves-low.result.0 c.halves-low.result.1 n c.args.s.now) c.nodes-at.ensures

pub loop-at-preserved : goal.loop-at-preserved
loop-at-preserved c =
    let l = c.loop-at in
    turned_some _ _ l.s l.at c.bits_above-most.result c.bits_above-own.result c.pick-new_low.result c.pick-new_high.result
    (λ e. omega arith) c.bits_above-most.ensures c.bits_above-own.ensures c.pick-new_low.ensures c.pick-new_high.ensures
    ∙ l.invariant

pub returns : goal.returns
returns c =
    let l = c.loop-at in
    turned_none _ _ l.s l.at (omega arith) ∙ l.invariant
    ∙ turned_all _ _ c.args.p.now c.args.s.now c.args.start c.halves-low.ensures.low c.halves-low.ensures.high
