-- `frames::start_frame` meets its contract: the nodes' cells, and then the masks.
use Prim.Native.Nat.{ℕ}
use mathlib.Core.Path.{ap, ◌∙◌}
use native.Mathlib.Omega.{arith}
use Rattle.cells.specs.Frames.{start_nodes}
use Rattle.frames.proofs.Starting.{starts_none, starts_some, starts_all}
use Rattle.frames.proofs.start_frame.Goals as goal

pub loop-at-init : goal.loop-at-init
loop-at-init c = ap (λ (n : ℕ). start_nodes n c.args.s.now) c.nodes-at.ensures

pub loop-at-preserved : goal.loop-at-preserved
loop-at-preserved c =
    let l = c.loop-at in
    starts_some l.s l.at _ (λ e. omega arith) c.reclassed.ensures ∙ l.invariant

pub returns : goal.returns
returns c =
    let l = c.loop-at in
    starts_all c.args.p.now c.args.s.now l.s _ (starts_none l.s l.at (omega arith) ∙ l.invariant) c.build.ensures
