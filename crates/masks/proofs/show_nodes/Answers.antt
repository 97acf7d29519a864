-- `masks::show_nodes` meets its contract.
use Prim.Native.Nat.{ℕ}
use mathlib.Core.Path.{ap, ap₂, ◌∙◌}
use native.Mathlib.Omega.{arith}
use Rattle.cells.specs.Build.{show_nodes}
use Rattle.masks.proofs.Building.{no_nodes, shown, some_nodes}
use Rattle.masks.proofs.show_nodes.Goals as goal

pub loop-at-init : goal.loop-at-init
loop-at-init c = ap (λ (n : ℕ). show_nodes c.args.p.now n c.args.s.now) c.nodes-at.ensures

pub loop-at-preserved : goal.loop-at-preserved
loop-at-preserved c =
    let l = c.loop-at in
    some_nodes c.args.p.now l.s l.at c.show_port.new.s (λ e. omega arith)
    (c.show_port.ensures ∙ ap₂ (λ (high normal : ℕ). shown c.args.p.now l.s l.at high normal) (omega arith) (omega arith))
    ∙ l.invariant

pub returns : goal.returns
returns c = no_nodes c.args.p.now c.loop-at.s c.loop-at.at (omega arith) ∙ c.loop-at.invariant
