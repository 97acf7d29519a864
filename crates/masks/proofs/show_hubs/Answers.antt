-- `masks::show_hubs` meets its contract.
use mathlib.Core.Path.{◌∙◌}
use native.Mathlib.Omega.{arith}
use Rattle.masks.proofs.Building.{no_hubs, some_hubs}
use Rattle.masks.proofs.show_hubs.Goals as goal

pub loop-hub-preserved : goal.loop-hub-preserved
loop-hub-preserved c =
    let l = c.loop-hub in
    some_hubs c.args.p.now l.s l.hub c.any_shown-normal.result c.any_shown-high.result c.show_port.new.s c.show_port-in-loop-hub.new.s (λ e. omega arith)
    c.any_shown-normal.ensures c.any_shown-high.ensures c.show_port.ensures c.show_port-in-loop-hub.ensures
    ∙ l.invariant

pub returns : goal.returns
returns c = no_hubs c.args.p.now c.loop-hub.s c.loop-hub.hub (omega arith) ∙ c.loop-hub.invariant
