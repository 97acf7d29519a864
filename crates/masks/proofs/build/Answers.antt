-- `masks::build` meets its contract: three passes.
use Prim.Native.Nat.{ℕ}
use mathlib.Core.Path.{ap, ◌∙◌}
use native.Mathlib.Omega.{arith}
use Rattle.cells.specs.Build.{clear_masks, show_hubs}
use Rattle.masks.proofs.Building.{built}
use Rattle.masks.proofs.build.Goals as goal

pub returns : goal.returns
returns c =
    let a = c.args in
    built a.p.now a.s.now c.clear_masks.new.s c.show_nodes.new.s _
    (c.clear_masks.ensures ∙ ap (λ (n : ℕ). clear_masks n a.s.now) (omega arith))
    c.show_nodes.ensures
    (c.show_hubs.ensures ∙ ap (λ (n : ℕ). show_hubs a.p.now n c.show_nodes.new.s) (omega arith))
