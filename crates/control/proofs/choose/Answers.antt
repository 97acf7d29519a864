-- `choose` meets its contract: the walk from where it starts, and what it leaves settled.
use mathlib.Core.Path.{sym, ap, ◌∙◌}
use Rattle.cells.specs.Turns.{Turned}
use Rattle.control.proofs.Walks.{chosen}
use Rattle.control.proofs.choose.Goals as goal

pub returns : goal.returns
returns c =
    let a = c.args in
    let e = c.start-from.ensures.s_value in
    let d =
    chosen a.p.now a.high a.s.now (c.walk-t.ensures.value ∙ sym (ap (λ (w : Turned). w.turn) e))
    (c.walk-t.ensures.s_after ∙ sym (ap (λ (w : Turned). w.cells) e)) c.settle.ensures in
    record { value = d.0; s_after = d.1 }
