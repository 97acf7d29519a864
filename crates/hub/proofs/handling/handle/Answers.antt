-- `handle` meets its contract: a grant by the turn of the class sought, or a rest.
use mathlib.Core.Path.{sym, ◌∙◌}
use Rattle.cells.specs.Calls.{handled_by}
use Rattle.hub.proofs.CallLaws.{high_same}
use Rattle.hub.proofs.handling.handle.Goals as goal

pub returns-in-Some : goal.returns-in-Some
unfolding handled_by
returns-in-Some c =
    let q = sym c.in-Some.ensures in
    let e = rw (c.eq.ensures ∙ high_same c.in-Some.class) at c.choose-t.ensures in
    record { value = rw (q, ← e.value, ← e.s_after) c.grant_turn.ensures.value; s_after = rw (q, ← e.value, ← e.s_after) c.grant_turn.ensures.s_after }

pub returns-in-None : goal.returns-in-None
unfolding handled_by
returns-in-None c =
    let q = sym c.in-None.ensures in
    record { value = rw q c.rest.ensures.value; s_after = rw q c.rest.ensures.s_after }
