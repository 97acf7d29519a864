-- `look` meets its contract: what the search finds says whether rule 3 or rule 4 comes.
use mathlib.Core.Path.{sym, ap, ◌∙◌}
use Rattle.cells.specs.Turns.{Looked}
use Rattle.control.proofs.Looks.{found_port, look_takes, look_hands_up}
use Rattle.control.proofs.look.Goals as goal

pub take-requires : goal.take-requires
take-requires c =
    found_port _ _ _ (sym c.in-Some.ensures)

pub returns-in-Some : goal.returns-in-Some
returns-in-Some c =
    let a = c.args in
    let e = look_takes a.p.now a.high a.hub.number a.s.now c.mask.result c.pointer.result c.mask.ensures.value c.pointer.ensures.value _
    (sym c.in-Some.ensures) in
    record {
      value = c.take.ensures.value ∙ sym (ap (λ (w : Looked). w.look) e);
      s_after = c.take.ensures.s_after ∙ sym (ap (λ (w : Looked). w.cells) e);
    }

pub returns-in-None : goal.returns-in-None
returns-in-None c =
    let a = c.args in
    let e = look_hands_up a.p.now a.high a.hub.number a.s.now c.mask.result c.pointer.result c.mask.ensures.value c.pointer.ensures.value
    (sym c.in-None.ensures) in
    record {
      value = c.hand_up.ensures.value ∙ sym (ap (λ (w : Looked). w.look) e);
      s_after = c.hand_up.ensures.s_after ∙ sym (ap (λ (w : Looked). w.cells) e);
    }
