-- The hub reader meets its contract: each return is a law of ReaderLaws. The port reader's returns are found.
use mathlib.Core.List.{List}
use mathlib.Core.Path.{sym, ap, ◌∙◌}
use Prim.Native.Nat.{ℕ, ◌+◌, ◌-◌}
use Rattle.plan_tree.specs.declared.Refused.{Refused}
use Rattle.plan_tree.specs.Part.{Stopped, row_number}
use Rattle.plan_tree.specs.Readers.{Answered, hub_reader}
use Rattle.plan_tree.proofs.Cited.Tags.{same_close}
use Rattle.plan_tree.proofs.Cited.ReaderLaws.{stopped, none_left, missing, closes, port_stops, port_read}
use Rattle.plan_tree.proofs.readers.+hub_reader_port_reader.Goals as goal

pub hub_reader-returns-then-left-eq0 : goal.hub_reader-returns-then-left-eq0
hub_reader-returns-then-left-eq0 t c =
    let a = c.args in
    let e = none_left a.text.now a.left a.x a.g a.q a.levels a.s.now c.if-left-eq0.true in
    record { value = ap (λ (r : Refused). Stopped r.line (row_number r.row)) c.new.ensures ∙ ap (λ (d : Answered). d.part) e; s_after = ap (λ (d : Answered). d.tables) e }

pub hub_reader-returns-in_err-line : goal.hub_reader-returns-in_err-line
hub_reader-returns-in_err-line t c =
    let a = c.args in
    let r = c.in_err-line.field-0.0 in
    let e = missing a.text.now a.left a.x a.g a.q a.levels a.s.now c.if-left-eq0.false r.line (row_number r.row) c.in_err-line.ensures in
    record { value = stopped _ r c.from_residual.ensures.1 ∙ ap (λ (d : Answered). d.part) e; s_after = ap (λ (d : Answered). d.tables) e }

pub hub_reader-returns-then-eq : goal.hub_reader-returns-then-eq
hub_reader-returns-then-eq t c =
    let a = c.args in
    let l = c.in_ok-line.line in
    let k = c.kind_of-kind.result in
    let e = closes a.text.now a.left a.x a.g a.q a.levels a.s.now c.if-left-eq0.false l.bytes.now l.number l.next c.in_ok-line.ensures k c.kind_of-kind.ensures (same_close k ∙ sym c.eq.ensures ∙ c.if-eq.true) in
    record { value = c.close_hub.ensures.value ∙ ap (λ (d : Answered). d.part) e; s_after = c.close_hub.ensures.s_after ∙ ap (λ (d : Answered). d.tables) e }

pub hub_reader-returns-in_err-z : goal.hub_reader-returns-in_err-z
hub_reader-returns-in_err-z t c =
    let a = c.args in
    let l = c.in_ok-line.line in
    let k = c.kind_of-kind.result in
    let r = c.in_err-z.field-0.0 in
    let e = port_stops a.text.now a.left a.x a.g a.q a.levels a.s.now c.if-left-eq0.false l.bytes.now l.number l.next c.in_ok-line.ensures k c.kind_of-kind.ensures (same_close k ∙ sym c.eq.ensures ∙ c.if-eq.false) r.line (row_number r.row) c.in_err-z.ensures.value in
    let f = c.port_reader.ensures in
    record { value = stopped _ r c.from_residual-in_err-z.ensures.1 ∙ c.in_err-z.ensures.value ∙ ap (λ (d : Answered). d.part) e; s_after = f.s_after ∙ ap (λ (d : Answered). d.tables) e }

pub hub_reader-returns : goal.hub_reader-returns
hub_reader-returns t c =
    let a = c.args in
    let l = c.in_ok-line.line in
    let k = c.kind_of-kind.result in
    let e = port_read a.text.now a.left a.x a.g a.q a.levels a.s.now c.if-left-eq0.false l.bytes.now l.number l.next c.in_ok-line.ensures k c.kind_of-kind.ensures (same_close k ∙ sym c.eq.ensures ∙ c.if-eq.false) c.in_ok-z.z c.in_ok-z.ensures.value in
    let f = c.port_reader.ensures.s_after in record {
      value = c.hub_reader.ensures.value ∙ ap (λ (u : List ℕ). (hub_reader a.text.now (a.left - 1) c.in_ok-z.z a.g (a.q + 1) a.levels u).part) f ∙ ap (λ (d : Answered). d.part) e;
      s_after = c.hub_reader.ensures.s_after ∙ ap (λ (u : List ℕ). (hub_reader a.text.now (a.left - 1) c.in_ok-z.z a.g (a.q + 1) a.levels u).tables) f ∙ ap (λ (d : Answered). d.tables) e;
    }
