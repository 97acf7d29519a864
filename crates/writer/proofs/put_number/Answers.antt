-- `writer::put_number` meets its contract: it writes the digits where there is room for them, and else changes nothing. Assumes nothing.
use Rattle.std.specs.Prelude.{Some}
use mathlib.Core.Path.{◌≡◌, sym, ap, ◌∙◌}
use mathlib.Core.Bool.{Bool}
use Prim.Native.Nat.{ℕ, ◌+◌}
use borrow.Author.Tests.{leb-true, leb-false}
use lib.Dec.{leb}
use lib.ListN.{length}
use Rattle.text.specs.Number.{digits}
use Rattle.writer.proofs.Writes.{put-fits, put_short, put_told_lem}
use Rattle.writer.proofs.put_number.Goals as goal

-- the test is that of the definition
tested : (fit : Bool) (at count value room : ℕ) → fit ≡ leb (at + count) room → count ≡ length (digits value) → fit ≡ leb (at + length (digits value)) room
tested fit at count value room e h = e ∙ ap (λ (k : ℕ). leb (at + k) room) h

pub returns-then-not-has_room : goal.returns-then-not-has_room
returns-then-not-has_room c =
    let a = c.args in
    let p = put_short a.buffer.now a.at (digits a.value) (leb-false _ _ (sym (tested c.has_room.result a.at c.number_length.result a.value (length a.buffer.now) c.has_room.ensures c.number_length.ensures) ∙ c.if-not-has_room.true)) in
    put_told_lem a.buffer.now a.at (digits a.value) _ _ (sym p.0) (sym p.1)

pub digits_to-requires : goal.digits_to-requires
digits_to-requires c =
    let a = c.args in
    leb-true _ _ (sym (tested c.has_room.result a.at c.number_length.result a.value (length a.buffer.now) c.has_room.ensures c.number_length.ensures) ∙ c.if-not-has_room.false)

pub returns : goal.returns
returns c =
    let a = c.args in
    let p = put-fits a.buffer.now a.at (digits a.value) (leb-true _ _ (sym (tested c.has_room.result a.at c.number_length.result a.value (length a.buffer.now) c.has_room.ensures c.number_length.ensures) ∙ c.if-not-has_room.false)) in
    put_told_lem a.buffer.now a.at (digits a.value) _ _ (ap Some c.digits_to.ensures.0 ∙ sym p.0) (c.digits_to.ensures.1 ∙ sym p.1)
