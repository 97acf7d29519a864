-- `writer::put_word` meets its contract: it copies where there is room, and else changes nothing. Assumes nothing.
use Rattle.std.specs.Prelude.{Some}
use mathlib.Core.Path.{sym, ap, ◌∙◌}
use borrow.Author.Tests.{leb-true, leb-false}
use Rattle.writer.proofs.Writes.{put-fits, put_short, put_told_lem}
use Rattle.writer.proofs.put_word.Goals as goal

pub returns-then-not-has_room : goal.returns-then-not-has_room
returns-then-not-has_room c =
    let a = c.args in
    let p = put_short a.buffer.now a.at a.word.now (leb-false _ _ (sym c.has_room.ensures ∙ c.if-not-has_room.true)) in
    put_told_lem a.buffer.now a.at a.word.now _ _ (sym p.0) (sym p.1)

pub copy_to-requires : goal.copy_to-requires
copy_to-requires c = leb-true _ _ (sym c.has_room.ensures ∙ c.if-not-has_room.false)

pub returns : goal.returns
returns c =
    let a = c.args in
    let p = put-fits a.buffer.now a.at a.word.now (leb-true _ _ (sym c.has_room.ensures ∙ c.if-not-has_room.false)) in
    put_told_lem a.buffer.now a.at a.word.now _ _ (ap Some c.copy_to.ensures.0 ∙ sym p.0) (c.copy_to.ensures.1 ∙ sym p.1)
