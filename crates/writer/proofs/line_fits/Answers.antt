-- `writer::line_fits` meets its contract: a line as long as any can be fits, or it was measured. Assumes nothing.
use Rattle.std.proofs.Common.{sym, ap, ◌∙◌, length, arith}
use borrow.Author.Tests.{le-leb}
use Rattle.std.specs.Option.{is_some}
use Rattle.writer.specs.Write.{draw_line}
use Rattle.writer.proofs.Spaced.{line_most}
use Rattle.writer.proofs.Writes.{answered_some}
use Rattle.writer.proofs.line_fits.Goals as goal

pub returns-then-surely_fits : goal.returns-then-surely_fits
returns-then-surely_fits c =
    let a = c.args in
    c.if-surely_fits.true
    ∙ sym (le-leb (length (draw_line a.word.now a.numbers.now)) a.room (omega (arith, line_most a.word.now a.numbers.now (λ i. (c.type_inv.numbers i).fits), c.surely_fits.ensures c.if-surely_fits.true)))

pub returns-else-surely_fits : goal.returns-else-surely_fits
returns-else-surely_fits c = c.is_some.ensures ∙ ap is_some c.line_rest.ensures ∙ answered_some _ _
