-- `reader::told` meets its contract, by the case. Assumes nothing.
use mathlib.Core.Path.{sym}
use native.Mathlib.Omega.{arith}
use Rattle.reader.proofs.Handed.{line_answer, unended_answer, done_answer}
use Rattle.reader.proofs.told.Goals as goal

pub returns-then-ended : goal.returns-then-ended
returns-then-ended c =
    let a = c.args in
    sym (line_answer a.at a.length a.number (record { at = a.place; number = a.line }) a.ended c.if-ended.true)

pub returns-then-length-eq0 : goal.returns-then-length-eq0
returns-then-length-eq0 c =
    let a = c.args in
    sym (done_answer a.at a.length a.number (record { at = a.place; number = a.line }) a.ended c.if-ended.false (omega arith))

pub returns : goal.returns
returns c =
    let a = c.args in
    sym (unended_answer a.at a.length a.number (record { at = a.place; number = a.line }) a.ended c.if-ended.false (λ z. omega arith))
