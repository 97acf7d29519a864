-- `writer::put_form` meets its contract: where the whole line fits it writes the word and then
-- the numbers behind it, or only measures them, and else it changes nothing. Assumes nothing.
use Rattle.std.proofs.Common.{◌≡◌, sym, ap, ◌∙◌, Bool, true, Some, List, [], ℕ, ◌+◌, ◌-◌, ◌≤◌, length, leb, length-append, arith}
use borrow.Author.Tests.{leb-true, leb-false}
use Rattle.writer.specs.Write.{overwrite, draw_line}
use Rattle.writer.proofs.Spaced.{line-behind}
use Rattle.writer.proofs.Writes.{overwrite-append, put-fits, put_short, pass_fits, pass_measured, pass_short, pass_told, rest_told, rest_lacks}
use Rattle.writer.proofs.put_form.Goals as goal

-- the line is the word and what follows it
line_parts : (word ns : List ℕ) → length (draw_line word ns) ≡ length word + length (draw_line [] ns)
line_parts word ns = ap length (line-behind word ns) ∙ length-append word (draw_line [] ns)

-- it is to be written, and fits
fits : (fit : Bool) (at n room whole : ℕ) → fit ≡ leb n room → fit ≡ true → at ≤ whole → room ≡ whole - at → at + n ≤ whole
fits fit at n room whole e h inside r = omega (arith, leb-true n room (sym e ∙ h))

pub returns-in_err-room : goal.returns-in_err-room
returns-in_err-room c =
    let a = c.args in
    let s : List ℕ = draw_line a.word.now a.numbers.now in
    let h : (a.at ≤ length a.buffer.now → ⊥) = c.in_err-room.ensures in
    pass_told a.write a.buffer.now a.at s _ _ (c.from_residual.ensures ∙ sym (put_short a.buffer.now a.at s (omega (arith, h))).0)
    (sym (pass_short a.write a.buffer.now a.at s (omega (arith, h))))

pub returns-in_err-rest : goal.returns-in_err-rest
returns-in_err-rest c =
    let a = c.args in
    let s : List ℕ = draw_line a.word.now a.numbers.now in
    let lacks = rest_lacks (length s) c.in_ok-room.room c.line_rest.result c.line_rest.ensures c.in_err-rest.was in
    pass_told a.write a.buffer.now a.at s _ _
    (c.from_residual-in_err-rest.ensures ∙ sym (put_short a.buffer.now a.at s (omega (arith, c.in_ok-room.ensures.0, c.in_ok-room.ensures.1))).0)
    (sym (pass_short a.write a.buffer.now a.at s (omega (arith, c.in_ok-room.ensures.0, c.in_ok-room.ensures.1))))

pub overflow_sub-result : goal.overflow_sub-result
overflow_sub-result c =
    let a = c.args in
    omega (arith, rest_told (length (draw_line a.word.now a.numbers.now)) c.in_ok-room.room c.line_rest.result c.in_ok-rest.rest c.line_rest.ensures c.in_ok-rest.was, c.in_ok-room.ensures.1)

pub returns-then-not-write : goal.returns-then-not-write
returns-then-not-write c =
    let a = c.args in
    let s : List ℕ = draw_line a.word.now a.numbers.now in
    let whole = rest_told (length s) c.in_ok-room.room c.line_rest.result c.in_ok-rest.rest c.line_rest.ensures c.in_ok-rest.was in
    let behind : length a.buffer.now - c.in_ok-rest.rest ≡ a.at + length s = omega (arith, whole, c.in_ok-room.ensures.0, c.in_ok-room.ensures.1) in
    pass_told a.write a.buffer.now a.at s _ _
    (ap Some behind ∙ sym (put-fits a.buffer.now a.at s (omega (arith, whole, c.in_ok-room.ensures.0, c.in_ok-room.ensures.1))).0)
    (sym (pass_measured a.write a.buffer.now a.at s c.if-not-write.true))

pub returns-then-not-line_fits : goal.returns-then-not-line_fits
returns-then-not-line_fits c =
    let a = c.args in
    let s : List ℕ = draw_line a.word.now a.numbers.now in
    let lacks = leb-false (length s) c.in_ok-room.room (sym c.line_fits.ensures ∙ c.if-not-line_fits.true) in
    pass_told a.write a.buffer.now a.at s _ _ (sym (put_short a.buffer.now a.at s (omega (arith, lacks, c.in_ok-room.ensures.0, c.in_ok-room.ensures.1))).0)
    (sym (pass_short a.write a.buffer.now a.at s (omega (arith, lacks, c.in_ok-room.ensures.0, c.in_ok-room.ensures.1))))

pub copy_to-behind-requires : goal.copy_to-behind-requires
copy_to-behind-requires c =
    let a = c.args in
    let fit = fits c.line_fits.result a.at (length (draw_line a.word.now a.numbers.now)) c.in_ok-room.room (length a.buffer.now) c.line_fits.ensures c.if-not-line_fits.false c.in_ok-room.ensures.0 c.in_ok-room.ensures.1 in
    omega (arith, fit, line_parts a.word.now a.numbers.now)

pub numbers_to-requires : goal.numbers_to-requires
numbers_to-requires c =
    let a = c.args in
    let fit = fits c.line_fits.result a.at (length (draw_line a.word.now a.numbers.now)) c.in_ok-room.room (length a.buffer.now) c.line_fits.ensures c.if-not-line_fits.false c.in_ok-room.ensures.0 c.in_ok-room.ensures.1 in
    omega (arith, fit, line_parts a.word.now a.numbers.now, c.copy_to-behind.ensures.0, c.copy_to-behind.auto.buffer)

pub returns : goal.returns
returns c =
    let a = c.args in
    let s : List ℕ = draw_line a.word.now a.numbers.now in
    let fit = fits c.line_fits.result a.at (length s) c.in_ok-room.room (length a.buffer.now) c.line_fits.ensures c.if-not-line_fits.false c.in_ok-room.ensures.0 c.in_ok-room.ensures.1 in
    pass_told a.write a.buffer.now a.at s _ _
    (ap Some (c.numbers_to.ensures.0 ∙ omega (arith, line_parts a.word.now a.numbers.now, c.copy_to-behind.ensures.0)) ∙ sym (put-fits a.buffer.now a.at s fit).0)
    (c.numbers_to.ensures.1
    ∙ rw (c.copy_to-behind.ensures.0, c.copy_to-behind.ensures.1) (overwrite-append a.buffer.now a.at a.word.now (draw_line [] a.numbers.now) (omega (arith, c.in_ok-room.ensures.0)))
    ∙ ap (overwrite a.buffer.now a.at) (sym (line-behind a.word.now a.numbers.now))
    ∙ sym (pass_fits a.write a.buffer.now a.at s c.if-not-write.false fit))
