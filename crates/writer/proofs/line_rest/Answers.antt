-- `writer::line_rest` meets its contract. The loop's invariant: the line and what is left of the room are the room and what is left of the
-- numbers, with the bracket and LF. Assumes nothing.
use Rattle.std.proofs.Common.{◌≡◌, ◌∙◌, List, ℕ, ◌+◌, ◌≤◌, length, drop, get_or, arith}
use lib.ListN.{drop_of_length-le}
use Rattle.text.specs.Form.{draw_numbers}
use Rattle.text.proofs.Digits.{digits-length}
use Rattle.writer.specs.Write.{draw_line}
use Rattle.writer.proofs.Spaced.{line-length, left_more}
use Rattle.writer.proofs.Writes.{rest_of, rest_short}
use Rattle.writer.proofs.line_rest.Goals as goal

-- behind the last number the bracket and LF are left
all_counted : (numbers : List ℕ) (i : ℕ) → length numbers ≤ i → length (draw_numbers (drop i numbers)) + 1 ≡ 2
unfolding draw_numbers
all_counted numbers i h = rw (drop_of_length-le numbers {i = i} h)

pub returns-in_err-left : goal.returns-in_err-left
returns-in_err-left c =
    let a = c.args in
    let h : (length a.word.now ≤ a.room → ⊥) = c.in_err-left.ensures in
    c.from_residual.ensures ∙ rest_short (length (draw_line a.word.now a.numbers.now)) a.room (omega (arith, h, line-length a.word.now a.numbers.now))

pub loop-number-init : goal.loop-number-init
loop-number-init c =
    let a = c.args in
    omega (arith, line-length a.word.now a.numbers.now, c.in_ok-left.ensures.0, c.in_ok-left.ensures.1)

pub overflow_add-number_length : goal.overflow_add-number_length
overflow_add-number_length c =
    let i = c.loop-number.number-index in
    omega (arith, digits-length 19 (get_or c.args.numbers.now i 0) (omega (arith, (c.type_inv.numbers i).fits)), c.number_length.ensures)

pub returns-in_err-left-2 : goal.returns-in_err-left-2
returns-in_err-left-2 c =
    let a = c.args in
    let h : (c.number_length.result + 1 ≤ c.loop-number.left → ⊥) = c.in_err-left-2.ensures in
    c.from_residual-in_err-left-2.ensures
    ∙ rest_short (length (draw_line a.word.now a.numbers.now)) a.room
    (omega (arith, h, c.loop-number.invariant, left_more a.numbers.now c.loop-number.number-index (omega arith), c.number_length.ensures))

pub loop-number-preserved : goal.loop-number-preserved
loop-number-preserved c =
    let i = c.loop-number.number-index in
    omega (arith, c.loop-number.invariant, left_more c.args.numbers.now i (omega arith), c.number_length.ensures, c.in_ok-left-2.ensures.0, c.in_ok-left-2.ensures.1)

pub returns : goal.returns
returns c =
    let a = c.args in
    rest_of (length (draw_line a.word.now a.numbers.now)) a.room _ c.loop-number.left _ c.checked_sub-2.ensures
    (omega (arith, c.loop-number.invariant, all_counted a.numbers.now c.loop-number.number-index c.loop-number-test.false))
