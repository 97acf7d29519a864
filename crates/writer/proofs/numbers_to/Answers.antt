-- `writer::numbers_to` meets its contract. The loop's invariant: the numbers so far are written, each behind a space, and `place` is the
-- place behind them. Assumes nothing.
use Rattle.std.proofs.Common.{◌≡◌, sym, ap, ◌∙◌, List, [], ◌∷◌, ℕ, ◌+◌, ◌≤◌, length, take, get_or, length-append, length-set, add-zero, arith}
use lib.Seq.{take_all}
use Rattle.text.specs.Number.{digits}
use Rattle.writer.specs.Write.{overwrite}
use Rattle.writer.proofs.Writes.{overwrite-none, overwrite-append}
use Rattle.writer.proofs.Spaced.{spaced, spaced_take, line_spaced, line_ends, number_fits, write_number}
use Rattle.writer.proofs.numbers_to.Goals as goal

-- behind the loop all numbers are written
all : (i : ℕ) (numbers : List ℕ) → length numbers ≤ i → spaced (take i numbers) ≡ spaced numbers
all i numbers h = ap spaced (take_all i numbers h)

pub loop-number-init : goal.loop-number-init
unfolding spaced
loop-number-init c =
    let a = c.args in
    (sym (add-zero a.at), sym (overwrite-none a.buffer.now a.at))

pub bounds-buffer-place : goal.bounds-buffer-place
bounds-buffer-place c = omega (arith, number_fits c.args.numbers.now c.loop-number.number-index (omega arith), c.loop-number.invariant.0)

pub overflow_add-place : goal.overflow_add-place
overflow_add-place c = omega (arith, number_fits c.args.numbers.now c.loop-number.number-index (omega arith), c.loop-number.invariant.0)

pub digits_to-place-requires : goal.digits_to-place-requires
digits_to-place-requires c = simp length-set (omega (arith, number_fits c.args.numbers.now c.loop-number.number-index (omega arith), c.loop-number.invariant.0))

pub loop-number-preserved : goal.loop-number-preserved
loop-number-preserved c =
    let a = c.args in
    let i = c.loop-number.number-index in
    let v = c.loop-number.invariant in
    let done : List ℕ = spaced (take i a.numbers.now) in
    let n = get_or a.numbers.now i 0 in
    let more = spaced_take a.numbers.now i c.loop-number-test.true in
    let fits : a.at + length done + 1 + length (digits n) ≤ length a.buffer.now = omega (arith, number_fits a.numbers.now i (omega arith), v.0) in (
      c.digits_to-place.ensures.0 ∙ rw (more, length-append done (32 ∷ digits n)) (omega (arith, v.0)),
      c.digits_to-place.ensures.1 ∙ rw (v.0, v.1, more) (write_number a.buffer.now a.at done n fits),
    )

pub copy_to-requires : goal.copy_to-requires
copy_to-requires c = omega (arith, c.loop-number.invariant.0, ap length (all c.loop-number.number-index c.args.numbers.now c.loop-number-test.false), line_ends c.args.numbers.now)

pub returns : goal.returns
returns c =
    let a = c.args in
    let ns : List ℕ = a.numbers.now in
    let v = c.loop-number.invariant in
    let every = all c.loop-number.number-index ns c.loop-number-test.false in
    let here : c.loop-number.place ≡ a.at + length (spaced ns) = v.0 ∙ ap (λ (l : List ℕ). a.at + length l) every in (
      omega (arith, here, line_ends ns, c.copy_to.ensures.0),
      c.copy_to.ensures.1
          ∙ rw (v.1, here, every) (overwrite-append a.buffer.now a.at (spaced ns) (41 ∷ 10 ∷ []) (omega (arith, line_ends ns)))
          ∙ ap (overwrite a.buffer.now a.at) (sym (line_spaced [] ns)),
    )
