-- `text::number_at` meets its contract, whatever number of bytes it looks at, if that is more than 16. The loop's invariant: the value is
-- that of the digits so far. Assumes nothing.
use Rattle.std.proofs.Common.{◌≡◌, refl, sym, ap, ◌∙◌, inl, inr, Some, take_all, ℕ, ◌+◌, length, arith}
use borrow.Author.Tests.{eqb-true, eqb-false}
use Rattle.text.specs.Number.{value_from}
use Rattle.text.proofs.Answer.{empty_run, zero_front, number_run, front_digit, front_fits, whole_run, long_front}
use Rattle.text.proofs.Digits.{value_more}
use Rattle.text.proofs.number_at.Goals as goal

pub returns-then-is_empty : goal.returns-then-is_empty
returns-then-is_empty c =
    let ds = c.digit_run-digits.result.now in
    elim c.then-is_empty.either [
      | inl e ↦
          let none : length ds ≡ 0 = eqb-true (length ds) 0 (sym c.is_empty.ensures ∙ e) in
          empty_run c.args.s.now ds (whole_run c.args.s.now ds c.min.result _ c.min.ensures c.digit_run-digits.ensures (omega arith)) none
      | inr p ↦ long_front c.args.s.now ds c.min.result _ c.min.ensures c.digit_run-digits.ensures (omega (arith, p.1))
    ]

pub returns-then-digits-gt1 : goal.returns-then-digits-gt1
returns-then-digits-gt1 c = zero_front c.args.s.now _ c.min.result _ c.min.ensures c.digit_run-digits.ensures (omega arith) (omega arith)

pub loop-digit-init : goal.loop-digit-init
unfolding value_from
loop-digit-init c = refl

pub overflow_mul-value : goal.overflow_mul-value
overflow_mul-value c =
    let ds = c.digit_run-digits.result.now in
    let i = c.loop-digit.digit-index in
    omega (arith, value_more ds i (omega arith), front_fits c.args.s.now ds c.min.result _ c.min.ensures c.digit_run-digits.ensures (omega arith) (i + 1) (omega arith))

pub overflow_sub-digit : goal.overflow_sub-digit
overflow_sub-digit c = (front_digit c.args.s.now _ c.min.result _ c.min.ensures c.digit_run-digits.ensures c.loop-digit.digit-index (omega arith)).0

pub overflow_add-value : goal.overflow_add-value
overflow_add-value c =
    let ds = c.digit_run-digits.result.now in
    let i = c.loop-digit.digit-index in
    omega (arith, value_more ds i (omega arith), front_fits c.args.s.now ds c.min.result _ c.min.ensures c.digit_run-digits.ensures (omega arith) (i + 1) (omega arith))

pub loop-digit-preserved : goal.loop-digit-preserved
loop-digit-preserved c =
    let ds = c.digit_run-digits.result.now in
    rw (c.loop-digit.invariant, c.from.ensures) (value_more ds c.loop-digit.digit-index (omega arith))

pub returns : goal.returns
returns c =
    let ds = c.digit_run-digits.result.now in
    let n = eqb-false (length ds) 0 (sym c.is_empty.ensures ∙ c.if-is_empty.false) in
    ap (λ (v : ℕ). Some (v, length ds)) (c.loop-digit.invariant ∙ ap (value_from 0) (take_all c.loop-digit.digit-index ds (omega arith)))
    ∙ number_run c.args.s.now ds (whole_run c.args.s.now ds c.min.result _ c.min.ensures c.digit_run-digits.ensures (omega arith)) (omega arith) (omega arith) (λ h z. omega arith)
