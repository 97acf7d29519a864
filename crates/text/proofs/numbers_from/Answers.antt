-- `text::numbers_from` meets its contract. The loop's invariant: what is read of the bytes is what is read of the rest, behind the numbers
-- that were read, of which the first four are handed out. Assumes nothing.
use Rattle.std.proofs.Common.{◌≡◌, refl, ap, ◌∙◌, [], ◌∷◌, ◌++◌, ℕ, ◌+◌, ◌-◌, length, drop, take, set, length-append, length-drop, take_all, List, true, false, nat_eq, arith}
use Rattle.std.specs.Cmp.Lexicographic.{pointwise}
use Rattle.text.specs.Form.{read_numbers}
use Rattle.text.proofs.Reading.{read_some, number_inside, closed, not_closed, no_space, no_number, number_more, in_front, in_front_more, no_form, whole_form, fourth_or_before, behind_the_fourth}
use Rattle.text.proofs.numbers_from.Goals.{then-i-lt4, else-i-lt4}
use Rattle.text.proofs.numbers_from.Goals as goal

pub loop-i-init : goal.loop-i-init
unfolding in_front
loop-i-init c =
    let a = c.args in
    let e : a.count ≡ a.count - 0 = omega arith in
    ([], refl, ap (λ (n : ℕ). read_numbers n a.s.now) e, refl)

pub returns-in_err-behind : goal.returns-in_err-behind
returns-in_err-behind c =
    let v = c.loop-i.invariant in
    c.from_residual.ensures ∙ no_form v.0 _ _ v.2 (no_space (c.args.count - c.loop-i.i) c.loop-i.rest.now (omega arith) c.in_err-behind.ensures.cases)

pub returns-in_err-value : goal.returns-in_err-value
returns-in_err-value c =
    let v = c.loop-i.invariant in
    let b = c.in_ok-behind.ensures.cases in
    c.from_residual-in_err-value.ensures
    ∙ no_form v.0 _ _ v.2
    (no_number (c.args.count - c.loop-i.i) c.loop-i.rest.now c.in_ok-behind.behind.now (omega arith) b.0 b.1 c.in_err-value.ensures)

pub slice_bounds-rest-count : goal.slice_bounds-rest-count
slice_bounds-rest-count c = number_inside c.in_ok-behind.behind.now c.in_ok-value.value c.in_ok-value.length (read_some _ _ _ c.in_ok-value.ensures)

pub slice_bounds-rest-start : goal.slice_bounds-rest-start
slice_bounds-rest-start c = number_inside c.in_ok-behind.behind.now c.in_ok-value.value c.in_ok-value.length (read_some _ _ _ c.in_ok-value.ensures)

pub loop-i-preserved : goal.loop-i-preserved
loop-i-preserved c =
    let v = c.loop-i.invariant in
    let vs : List ℕ = v.0 in
    let i = c.loop-i.i in
    let n = c.in_ok-value.value in
    let k = c.in_ok-value.length in
    let s = c.in_ok-behind.behind.now in
    let b = c.in_ok-behind.ensures.cases in
    let more = number_more (c.args.count - i) c.loop-i.rest.now s (omega arith) b.0 b.1 n k c.in_ok-value.ensures in
    let fewer : c.args.count - i - 1 ≡ c.args.count - (i + 1) = omega arith in
    let whole : take (length s - k) (drop k s) ≡ drop k s = take_all (length s - k) (drop k s) (omega (arith, length-drop k s)) in (
      vs ++ (n ∷ []),
      length-append vs (n ∷ []) ∙ ap (λ (m : ℕ). m + 1) v.1,
      v.2 ∙ ap (in_front vs) more ∙ in_front_more vs n _ ∙ rw (fewer, whole),
      elim c.if-i-lt4.branch [
        | then-i-lt4 w ↦ w.numbers-is ∙ ap (λ (j : ℕ). set c.loop-i.numbers j n) {y = length vs} (omega arith) ∙ rw v.3 (fourth_or_before vs n (omega arith))
        | else-i-lt4 w ↦ w.numbers-is ∙ v.3 ∙ behind_the_fourth vs n (omega arith)
      ],
    )

pub returns-then-eq : goal.returns-then-eq
returns-then-eq c =
    let v = c.loop-i.invariant in
    let all : c.args.count - c.loop-i.i ≡ 0 = omega arith in
    let here : pointwise nat_eq c.loop-i.rest.now (41 ∷ []) ≡ true = grind (arith, take_all, c.eq.ensures, c.as_slice.ensures, ap length c.as_slice.ensures, c.if-eq.true) in
    rw v.3 (whole_form v.0 _ _ v.2 (ap (λ (n : ℕ). read_numbers n c.loop-i.rest.now) all ∙ closed c.loop-i.rest.now here))

pub returns-else-eq : goal.returns-else-eq
returns-else-eq c =
    let v = c.loop-i.invariant in
    let all : c.args.count - c.loop-i.i ≡ 0 = omega arith in
    let other : pointwise nat_eq c.loop-i.rest.now (41 ∷ []) ≡ false = grind (arith, take_all, c.eq.ensures, c.as_slice.ensures, ap length c.as_slice.ensures, c.if-eq.false) in
    no_form v.0 _ _ v.2 (ap (λ (n : ℕ). read_numbers n c.loop-i.rest.now) all ∙ not_closed c.loop-i.rest.now other)
