-- `text::line_length` meets its contract: behind the blocks without LF, the first byte that is one. Assumes nothing.
use Rattle.std.proofs.Common.{◌≡◌, refl, ◌∙◌, rules, ℕ, List, Some, None, eqb, false, ◌-◌, length, take, drop, take_all, length-drop, zero-le, arith}
use borrow.Author.Tests.{tests}
use Rattle.std.proofs.lemmas.Iterator.{YieldsList-from_slice, IsFirst-from_position}
use Rattle.text.proofs.Plain.{no_lf_on, no_lf_all, lf_there}
use Rattle.text.proofs.line_length.Goals as goal

-- what is left behind a place
left : (s : List ℕ) (n : ℕ) → take (length s - n) (drop n s) ≡ drop n s
left s n = take_all (length s - n) (drop n s) (omega (arith, length-drop n s))

pub returns-in_err-more : goal.returns-in_err-more
returns-in_err-more c =
    let s = c.args.s.now in
    let p = c.plain_front-plain in
    let none = IsFirst-from_position _ _ None (λ x. x ≡ 10) (λ x. eqb x 10 ≡ false) c.in_err-more.ensures.ran
    (YieldsList-from_slice (drop p.result s) (c.iter.ensures.rest ∙ left s p.result)) (λ x q k. search (rules, tests)) (λ x q k. search (rules, tests)) in
    rw c.from_residual.ensures (no_lf_all s _ p.result refl p.ensures.0 p.ensures.1 (λ k h. none k 0 zero-le h))

pub returns : goal.returns
returns c =
    let s = c.args.s.now in
    let p = c.plain_front-plain in
    let m = c.in_ok-more.more in
    let first = IsFirst-from_position _ _ (Some m) (λ x. x ≡ 10) (λ x. eqb x 10 ≡ false) c.in_ok-more.ensures.ran
    (YieldsList-from_slice (drop p.result s) (c.iter.ensures.rest ∙ left s p.result)) (λ x q k. search (rules, tests)) (λ x q k. search (rules, tests)) in
    let there = lf_there s _ p.result refl p.ensures.0 p.ensures.1 m first.0 (first.1 0) in
    (there.0, there.1, no_lf_on s _ p.result refl p.ensures.0 p.ensures.1 m (λ k h. first.2 k 0 zero-le h))
