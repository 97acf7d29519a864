-- Which lines of the log are refusals: the bytes of `(refused l n)` tell l and n, and no grant, no rest and no plan's line has them.
use Prim.Native.Nat.{ℕ}
use mathlib.Core.Path.{◌≡◌, refl, sym, ap, subst, ◌∙◌}
use mathlib.Core.Bool.{true, false}
use mathlib.Core.List.{List, [], ◌∷◌, ◌++◌, tail, append_assoc}
use native.Mathlib.Omega.{arith}
use lib.ListN.{get_or, drop}
use Rattle.text.specs.Number.{digits, is_digit, value_from}
use Rattle.text.specs.Form.{draw_numbers, draw_form}
use Rattle.text.proofs.Digits.{AllDigits, digits_all, value_digits}
use Rattle.writer.specs.Write.{draw_line}
use Rattle.rules.proofs.Laws.Passes.{true-false}
use Rattle.log_lines.specs.FirstLine.{nodes_head, nodes_line, refused_line}
use Rattle.log_lines.specs.Lines.{grant_line, rest_line}

-- digits up to a byte that is none
same_run : (b : ℕ) → is_digit b ≡ false → (ds es : List ℕ) → AllDigits ds → AllDigits es → (xs ys : List ℕ)
    → ds ++ b ∷ xs ≡ es ++ b ∷ ys → (ds ≡ es) × (xs ≡ ys)
same_run b other [] [] all too xs ys e = (refl, ap tail e)
same_run b other [] (d ∷ es) all too xs ys e =
    let same : d ≡ b = ap (λ (l : List ℕ). get_or l 0 0) (sym e) in
    absurd (true-false (subst (λ (x : ℕ). is_digit x ≡ true) same too.0) other)
same_run b other (d ∷ ds) [] all too xs ys e =
    let same : d ≡ b = ap (λ (l : List ℕ). get_or l 0 0) e in
    absurd (true-false (subst (λ (x : ℕ). is_digit x ≡ true) same all.0) other)
same_run b other (d ∷ ds) (c ∷ es) all too xs ys e =
    let same : d ≡ c = ap (λ (l : List ℕ). get_or l 0 0) e in
    let more = same_run b other ds es all.1 too.1 xs ys (ap tail e) in
    (rw (same, more.0), more.1)

-- a number up to a byte that is no digit
same_number : (b : ℕ) → is_digit b ≡ false → (m n : ℕ) (xs ys : List ℕ) → digits m ++ b ∷ xs ≡ digits n ++ b ∷ ys → (m ≡ n) × (xs ≡ ys)
same_number b other m n xs ys e =
    let r = same_run b other (digits m) (digits n) (digits_all m) (digits_all n) xs ys e in
    (sym (value_digits m) ∙ ap (value_from 0) r.0 ∙ value_digits n, r.1)

-- behind `(refused `
behind : (l n : ℕ) → drop 9 (refused_line l n) ≡ digits l ++ 32 ∷ (digits n ++ 41 ∷ 10 ∷ [])
unfolding refused_line draw_line draw_form draw_numbers
behind l n =
    append_assoc (digits l) (32 ∷ (digits n ++ 41 ∷ [])) (10 ∷ [])
    ∙ ap (λ (x : List ℕ). digits l ++ 32 ∷ x) (append_assoc (digits n) (41 ∷ []) (10 ∷ []))

pub same-refusal : (l m k n : ℕ) → refused_line l m ≡ refused_line k n → (l ≡ k) × (m ≡ n)
same-refusal l m k n e =
    let first = same_number 32 refl l k _ _ (sym (behind l m) ∙ ap (drop 9) e ∙ behind k n) in
    (first.0, (same_number 41 refl m n _ _ first.1).0)

-- other words
pub grant_no_refusal : (s k class end moves wait l n : ℕ) → grant_line s k class end moves wait ≡ refused_line l n → ⊥
unfolding grant_line refused_line draw_line draw_form
grant_no_refusal s k class end moves wait l n e = let z : ◌≡◌ {A = ℕ} 103 114 = ap (λ (x : List ℕ). get_or x 1 0) e in omega arith

pub rest_no_refusal : (s moves l n : ℕ) → rest_line s moves ≡ refused_line l n → ⊥
unfolding rest_line refused_line draw_line draw_form
rest_no_refusal s moves l n e = let z : ◌≡◌ {A = ℕ} 115 102 = ap (λ (x : List ℕ). get_or x 3 0) e in omega arith

pub nodes_no_refusal : (nodes hubs l n : ℕ) → nodes_line nodes hubs ≡ refused_line l n → ⊥
unfolding nodes_line nodes_head refused_line draw_line draw_form
nodes_no_refusal nodes hubs l n e = let z : ◌≡◌ {A = ℕ} 110 114 = ap (λ (x : List ℕ). get_or x 1 0) e in omega arith
