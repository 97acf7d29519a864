-- The run of digits at the front of a text: the bytes before the first that is no digit. Assumes nothing.
use mathlib.Core.Path.{◌≡◌, refl, ◌∙◌, ap}
use mathlib.Core.Bool.{true, false, cond}
use mathlib.Core.List.{List, [], ◌∷◌}
use Prim.Native.Nat.{ℕ, ◌≤◌}
use borrow.Author.Tests.{leb-true, le-leb}
use lib.Dec.{leb}
use lib.ListN.{length, take}
use Rattle.std.specs.List.{take_while}
use Rattle.std.proofs.lemmas.List.Folds.{length-prefix_len}
use Rattle.std.proofs.lemmas.List.Sums.{take_while-cons}
use Rattle.text.specs.Number.{is_digit, keep_digit, digit_run}
use Rattle.text.proofs.Words.{both}

-- a digit is 48 to 57
pub digit_range : (b : ℕ) → is_digit b ≡ true → (48 ≤ b) × (b ≤ 57)
digit_range b h =
    let p = both (leb 48 b) (leb b 57) h in
    (leb-true 48 b p.0, leb-true b 57 p.1)

pub range_digit : (b : ℕ) → 48 ≤ b → b ≤ 57 → is_digit b ≡ true
range_digit b low high = simp (le-leb 48 b low, le-leb b 57 high)

run_while : (s : List ℕ) → take_while is_digit s ≡ digit_run s
unfolding digit_run
run_while [] = refl
run_while (b ∷ s) = take_while-cons is_digit b s ∙ rw (run_while s) (kept (is_digit b))
  where
    kept : (t : _) → cond t (b ∷ digit_run s) [] ≡ keep_digit t b (digit_run s)
    kept true = unfold keep_digit in refl
    kept false = unfold keep_digit in refl

-- as many bytes as pass the test
pub taken_run : (s : List ℕ) (n : ℕ) → n ≡ length (take_while is_digit s) → take n s ≡ digit_run s
taken_run s n h = ap (λ k. take k s) (h ∙ length-prefix_len is_digit s) ∙ run_while s
