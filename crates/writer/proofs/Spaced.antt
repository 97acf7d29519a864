-- A line as it is written piece by piece: the word, each number behind a space, the bracket and LF; and how long the pieces are.
-- Assumes nothing.
use mathlib.Core.Path.{◌≡◌, refl, sym, ap, ◌∙◌}
use mathlib.Core.List.{List, [], ◌∷◌, ◌++◌, append_assoc, append-nil}
use Prim.Native.Nat.{ℕ, suc, ◌+◌, ◌*◌, ◌≤◌, ◌<◌}
use native.Mathlib.Numerals.{add-one}
use native.Mathlib.Omega.{arith}
use lib.ListN.{length, take, drop, set, get_or, length-append, take-append-drop}
use lib.Seq.{drop-cons, take-suc, append_snoc}
use Rattle.text.specs.Number.{digits}
use Rattle.text.specs.Form.{draw_numbers, draw_form}
use Rattle.text.proofs.Digits.{digits-length}
use Rattle.writer.specs.Write.{overwrite, draw_line}
use Rattle.writer.proofs.Writes.{overwrite-append, overwrite_snoc}

-- the numbers without the closing bracket
unfoldable pub spaced : List ℕ → List ℕ
spaced [] = []
spaced (n ∷ ns) = 32 ∷ digits n ++ spaced ns

pub spaced_closed : (ns : List ℕ) → draw_numbers ns ≡ spaced ns ++ (41 ∷ [])
unfolding spaced draw_numbers
spaced_closed [] = refl
spaced_closed (n ∷ ns) = rw (spaced_closed ns, append_assoc (digits n) (spaced ns) (41 ∷ []))

spaced_append : (a b : List ℕ) → spaced (a ++ b) ≡ spaced a ++ spaced b
unfolding spaced
spaced_append [] b = refl
spaced_append (n ∷ a) b = rw (spaced_append a b, append_assoc (digits n) (spaced a) (spaced b))

spaced_one : (n : ℕ) → spaced (n ∷ []) ≡ 32 ∷ digits n
unfolding spaced
spaced_one n = ap (λ (l : List ℕ). 32 ∷ l) (append-nil (digits n))

-- the numbers up to some are not longer than all
pub spaced_some : (ns : List ℕ) (i : ℕ) → length (spaced (take i ns)) ≤ length (spaced ns)
spaced_some ns i =
    let e : spaced ns ≡ spaced (take i ns) ++ spaced (drop i ns) = ap spaced (sym (take-append-drop i ns)) ∙ spaced_append (take i ns) (drop i ns) in
    rw (e, length-append (spaced (take i ns)) (spaced (drop i ns))) (omega arith)

-- one number more
pub spaced_take : (ns : List ℕ) (i : ℕ) → i < length ns → spaced (take (i + 1) ns) ≡ spaced (take i ns) ++ (32 ∷ digits (get_or ns i 0))
spaced_take ns i h = rw (add-one i, take-suc ns i 0 h) (spaced_append (take i ns) (get_or ns i 0 ∷ []) ∙ rw (spaced_one (get_or ns i 0)))

-- the whole line
pub line_spaced : (word ns : List ℕ) → draw_line word ns ≡ word ++ (spaced ns ++ (41 ∷ 10 ∷ []))
unfolding draw_line draw_form
line_spaced word ns =
    rw (spaced_closed ns, append_assoc word (spaced ns ++ (41 ∷ [])) (10 ∷ []), append_assoc (spaced ns) (41 ∷ []) (10 ∷ []))

pub line-behind : (word ns : List ℕ) → draw_line word ns ≡ word ++ draw_line [] ns
unfolding draw_line draw_form
line-behind word ns = append_assoc word (draw_numbers ns) (10 ∷ [])

pub line-length : (word ns : List ℕ) → length (draw_line word ns) ≡ length word + (length (draw_numbers ns) + 1)
unfolding draw_line draw_form
line-length word ns = rw (length-append (word ++ draw_numbers ns) (10 ∷ []), length-append word (draw_numbers ns)) (omega arith)

pub line_ends : (ns : List ℕ) → length (draw_line [] ns) ≡ length (spaced ns) + 2
line_ends ns = ap length (line_spaced [] ns) ∙ length-append (spaced ns) (41 ∷ 10 ∷ [])

-- no number has more than 20 digits, so a line has at most 21 bytes a number besides its word, its bracket and LF
numbers_most : (ns : List ℕ) → ((i : ℕ) → get_or ns i 0 < 18446744073709551616) → length (draw_numbers ns) ≤ 21 * length ns + 1
unfolding draw_numbers
numbers_most [] small = omega arith
numbers_most (n ∷ ns) small =
    let one : n < 18446744073709551616 = small 0 in
    let others : length (draw_numbers ns) ≤ 21 * length ns + 1 = numbers_most ns (λ i. small (suc i)) in
    let twenty : length (digits n) ≤ 20 = digits-length 19 n (omega arith) in
    rw (length-append (digits n) (draw_numbers ns)) (omega arith)

pub line_most : (word ns : List ℕ) → ((i : ℕ) → get_or ns i 0 < 18446744073709551616) → length (draw_line word ns) ≤ length word + (21 * length ns + 2)
line_most word ns small = omega (arith, line-length word ns, numbers_most ns small)

-- the numbers before some, and that one, fit in the line
pub number_fits : (ns : List ℕ) (i : ℕ) → i < length ns → length (spaced (take i ns)) + 1 + length (digits (get_or ns i 0)) + 2 ≤ length (draw_line [] ns)
number_fits ns i h =
    let e = ap length (spaced_take ns i h) ∙ length-append (spaced (take i ns)) (32 ∷ digits (get_or ns i 0)) in
    omega (arith, spaced_some ns (i + 1), line_ends ns)

-- the length of what is left of the numbers, one number at a time
pub left_more : (ns : List ℕ) (i : ℕ) → i < length ns
    → length (draw_numbers (drop i ns)) ≡ length (digits (get_or ns i 0)) + 1 + length (draw_numbers (drop (i + 1) ns))
unfolding draw_numbers
left_more ns i h =
    rw (add-one i, drop-cons ns i 0 h, length-append (digits (get_or ns i 0)) (draw_numbers (drop (suc i) ns))) (omega arith)

-- a space and a number written behind what was written
module _ (d : List ℕ) (at : ℕ) (s : List ℕ) where
  pub write_number : (n : ℕ) → at + length s + 1 + length (digits n) ≤ length d
      → overwrite (set (overwrite d at s) (at + length s) 32) (at + length s + 1) (digits n) ≡ overwrite d at (s ++ (32 ∷ digits n))
  write_number n h =
      let l : at + length s + 1 ≡ at + length (s ++ (32 ∷ [])) = rw (length-append s (32 ∷ [])) (omega arith) in
      rw (overwrite_snoc d at s 32 (omega arith), l)
      (overwrite-append d at (s ++ (32 ∷ [])) (digits n) (omega arith) ∙ rw (append_snoc s 32 (digits n)))
