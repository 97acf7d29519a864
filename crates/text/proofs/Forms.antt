-- The law of reading and drawing forms: a line is read as a word and these numbers just where it is drawn from them. Assumes nothing.
use mathlib.Core.Path.{◌≡◌, refl, ap, ◌∙◌}
use mathlib.Core.Bool.{Bool, true, false}
use mathlib.Core.Logic.{◌↔◌}
use mathlib.Core.List.{List, [], ◌∷◌, ◌++◌}
use mathlib.Core.Option.{Option, none, some}
use Prim.Native.Nat.{ℕ, zero, suc, ◌+◌, ◌*◌, ◌≤◌}
use native.Mathlib.Omega.{arith}
use borrow.Author.Tests.{eqb-true}
use lib.Dec.{eqb}
use lib.ListN.{length, drop, length-append}
use lib.Seq.{drop-append_seam}
use Rattle.text.specs.Number.{digits, digit_run, keep_digit, read_number}
use Rattle.text.specs.Word.{starts_with, is_word}
use Rattle.text.specs.Form.{draw_numbers, draw_form, Small, and_then, read_spaced, read_close, read_numbers, read_behind, read_form}
use Rattle.text.proofs.Words.{starts_append, starts_split, is_word_same, is_word_lem}
use Rattle.text.proofs.Digits.{digits-length}
use Rattle.text.proofs.Numbers.{Written, read-written, written_read}

-- behind a number there is a space or the bracket
no_digit_behind : (ns : List ℕ) → digit_run (draw_numbers ns) ≡ []
unfolding draw_numbers digit_run keep_digit
no_digit_behind [] = refl
no_digit_behind (n ∷ ns) = refl

read_drawn_numbers : (ns : List ℕ) → Small ns → read_numbers (length ns) (draw_numbers ns) ≡ some ns
unfolding read_numbers read_spaced read_close draw_numbers and_then
read_drawn_numbers [] small = rw (is_word_same (41 ∷ []))
read_drawn_numbers (n ∷ ns) small =
    rw (read-written n (draw_numbers ns) small.0 (no_digit_behind ns), drop-append_seam (digits n) (draw_numbers ns), read_drawn_numbers ns small.1)

-- the numbers that were read: as many, small, and the text is drawn from them
pub record Drawn (s : List ℕ) (count : ℕ) (ns : List ℕ) : Type 0 where
  pub drawn : s ≡ draw_numbers ns
  pub counted : length ns ≡ count
  pub small : Small ns

drawn_close : (s ns : List ℕ) (t : Bool) → is_word (41 ∷ []) s ≡ t → read_close t ≡ some ns → Drawn s 0 ns
unfolding read_close draw_numbers
drawn_close s ns true w e =
    let p : ns ≡ [] = cc in
    rw p (record { drawn = is_word_lem (41 ∷ []) s w; counted = refl; small = tt })
drawn_close s ns false w e = let z : ◌≡◌ {A = ℕ} 0 1 = cc in absurd (omega arith)

drawn_front : (n : ℕ) (s : List ℕ) (count : ℕ) (o : Option (List ℕ)) (k : ℕ) (ns : List ℕ) → Written s n k
    → ((ms : List ℕ) → o ≡ some ms → Drawn (drop k s) count ms) → and_then n o ≡ some ns → Drawn (32 ∷ s) (suc count) ns
unfolding and_then draw_numbers
drawn_front n s count none k ns w ih e = let z : ◌≡◌ {A = ℕ} 0 1 = cc in absurd (omega arith)
drawn_front n s count (some ms) k ns w ih e =
    let d = ih ms refl in
    let p : ns ≡ n ∷ ms = cc in
    rw p (record { drawn = ap (λ (x : List ℕ). 32 ∷ x) (w.drawn ∙ ap (λ (x : List ℕ). digits n ++ x) d.drawn); counted = ap suc d.counted; small = (w.small, d.small) })

drawn_spaced : (b : ℕ) (s : List ℕ) (count : ℕ) (t : Bool) (o : Option (ℕ × ℕ)) (behind : ℕ → Option (List ℕ)) (ns : List ℕ) → eqb b 32 ≡ t → read_number s ≡ o
    → ((k : ℕ) (ms : List ℕ) → behind k ≡ some ms → Drawn (drop k s) count ms) → read_spaced t o behind ≡ some ns → Drawn (b ∷ s) (suc count) ns
unfolding read_spaced
drawn_spaced b s count false o behind ns q r ih e = let z : ◌≡◌ {A = ℕ} 0 1 = cc in absurd (omega arith)
drawn_spaced b s count true none behind ns q r ih e = let z : ◌≡◌ {A = ℕ} 0 1 = cc in absurd (omega arith)
drawn_spaced b s count true (some v) behind ns q r ih e =
    rw (eqb-true b 32 q) (drawn_front v.0 s count (behind v.1) v.1 ns (written_read s v.0 v.1 r) (ih v.1) e)

drawn_numbers : (count : ℕ) (s ns : List ℕ) → read_numbers count s ≡ some ns → Drawn s count ns
unfolding read_numbers
drawn_numbers zero s ns e = drawn_close s ns (is_word (41 ∷ []) s) refl e
drawn_numbers (suc count) [] ns e = let z : ◌≡◌ {A = ℕ} 0 1 = cc in absurd (omega arith)
drawn_numbers (suc count) (b ∷ s) ns e =
    drawn_spaced b s count (eqb b 32) (read_number s) (λ k. read_numbers count (drop k s)) ns refl refl (λ k ms h. drawn_numbers count (drop k s) ms h) e

-- a line that is drawn is read
pub read_drawn : (word ns : List ℕ) → Small ns → read_form word (length ns) (draw_form word ns) ≡ some ns
unfolding read_form read_behind draw_form
read_drawn word ns small =
    rw (starts_append word (draw_numbers ns), drop-append_seam word (draw_numbers ns)) (read_drawn_numbers ns small)

-- a line that is read is drawn
pub drawn_read : (word : List ℕ) (count : ℕ) (line ns : List ℕ) → read_form word count line ≡ some ns
    → (line ≡ draw_form word ns) × (length ns ≡ count) × Small ns
unfolding read_form read_behind draw_form
drawn_read word count line ns e = go (starts_with word line) refl e
  where
    go : (t : Bool) → starts_with word line ≡ t → read_behind t count (drop (length word) line) ≡ some ns
        → (line ≡ word ++ draw_numbers ns) × (length ns ≡ count) × Small ns
    go false q h = let z : ◌≡◌ {A = ℕ} 0 1 = cc in absurd (omega arith)
    go true q h =
        let d = drawn_numbers count (drop (length word) line) ns h in
        (starts_split word line q ∙ ap (λ (x : List ℕ). word ++ x) d.drawn, d.counted, d.small)

-- the law in both directions
pub form_law : (word : List ℕ) (count : ℕ) (line ns : List ℕ)
    → (read_form word count line ≡ some ns) ↔ ((line ≡ draw_form word ns) × (length ns ≡ count) × Small ns)
form_law word count line ns = (drawn_read word count line ns, λ d. rw (d.0, ← d.1) (read_drawn word ns d.2))

-- how long a drawn form is: no form of at most 4 numbers and a word of at most 11 bytes is longer than 80 bytes
drawn_numbers_length : (ns : List ℕ) → Small ns → length (draw_numbers ns) ≤ 17 * length ns + 1
unfolding draw_numbers
drawn_numbers_length [] small = omega arith
drawn_numbers_length (n ∷ ns) small =
    rw (length-append (digits n) (draw_numbers ns)) (omega (arith, digits-length 15 n small.0, drawn_numbers_length ns small.1))

pub drawn_length : (word ns : List ℕ) → Small ns → length (draw_form word ns) ≤ length word + 17 * length ns + 1
unfolding draw_form
drawn_length word ns small = rw (length-append word (draw_numbers ns)) (omega (arith, drawn_numbers_length ns small))
