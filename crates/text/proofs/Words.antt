-- What the comparisons with a word say: a text that begins with the word is the word and then a rest, and a text that is the word is equal
-- to it. Assumes nothing.
use mathlib.Core.Path.{◌≡◌, refl}
use mathlib.Core.Bool.{Bool, true, false, ◌&&◌, false≢true}
use mathlib.Core.List.{List, [], ◌∷◌, ◌++◌}
use Prim.Native.Nat.{ℕ, ◌-◌, ◌≤◌, zero-le, suc-le-suc, min}
use borrow.Author.Tests.{eq-eqb, eqb-true}
use lib.Dec.{eqb}
use lib.ListN.{length, drop, take}
use Rattle.std.proofs.Common.{nat_eq}
use Rattle.std.specs.Cmp.Lexicographic.{pointwise}
use Rattle.text.specs.Part.{part}
use Rattle.text.specs.Word.{starts_with, is_word}
use Rattle.text.proofs.Parts.{part_length}

-- both halves of a conjunction that holds
pub both : (a b : Bool) → (a && b) ≡ true → (a ≡ true) × (b ≡ true)
both true b h = (refl, h)
both false b h = (h, cc)

pub starts_append : (word rest : List ℕ) → starts_with word (word ++ rest) ≡ true
unfolding starts_with
starts_append [] rest = refl
starts_append (w ∷ word) rest = rw (eq-eqb w w refl, starts_append word rest)

pub starts_split : (word s : List ℕ) → starts_with word s ≡ true → s ≡ word ++ drop (length word) s
unfolding starts_with
starts_split [] s h = refl
starts_split (w ∷ word) [] h = absurd (false≢true h)
starts_split (w ∷ word) (b ∷ s) h =
    let p = both (eqb b w) (starts_with word s) h in
    let e : b ≡ w = eqb-true b w p.0 in
    let q : s ≡ word ++ drop (length word) s = starts_split word s p.1 in
    cc

-- a text that begins with the word is at least as long
pub starts_length : (word s : List ℕ) → starts_with word s ≡ true → length word ≤ length s
unfolding starts_with
starts_length [] s h = zero-le
starts_length (w ∷ word) [] h = absurd (false≢true h)
starts_length (w ∷ word) (b ∷ s) h = suc-le-suc (starts_length word s (both (eqb b w) (starts_with word s) h).1)

-- a word that stands at a place of a text ends before `end` and the text's end
pub starts_room : (text word : List ℕ) (at end : ℕ) → starts_with word (part text at end) ≡ true → length word ≤ min end (length text) - at
starts_room text word at end begins = rw (part_length text at end) at (starts_length word (part text at end) begins)

pub is_word_same : (word : List ℕ) → is_word word word ≡ true
unfolding is_word
is_word_same [] = refl
is_word_same (w ∷ word) = rw (eq-eqb w w refl, is_word_same word)

pub is_word_lem : (word s : List ℕ) → is_word word s ≡ true → s ≡ word
unfolding is_word
is_word_lem [] [] h = refl
is_word_lem [] (b ∷ s) h = absurd (false≢true h)
is_word_lem (w ∷ word) [] h = absurd (false≢true h)
is_word_lem (w ∷ word) (b ∷ s) h =
    let p = both (eqb b w) (is_word word s) h in
    let e : b ≡ w = eqb-true b w p.0 in
    let q : s ≡ word = is_word_lem word s p.1 in
    cc

-- the comparison of code with the front of a text, and with a whole text
pub starts_pointwise : (word s : List ℕ) → pointwise nat_eq (take (length word) s) word ≡ starts_with word s
unfolding starts_with
starts_pointwise [] s = refl
starts_pointwise (w ∷ word) [] = refl
starts_pointwise (w ∷ word) (b ∷ s) = rw (starts_pointwise word s)

pub is_pointwise : (word s : List ℕ) → pointwise nat_eq s word ≡ is_word word s
unfolding is_word
is_pointwise [] [] = refl
is_pointwise [] (b ∷ s) = refl
is_pointwise (w ∷ word) [] = refl
is_pointwise (w ∷ word) (b ∷ s) = rw (is_pointwise word s)
