-- Form words are fixed byte strings, compared byte by byte.
use Rattle.std.specs.Prelude.{ℕ, Bool, true, false, ◌&&◌, List, [], ◌∷◌, eqb}

-- whether s begins with the word
unfoldable pub starts_with : List ℕ → List ℕ → Bool
starts_with [] s = true
starts_with (w ∷ word) [] = false
starts_with (w ∷ word) (b ∷ s) = eqb b w && starts_with word s

-- whether s is the word, no byte more
unfoldable pub is_word : List ℕ → List ℕ → Bool
is_word [] [] = true
is_word [] (b ∷ s) = false
is_word (w ∷ word) [] = false
is_word (w ∷ word) (b ∷ s) = eqb b w && is_word word s
