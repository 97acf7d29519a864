-- The words of the header's lines, as fixed byte strings.
use Rattle.std.specs.Prelude.{ℕ, List, [], ◌∷◌}

-- `(frame`, `(overhead`, `(interrupt` and `(framing`, each before its number, and `(strict`, which has none
abbrev pub frame_word : List ℕ
frame_word = 40 ∷ 102 ∷ 114 ∷ 97 ∷ 109 ∷ 101 ∷ []

abbrev pub overhead_word : List ℕ
overhead_word = 40 ∷ 111 ∷ 118 ∷ 101 ∷ 114 ∷ 104 ∷ 101 ∷ 97 ∷ 100 ∷ []

abbrev pub interrupt_word : List ℕ
interrupt_word = 40 ∷ 105 ∷ 110 ∷ 116 ∷ 101 ∷ 114 ∷ 114 ∷ 117 ∷ 112 ∷ 116 ∷ []

abbrev pub framing_word : List ℕ
framing_word = 40 ∷ 102 ∷ 114 ∷ 97 ∷ 109 ∷ 105 ∷ 110 ∷ 103 ∷ []

abbrev pub strict_word : List ℕ
strict_word = 40 ∷ 115 ∷ 116 ∷ 114 ∷ 105 ∷ 99 ∷ 116 ∷ []
