-- The definitions computed: a text of three lines, an empty one among them and the last without its LF, and a text whose last LF is there.
use mathlib.Core.Path.{◌≡◌, refl}
use mathlib.Core.Bool.{true, false}
use mathlib.Core.List.{[], ◌∷◌}
use Rattle.text.specs.Line.{lines, before, hand_out, next_line}
use Rattle.reader.specs.LineReader.{found}
use Rattle.reader.specs.HandsOut.{hands_out}

three-lines : hands_out 5 (97 ∷ 10 ∷ 10 ∷ 98 ∷ []) 0 1
    ≡ record { bytes = 97 ∷ []; number = 1; ended = true } ∷ record { bytes = []; number = 2; ended = true } ∷ record { bytes = 98 ∷ []; number = 3; ended = false } ∷ []
unfolding hands_out found next_line hand_out lines before
three-lines = refl

last_ended : hands_out 3 (97 ∷ 10 ∷ []) 0 1 ≡ record { bytes = 97 ∷ []; number = 1; ended = true } ∷ []
unfolding hands_out found next_line hand_out lines before
last_ended = refl
