-- Writing into a lent buffer at a place: all of the bytes, or none.
use Rattle.std.specs.Prelude.{ℕ, ◌+◌, Bool, true, false, List, [], ◌∷◌, ◌++◌, leb, length, take, drop, Option, Some, None}
use Rattle.text.specs.Form.{draw_form}

-- whether the bytes fit in the buffer from a place on
abbrev pub fits : List ℕ → ℕ → List ℕ → Bool
fits buffer at bytes = leb (at + length bytes) (length buffer)

-- the buffer with these bytes in place of its own from `at` on
abbrev pub overwrite : List ℕ → ℕ → List ℕ → List ℕ
overwrite buffer at bytes = take at buffer ++ bytes ++ drop (at + length bytes) buffer

unfoldable pub written : Bool → List ℕ → ℕ → List ℕ → List ℕ
written true buffer at bytes = overwrite buffer at bytes
written false buffer at bytes = buffer

-- the whole buffer after writing: where the bytes do not fit, no byte changes
unfoldable pub put_buffer : List ℕ → ℕ → List ℕ → List ℕ
put_buffer buffer at bytes = written (fits buffer at bytes) buffer at bytes

-- the whole buffer after a line of a pass that writes, or of one that only measures and changes no byte
unfoldable pub pass_buffer : Bool → List ℕ → ℕ → List ℕ → List ℕ
pass_buffer true buffer at bytes = put_buffer buffer at bytes
pass_buffer false buffer at bytes = buffer

unfoldable pub answered : Bool → ℕ → Option ℕ
answered true behind = Some behind
answered false behind = None

-- the answer: the place behind what was written, or that the buffer is too short
unfoldable pub put_answer : List ℕ → ℕ → List ℕ → Option ℕ
put_answer buffer at bytes = answered (fits buffer at bytes) (at + length bytes)

-- document 01's number for each answer
unfoldable pub put_number : Option ℕ → ℕ
put_number (Some place) = 0
put_number None = 18

-- the number that writing gives: 18 where the lent buffer is shorter than what is to be written, and 0 where that is written
unfoldable pub numbered : Bool → ℕ
numbered true = 0
numbered false = 18

unfoldable pub put_row : List ℕ → ℕ → List ℕ → ℕ
put_row buffer at bytes = numbered (fits buffer at bytes)

-- a whole line of the log: the form and its LF
unfoldable pub draw_line : List ℕ → List ℕ → List ℕ
draw_line word ns = draw_form word ns ++ (10 ∷ [])
