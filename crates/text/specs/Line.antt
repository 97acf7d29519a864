-- A text as its lines, and what the scanner answers at a cursor.
use Rattle.std.specs.Prelude.{ℕ, ◌+◌, min, Bool, true, false, not, ◌&&◌, List, [], ◌∷◌, ◌++◌, eqb, length, drop}
use Rattle.text.specs.declared.Cursor.{Cursor}
use Rattle.text.specs.declared.Next.{Next}
use Rattle.text.specs.declared.Next.TheVariants.{Line, Unended, Done}

-- The lines of a text. Bytes behind the last LF are a line whose LF is missing; it has at least one byte.
pub data Lines : Type 0 where
  nothing : Lines
  unended : List ℕ → Lines
  ended : List ℕ → Lines → Lines

-- byte b put in front of the lines; LF, byte 10, ends an empty line there
unfoldable pub before : Bool → ℕ → Lines → Lines
before true b ls = ended [] ls
before false b nothing = unended (b ∷ [])
before false b (unended l) = unended (b ∷ l)
before false b (ended l rest) = ended (b ∷ l) rest

unfoldable pub lines : List ℕ → Lines
lines [] = nothing
lines (b ∷ text) = before (eqb b 10) b (lines text)

-- the other way: the text that has these lines
unfoldable pub draw_lines : Lines → List ℕ
draw_lines nothing = []
draw_lines (unended l) = l
draw_lines (ended l rest) = l ++ 10 ∷ draw_lines rest

-- no byte of l is LF, as in every line
unfoldable pub no_lf : List ℕ → Bool
no_lf [] = true
no_lf (b ∷ l) = not (eqb b 10) && no_lf l

-- the number of the line behind line n; the largest usize stays
abbrev pub next_number : ℕ → ℕ
next_number n = min (n + 1) 18446744073709551615

-- what the scanner answers at a cursor, from the lines that stand there
unfoldable pub hand_out : Cursor → Lines → Next
hand_out c nothing = Done c.number
hand_out c (unended l) = Unended c.at (c.at + length l) c.number
hand_out c (ended l rest) =
    Line c.at (c.at + length l) c.number
    (record { at = c.at + length l + 1; number = next_number c.number })

unfoldable pub next_line : List ℕ → Cursor → Next
next_line text c = hand_out c (lines (drop c.at text))
