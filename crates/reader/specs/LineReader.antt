-- What the line reader hands out, and where it is left, by what the scanner of `text` answers at its place.
use Rattle.std.specs.Prelude.{ℕ, zero, suc, ◌+◌, Bool, true, false, List}
use Rattle.text.specs.Line.{next_number, next_line}
use Rattle.text.specs.declared.Cursor.{Cursor}
use Rattle.text.specs.declared.Next.{Next}
use Rattle.text.specs.declared.Next.TheVariants.{Line, Unended, Done}
use Rattle.reader.specs.declared.Found.{Found}
use Rattle.reader.specs.declared.Reader.{Reader}

-- where the line at a cursor ends, whether its LF was there, and where the
-- next one starts, with its number; where nothing is left the cursor stays
unfoldable pub found : Cursor → Next → Found
found c (Line start end number next) = record { end = end; ended = true; at = next.at; number = next.number }
found c (Unended start end number) = record { end = end; ended = false; at = end; number = next_number c.number }
found c (Done number) = record { end = c.at; ended = false; at = c.at; number = c.number }

-- the same for a text, a place in it and the number of the line that starts there
abbrev pub found_at : List ℕ → ℕ → ℕ → Found
found_at text at number = found (record { at = at; number = number }) (next_line text (record { at = at; number = number }))

-- what lies ahead of a reader
abbrev pub ahead : Reader → Found
ahead r = found_at r.text.now r.at r.number

-- the reader that it leaves: on the same text, behind that line
abbrev pub moved_on : Reader → Reader
moved_on r = record { text = r.text; at = (ahead r).at; number = (ahead r).number }

-- the scanner's answer at a place, by the length of the line that was handed out
-- there, its number, whether its LF was there, and where the reader was left
unfoldable pub answer_of : ℕ → ℕ → ℕ → Bool → Cursor → Next
answer_of at n number true next = Line at (at + n) number next
answer_of at zero number false next = Done number
answer_of at (suc n) number false next = Unended at (at + suc n) number
