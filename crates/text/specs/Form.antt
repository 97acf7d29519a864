-- A form on one line: a word, then numbers, each behind one space, then `)`. How it is drawn, and how it is read.
use Rattle.std.specs.Prelude.{ℕ, zero, suc, ◌^◌, ◌<◌, Bool, true, false, List, [], ◌∷◌, ◌++◌, eqb, length, drop, get_or}
use Rattle.std.specs.Prelude as code
use Rattle.std.proofs.Math.Option.{Option, none, some}
use Rattle.text.specs.Number.{digits, read_number}
use Rattle.text.specs.Word.{starts_with, is_word}

-- each number behind a space, byte 32, and then `)`, byte 41
unfoldable pub draw_numbers : List ℕ → List ℕ
draw_numbers [] = 41 ∷ []
draw_numbers (n ∷ ns) = 32 ∷ digits n ++ draw_numbers ns

unfoldable pub draw_form : List ℕ → List ℕ → List ℕ
draw_form word ns = word ++ draw_numbers ns

-- each number has at most 16 digits
abbrev pub Small : List ℕ → Type 0
Small [] = Unit {0}
Small (n ∷ ns) = (n < 10 ^ 16) × Small ns

-- a number that was read, in front of what is read behind it
unfoldable pub and_then : ℕ → Option (List ℕ) → Option (List ℕ)
and_then n none = none
and_then n (some ns) = some (n ∷ ns)

-- where the byte is a space and a number stands behind it: the number, and what is read behind its bytes
unfoldable pub read_spaced : Bool → Option (ℕ × ℕ) → (ℕ → Option (List ℕ)) → Option (List ℕ)
read_spaced false n behind = none
read_spaced true none behind = none
read_spaced true (some n) behind = and_then n.0 (behind n.1)

-- where the rest is `)` and nothing else, there are no more numbers
unfoldable pub read_close : Bool → Option (List ℕ)
read_close true = some []
read_close false = none

-- `count` numbers, each behind one space, and the closing bracket
unfoldable pub read_numbers : ℕ → List ℕ → Option (List ℕ)
read_numbers zero s = read_close (is_word (41 ∷ []) s)
read_numbers (suc count) [] = none
read_numbers (suc count) (b ∷ s) = read_spaced (eqb b 32) (read_number s) (λ k. read_numbers count (drop k s))

-- the numbers of the line where it is the form of this word with this many numbers
unfoldable pub read_behind : Bool → ℕ → List ℕ → Option (List ℕ)
read_behind true count s = read_numbers count s
read_behind false count s = none

unfoldable pub read_form : List ℕ → ℕ → List ℕ → Option (List ℕ)
read_form word count line = read_behind (starts_with word line) count (drop (length word) line)

-- as the answer that code gives: the first four numbers, 0 where there are fewer
unfoldable pub form_of : Option (List ℕ) → code.Option (List ℕ)
form_of none = code.None
form_of (some ns) = code.Some (get_or ns 0 0 ∷ get_or ns 1 0 ∷ get_or ns 2 0 ∷ get_or ns 3 0 ∷ [])
