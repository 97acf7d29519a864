-- What a reader hands out call after call, and the lines of a text with their numbers.
use Rattle.std.specs.Prelude.{ℕ, zero, suc, Bool, true, false, not, ◌&&◌, List, [], ◌∷◌, eqb, length}
use Rattle.text.specs.Part.{part}
use Rattle.text.specs.Line.{Lines, nothing, unended, ended, next_number}
use Rattle.reader.specs.LineReader.{found_at}

-- a line as it is handed out
pub record HandedOut : Type 0 where
  pub bytes : List ℕ
  pub number : ℕ
  pub ended : Bool

-- nothing where nothing is left, else the line before the others
abbrev pub until : Bool → HandedOut → List HandedOut → List HandedOut
until true x others = []
until false x others = x ∷ others

-- what a reader at a place hands out in so many calls, up to where nothing is left
unfoldable pub hands_out : ℕ → List ℕ → ℕ → ℕ → List HandedOut
hands_out zero text at number = []
hands_out (suc calls) text at number =
    let f = found_at text at number in
    let bytes = part text at f.end in
    until (not f.ended && eqb (length bytes) 0) (record { bytes = bytes; number = number; ended = f.ended }) (hands_out calls text f.at f.number)

-- the lines of a text, numbered from n on
unfoldable pub numbered : ℕ → Lines → List HandedOut
numbered n nothing = []
numbered n (unended l) = record { bytes = l; number = n; ended = false } ∷ []
numbered n (ended l rest) = record { bytes = l; number = n; ended = true } ∷ numbered (next_number n) rest
