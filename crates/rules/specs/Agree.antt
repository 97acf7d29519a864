-- What "the same turns" means of two runs, and the moves that an answer names.
use Rattle.std.specs.Prelude.{ℕ, List, [], ◌∷◌}
use Rattle.rules.specs.Call.{Answer, taken, refused, grant, rest, quiet}
use Rattle.rules.specs.Run.{Entry}

-- an answer with its moves left out: 0 stands in their place
abbrev pub unmoved : Answer → Answer
unmoved taken = taken
unmoved (refused n) = refused n
unmoved (grant s k c end moves) = grant s k c end 0
unmoved (rest s moves) = rest s 0
unmoved quiet = quiet

abbrev pub plain : Entry → Entry
plain e = record { call = e.call; answer = unmoved e.answer }

-- the moves of a grant or a rest; no other answer has any
abbrev pub moves_of : Answer → ℕ
moves_of taken = 0
moves_of (refused n) = 0
moves_of (grant s k c end moves) = moves
moves_of (rest s moves) = moves
moves_of quiet = 0

-- P of every answer of a list of entries
pub data Every (P : Answer → Type 0) : List Entry → Type 0 where
  every_none : Every P []
  every_more : {e : Entry} {past : List Entry} → P e.answer → Every P past → Every P (e ∷ past)
