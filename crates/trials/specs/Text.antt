-- Texts as they stand in document 01, as bytes.
use Rattle.std.specs.Prelude.{ℕ, List, [], ◌∷◌, ◌++◌}
use Prim.Native.Char.{code}
use Prim.Native.String.{String, [] as end, ◌∷◌ as ◌then◌}

-- the texts of the table are ASCII, so a character's code is its byte
unfoldable pub bytes : String → List ℕ
bytes end = []
bytes (c then s) = code c ∷ bytes s

-- lines, each ended by LF
unfoldable pub text_of : List String → List ℕ
text_of [] = []
text_of (l ∷ ls) = bytes l ++ 10 ∷ text_of ls
