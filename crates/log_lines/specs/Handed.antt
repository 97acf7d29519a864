-- How much of a text the program reads.
use Rattle.std.specs.Prelude.{ℕ, List, take}

-- at most this many bytes are read
abbrev pub limit : ℕ
limit = 65536

-- the bytes behind the limit count as not there
unfoldable pub handed : List ℕ → List ℕ
handed text = take limit text
