-- The rows of a reserve that don't look at its time: 13, 14, 15 and 17. A reserve has 11 and 12 before them.
use Rattle.std.specs.Prelude.{ℕ, ◌+◌, List, [], ◌∷◌, ◌++◌, ltb}
use Rattle.rules.specs.Plan.{Plan}
use Rattle.rules.specs.Core.{Core, Share}
use Rattle.rules.specs.Rows.{Row, first_row, row13, row14, row15r, row17, load}
use Rattle.cells.specs.Decode.{plan_in, core_of}
use Rattle.cells.specs.Calls.{number_of}

-- 13, 14 and 15: those that look at no other reservation either
abbrev pub limit_rows : Plan → ℕ → ℕ → ℕ → List Row
limit_rows p k n b = row13 p k ∷ row14 n ∷ row15r p n b ∷ []

abbrev pub share_rows : Plan → ℕ → ℕ → ℕ → List ℕ → List Row
share_rows p k n b s = limit_rows p k n b ++ row17 p (core_of p s) k (record { packets = n; bits = b }) ∷ []

-- 0, or the number of the row that refuses
unfoldable pub share_row_by : List ℕ → ℕ → ℕ → ℕ → List ℕ → ℕ
share_row_by P k n b s = number_of (first_row (share_rows (plan_in P) k n b s))

-- 17 by the sum of n × c over all nodes, whoever worked it out: node k's old load goes out and the new one comes in
abbrev pub row17_with : Plan → Core → ℕ → ℕ → Share → Row
row17_with p s all k r = record { number = 17; applies = ltb (p.frame + load p (s.latest k)) (p.interrupt + (all + load p r)) }

-- the row that refuses, by that sum
unfoldable pub share_row_with : List ℕ → ℕ → ℕ → ℕ → ℕ → List ℕ → ℕ
share_row_with P all k n b s =
    let p = plan_in P in
    number_of (first_row (limit_rows p k n b ++ row17_with p (core_of p s) all k (record { packets = n; bits = b }) ∷ []))
