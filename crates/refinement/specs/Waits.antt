-- The recorded times (request 1 of document 02) stand in the last two tables of the cells, and nothing but the wait is read from there.
use Rattle.std.specs.Prelude.{ℕ, ◌<◌, ◌≡◌, List, length, get_or}
use Rattle.cells.specs.Layout.{since_cell}

-- the same cells but for the recorded times
pub record OtherTimes (s r : List ℕ) : Type 0 where
  pub size : length r ≡ length s
  pub same : (i : ℕ) → i < since_cell 1 → get_or r i 0 ≡ get_or s i 0
