-- A run over a list of calls, each call given the cells that the last one left.
use Rattle.std.specs.Prelude.{List, [], ◌∷◌, ℕ}
use Rattle.rules.specs.Call.{Call}
use Rattle.rules.specs.Run.{Entry}
use Rattle.cells.specs.Fresh.{fresh_cells}
use Rattle.cells.specs.Calls.{perform_by}

-- the calls made so far with their answers, the latest first, and the cells that they left
pub record MadeBy : Type 0 where
  pub past : List Entry
  pub cells : List ℕ

module _ (P : List ℕ) where
  abbrev pub next_by : Call → MadeBy → MadeBy
  next_by call m =
      let o = perform_by P call m.cells in
      record { past = record { call = call; answer = o.answer } ∷ m.past; cells = o.cells }

  -- the run of a list of calls, the latest first, from the fresh table
  unfoldable pub made_by : List Call → MadeBy
  made_by [] = record { past = []; cells = fresh_cells }
  made_by (call ∷ earlier) = next_by call (made_by earlier)
