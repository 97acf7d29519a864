-- An extended list goes on by calls of the hub that were made as one list, as `call_list::list` makes them.
use Rattle.std.specs.Prelude.{ℕ, List, [], ◌∷◌}
use Rattle.rules.specs.Run.{Entry}
use Rattle.cells.specs.Calls.{perform_by}
use Rattle.beside.specs.Beside.{Beside}

module _ (P s : List ℕ) where
  -- the hub's cells after calls that were made from s on, the latest first
  unfoldable pub cells_after : List Entry → List ℕ
  cells_after [] = s
  cells_after (e ∷ more) = (perform_by P e.call (cells_after more)).cells

  -- what then stands beside the hub: each of them was watched
  unfoldable pub watched : (B : Beside) → B.State → List Entry → B.State
  watched B b [] = b
  watched B b (e ∷ more) = B.watch P (cells_after more) e (watched B b more)
