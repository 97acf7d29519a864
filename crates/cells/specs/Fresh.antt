-- The table before any event: no request, no reservation, the root has control,
-- and each pointer is port 1 without mark. Nothing of it is the plan's.
use Rattle.std.specs.Prelude.{ℕ, zero, suc, true, false, List, set, replicate}
use Rattle.cells.specs.Layout.{cells, holder_cell, pointer_cell, unmarked_code}

-- the pointers of hubs n to 1
unfoldable pub pointed : ℕ → List ℕ → List ℕ
pointed zero s = s
pointed (suc n) s = pointed n (set (set s (pointer_cell false (suc n)) (unmarked_code 1)) (pointer_cell true (suc n)) (unmarked_code 1))

unfoldable pub fresh_cells : List ℕ
fresh_cells = pointed 32 (set (replicate cells 0) holder_cell 1)
