-- The due instant where it is strictly before a bound. What is due may lie above 64 bits where a
-- table's clock is close to 2^64; what is due before a bound of 64 bits never does, so the answer is right for every content.
use Rattle.std.specs.Prelude.{ℕ, List, ltb, if◌then◌else◌, Option, Some, None}
use Rattle.rules.specs.Plan.{Plan}
use Rattle.rules.specs.Core.{before}
use Rattle.cells.specs.Instants.{due_by, due_in}

abbrev pub if_before : ℕ → ℕ → Option ℕ
if_before t d = if ltb d t then Some d else None

unfoldable pub due_before : Plan → ℕ → List ℕ → Option ℕ
due_before p t s = if before (due_in (due_by p s)) t then due_by p s else None
