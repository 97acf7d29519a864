-- The table that one statement covers.
use Rattle.std.specs.Prelude.{List, ◌∷◌, ◌++◌}
use Rattle.trials.specs.Row.{Row}
use Rattle.trials.specs.Cases.{cases}
use Rattle.trials.specs.Runs.{example, runs}

unfoldable pub table : List Row
table = example ∷ cases ++ runs
