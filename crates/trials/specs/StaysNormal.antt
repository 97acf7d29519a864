-- Request 8 of document 02: a place of a run where `StaysNormal` speaks. A high request that was taken
-- as normal stands there while a reservation is in force, and the next step grants it.
use Rattle.std.specs.Prelude.{◌≡◌, List, ◌∷◌, ◌++◌, take, drop}
use Rattle.rules.specs.Call.{normal, step, grant}
use Rattle.rules.specs.Run.{Entry}
use Rattle.rules.specs.Words.{reserved}
use Rattle.rules.specs.Strict.{TakenNormal}
use Rattle.trials.specs.Row.{◌⟶◌}
use Rattle.trials.specs.Demand3Runs.{plan_read, whole, taken_as_normal}

-- what came before the grant to node 3 in that list, and what came behind it, the latest first
abbrev pub before : List Entry
before = drop 3 (whole taken_as_normal)

abbrev pub later : List Entry
later = take 2 (whole taken_as_normal)

pub record Met : Type 0 where
  pub place : whole taken_as_normal ≡ later ++ (step 200000 ⟶ grant 112000 3 normal 114000 1 ∷ before)
  pub taken : TakenNormal (plan_read taken_as_normal) 3 before
  pub in_force : (reserved (plan_read taken_as_normal) 3 1 before).packets ≡ 1
