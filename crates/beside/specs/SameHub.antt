-- What holds of every extended list: for the hub it is the list of its projection.
use Rattle.std.specs.Prelude.{ℕ, ◌≡◌, Bool, true, false, List, [], ◌∷◌}
use Rattle.rules.specs.Plan.{Plan}
use Rattle.rules.specs.Run.{Entry}
use Rattle.cells.specs.Run.{made_by}
use Rattle.demands.specs.Demands.{Calls, calls_of, Demands}
use Rattle.beside.specs.Beside.{Effect, stays, comes_to, Beside, Item, of_hub, aside, effect_of, projected}

-- a list less the entries that are marked
unfoldable pub less : List Bool → List Entry → List Entry
less [] past = past
less (mark ∷ marks) [] = []
less (true ∷ marks) (e ∷ past) = less marks past
less (false ∷ marks) (e ∷ past) = e ∷ less marks past

abbrev pub mark_seen : Effect → List Bool → List Bool
mark_seen stays marks = marks
mark_seen (comes_to t) marks = true ∷ marks

module _ (B : Beside) where
  -- the six calls of an extended list, with their answers
  unfoldable pub six_calls : List (Item B) → List Entry
  six_calls [] = []
  six_calls (of_hub e ∷ xs) = e ∷ six_calls xs
  six_calls (aside q r ∷ xs) = six_calls xs

  -- which entries of the projection are an `until` that was put there for a call beside the hub
  unfoldable pub put_there : List (Item B) → List Bool
  put_there [] = []
  put_there (of_hub e ∷ xs) = false ∷ put_there xs
  put_there (aside q r ∷ xs) = mark_seen (effect_of B q r) (put_there xs)

  -- P and s are the plan's cells and the hub's behind the list
  pub record SameHub (P : List ℕ) (xs : List (Item B)) (s : List ℕ) : Type 0 where
    -- the projection is a list of the six calls
    pub calls : Calls P (projected B xs) s
    -- made alone from the fresh table, its calls leave the same cells and get the same answers
    pub cells : s ≡ (made_by P (calls_of (projected B xs))).cells
    pub answers : projected B xs ≡ (made_by P (calls_of (projected B xs))).past
    -- and the six calls of the extended list, in order and with their answers, are those of it that weren't put there
    pub six : six_calls xs ≡ less (put_there xs) (projected B xs)

  -- The demands of an extended list, demand 3 among them: those of its projection.
  abbrev pub ExtendedDemands : List ℕ → Plan → List (Item B) → List ℕ → Type 0
  ExtendedDemands P p xs s = Demands P p (projected B xs) s
