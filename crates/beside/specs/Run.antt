-- An extended list by computing: calls without their answers are made one after the other.
use Rattle.std.specs.Prelude.{ℕ, List, [], ◌∷◌}
use Rattle.cells.specs.Fresh.{fresh_cells}
use Rattle.cells.specs.Calls.{perform_by}
use Rattle.beside.specs.Beside.{Beside, entry, Item, of_hub, aside, effect_of}
use Rattle.beside.specs.Extended.{cells_left, state_left}

module _ (B : Beside) where
  -- the calls made so far with their answers, the latest first, what they left beside the hub, and the hub's cells
  pub record Ran : Type 0 where
    pub items : List (Item B)
    pub state : B.State
    pub cells : List ℕ

  -- one more call, whatever answer stands beside it
  abbrev pub ran_one : List ℕ → Item B → Ran → Ran
  ran_one P (of_hub e) m =
      let o = perform_by P e.call m.cells in
      let now = entry e.call o.answer in
      record { items = of_hub now ∷ m.items; state = B.watch P m.cells now m.state; cells = o.cells }
  ran_one P (aside q r) m =
      let now = B.reply P m.cells q m.state in
      record {
        items = aside q now ∷ m.items;
        state = state_left B P q now m.cells m.state;
        cells = cells_left P (effect_of B q now) m.cells;
      }

  unfoldable pub ran : List ℕ → List (Item B) → Ran
  ran P [] = record { items = []; state = B.start; cells = fresh_cells }
  ran P (x ∷ xs) = ran_one P x (ran P xs)
