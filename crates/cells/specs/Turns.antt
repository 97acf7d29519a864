-- "Control, hub by hub" over the cells: a look finds the port by the hub's mask, and the walk passes control until a node is found.
use Rattle.std.specs.Prelude.{ℕ, zero, suc, ◌+◌, ◌-◌, ◌/◌, Bool, List, ltb, eqb, get_or, set, if◌then◌else◌, Option, Some, None}
use Rattle.rules.specs.Plan.{Port, node, empty, hub, most_levels}
use Rattle.rules.specs.Control.{most_looks}
use Rattle.ports.specs.Mask.{shows, digit}
use Rattle.ports.specs.Search.{lowest_from}
use Rattle.plan_tree.specs.Tables as plan
use Rattle.cells.specs.declared.Look.{Look}
use Rattle.cells.specs.declared.Look.TheVariants.{Node, Pass, Round, Stop}
use Rattle.cells.specs.declared.Turn.{Turn}
use Rattle.cells.specs.Layout.{holder_cell, class_cell, mask_cell, pointer_cell, if_hub, unmarked_code, marked_code}

-- what a look answers, and the cells that it leaves
pub record Looked : Type 0 where
  pub look : Look
  pub cells : List ℕ

-- a turn, and the cells that it leaves
pub record Turned : Type 0 where
  pub turn : Turn
  pub cells : List ℕ

module _ (is_high : Bool) where
  -- rule 3, a hub h found at port q of hub g: the pointer is that port,
  -- marked; h resumes if it was so before, and else starts afresh at port 1
  unfoldable pub down_by : ℕ → ℕ → ℕ → List ℕ → List ℕ
  down_by g q h s =
      let left = set s (pointer_cell is_high g) (marked_code q) in
      if eqb (get_or s (pointer_cell is_high g) 0) (marked_code q) then left else set left (pointer_cell is_high h) (unmarked_code 1)

  -- rule 3 at port q of hub g
  unfoldable pub take_by : ℕ → ℕ → Port → List ℕ → Looked
  take_by g q (node k) s = record { look = Node k; cells = set s (pointer_cell is_high g) (unmarked_code (q + 1)) }
  take_by g q empty s = record { look = Stop; cells = s }
  take_by g q (hub h) s = if ltb 32 h then record { look = Stop; cells = s } else record { look = Pass h; cells = down_by g q h s }

  -- rule 4 at a lower hub that stands at port q of hub h
  unfoldable pub up_by : ℕ → ℕ → List ℕ → Looked
  up_by h q s =
      if_hub h
      (if ltb 32 q then record { look = Stop; cells = s } else record { look = Pass h; cells = set s (pointer_cell is_high h) (unmarked_code (q + 1)) })
      (record { look = Stop; cells = s })

module _ (P : List ℕ) (is_high : Bool) where
  -- rule 4: the root goes to port 1, unmarked
  unfoldable pub hand_up_by : ℕ → List ℕ → Looked
  hand_up_by g s =
      if eqb g 1 then record { look = Round; cells = set s (pointer_cell is_high 1) (unmarked_code 1) }
      else up_by is_high (get_or P (plan.parent_cell g) 0) (get_or P (plan.place_cell g) 0) s

  unfoldable pub found_by : ℕ → Option ℕ → List ℕ → Looked
  found_by g (Some q) s = take_by is_high g q (plan.port_of (get_or P (plan.port_cell g q) 0)) s
  found_by g None s = hand_up_by g s

  -- one look at hub g
  unfoldable pub look_by : ℕ → List ℕ → Looked
  look_by g s = found_by g (lowest_from (shows (get_or s (mask_cell is_high g) 0)) (get_or s (pointer_cell is_high g) 0 / 2)) s

  -- what follows a look at hub g
  unfoldable pub after_look : (ℕ → ℕ → List ℕ → Turned) → ℕ → ℕ → Look → List ℕ → Turned
  after_look again g moves (Node k) s = record { turn = record { node = k; hub = g; moves = moves }; cells = s }
  after_look again g moves (Pass h) s = again h (moves + 1) s
  after_look again g moves Round s = again 1 moves s
  after_look again g moves Stop s = record { turn = record { node = 0; hub = g; moves = moves }; cells = s }

  -- rules 3 and 4, repeated, with control at hub g
  unfoldable pub walk_by : ℕ → ℕ → ℕ → List ℕ → Turned
  walk_by zero g moves s = record { turn = record { node = 0; hub = g; moves = moves }; cells = s }
  walk_by (suc looks) g moves s =
      if_hub g (after_look (walk_by looks) g moves (look_by g s).look (look_by g s).cells)
      (record { turn = record { node = 0; hub = g; moves = moves }; cells = s })

-- moves from hub g up to the root
abbrev pub climb_by : List ℕ → ℕ → ℕ
climb_by P g = if_hub g (get_or P (plan.level_cell g) 0 - 1) 0

-- rule 2, one hub g of the holder's line, which goes on at its port q: t
-- stays the nearest hub if g's pointer x is marked and there; else it is g
unfoldable pub nearer_by : ℕ → ℕ → ℕ → ℕ → ℕ
nearer_by x g q t = if eqb x (marked_code q) then t else g

-- from hub g up to the root, t being the nearest hub of those passed
unfoldable pub nearest_by : List ℕ → Bool → ℕ → ℕ → ℕ → ℕ → List ℕ → ℕ
nearest_by P is_high zero g q t s = 1
nearest_by P is_high (suc levels) g q t s =
    let u = nearer_by (get_or s (pointer_cell is_high g) 0) g q t in
    if_hub g (if eqb g 1 then u else nearest_by P is_high levels (get_or P (plan.parent_cell g) 0) (get_or P (plan.place_cell g) 0) u s) 1

-- where control turns, from the holder up; what its own pointer is doesn't
-- matter, since the nearest hub so far is the holder either way (0 is no port)
abbrev pub turning_by : List ℕ → Bool → List ℕ → ℕ
turning_by P is_high s = nearest_by P is_high most_levels (get_or s holder_cell 0) 0 (get_or s holder_cell 0) s

-- rule 2: where the class sought differs from that of the latest grant, control goes up to the nearest hub first
unfoldable pub walked : List ℕ → Bool → List ℕ → Turned
walked P is_high s =
    if eqb (get_or s class_cell 0) (digit is_high) then walk_by P is_high most_looks (get_or s holder_cell 0) 0 s
    else walk_by P is_high most_looks (turning_by P is_high s) (climb_by P (get_or s holder_cell 0) - climb_by P (turning_by P is_high s)) s

-- who has control after a turn, and of what class the latest grant was
unfoldable pub settled : Bool → Turn → List ℕ → List ℕ
settled is_high t s =
    let held = set s holder_cell t.hub in
    if eqb t.node 0 then held else set held class_cell (digit is_high)

unfoldable pub choose_by : List ℕ → Bool → List ℕ → Turned
choose_by P is_high s =
    let w = walked P is_high s in
    record { turn = w.turn; cells = settled is_high w.turn w.cells }
