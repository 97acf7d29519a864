-- A plan's cells as a whole: where the figures stand, before the tree's cells, and the plan that all the cells are.
use Rattle.std.specs.Prelude.{ℕ, Bool, not, List, eqb, get_or, set, if◌then◌else◌}
use Rattle.rules.specs.Plan as rules
use Rattle.plan_tree.specs.Tables.{ports_cell, parent_cell, place_cell, level_cell, port_cell, port_of}

-- T, O, D, N, H, the framing and whether the plan is strict; cell 7 is kept for a later figure
abbrev pub frame_cell : ℕ
frame_cell = 0

abbrev pub overhead_cell : ℕ
overhead_cell = 1

abbrev pub interrupt_cell : ℕ
interrupt_cell = 2

abbrev pub nodes_cell : ℕ
nodes_cell = 3

abbrev pub hubs_cell : ℕ
hubs_cell = 4

abbrev pub framing_cell : ℕ
framing_cell = 5

abbrev pub strict_cell : ℕ
strict_cell = 6

-- what the header's lines say
pub record Figures : Type 0 where
  pub frame : ℕ
  pub overhead : ℕ
  pub interrupt : ℕ
  pub framing : ℕ
  pub strict : Bool

-- 1 where the plan is strict, else 0; any other number, which no plan that was read has, counts as strict
abbrev pub strict_code : Bool → ℕ
strict_code strict = if strict then 1 else 0

abbrev pub strict_of : ℕ → Bool
strict_of x = not (eqb x 0)

unfoldable pub put_figures : Figures → ℕ → ℕ → List ℕ → List ℕ
put_figures fig nodes hubs s =
    set
    (set
    (set (set (set (set (set s frame_cell fig.frame) overhead_cell fig.overhead) interrupt_cell fig.interrupt) nodes_cell nodes) hubs_cell hubs)
    framing_cell
    fig.framing)
    strict_cell
    (strict_code fig.strict)

-- the plan that the cells are
unfoldable pub plan_of : List ℕ → rules.Plan
plan_of s =
    record {
      frame = get_or s frame_cell 0;
      overhead = get_or s overhead_cell 0;
      interrupt = get_or s interrupt_cell 0;
      framing = get_or s framing_cell 0;
      strict = strict_of (get_or s strict_cell 0);
      nodes = get_or s nodes_cell 0;
      hubs = get_or s hubs_cell 0;
      ports = λ g. get_or s (ports_cell g) 0;
      port = λ g q. port_of (get_or s (port_cell g q) 0);
      parent = λ g. get_or s (parent_cell g) 0;
      place = λ g. get_or s (place_cell g) 0;
      level = λ g. get_or s (level_cell g) 0;
    }
