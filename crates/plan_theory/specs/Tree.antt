-- The tree of a plan, how it is drawn as lines, its limits, and its tables: what reading is held against.
use Rattle.std.specs.Prelude.{ℕ, ◌+◌, max, Bool, true, false, ◌&&◌, ◌||◌, List, [], ◌∷◌, leb, eqb}
use Rattle.std.proofs.Math.Option.{Option, none, some}
use Rattle.rules.specs.Plan.{longest_in, most_hubs, most_ports, most_nodes, most_levels}
use Rattle.text.specs.Line.{Lines, ended}
use Rattle.text.specs.Form.{draw_form}
use Rattle.plan.specs.Words.{frame_word, overhead_word, interrupt_word, framing_word, strict_word}
use Rattle.plan_tree.specs.Kind.{close_word, node_word, empty_word, hub_word}
use Rattle.plan_tree.specs.Tables.{no_table, put_empty, put_node, put_hub, put_ports, put_root}
use Rattle.plan.specs.Tables.{Figures, put_figures}

-- a port is a node, empty or a hub; a hub is its ports and its closing line
mutual
  pub data Port : Type 0 where
    node : Port
    empty : Port
    hub : Hub → Port

  pub data Hub : Type 0 where
    close : Hub
    port : Port → Hub → Hub

-- The drawing, in front of the lines that follow it. A hub is the line `(hub`,
-- its ports, and the line `)`; `draw_hub` draws it from its ports on.
unfoldable mutual
  pub draw_port : Port → Lines → Lines
  draw_port node rest = ended node_word rest
  draw_port empty rest = ended empty_word rest
  draw_port (hub h) rest = ended hub_word (draw_hub h rest)

  pub draw_hub : Hub → Lines → Lines
  draw_hub close rest = ended close_word rest
  draw_hub (port x h) rest = draw_port x (draw_hub h rest)

-- what the header's lines draw: three figures, the framing where it has a line, and whether there is a line `(strict)`
pub record Header : Type 0 where
  pub frame : ℕ
  pub overhead : ℕ
  pub interrupt : ℕ
  pub framing : Option ℕ
  pub strict : Option (Unit {0})

-- the number that is meant by a line that may be missing
abbrev pub meant : ℕ → Option ℕ → ℕ
meant absent none = absent
meant absent (some x) = x

-- whether a line that may be missing stands
abbrev pub stands : {A : Type 0} → Option A → Bool
stands none = false
stands (some x) = true

-- without a line framing 3 is meant, and a plan that isn't strict
abbrev pub figures_of : Header → Figures
figures_of fig =
    record {
      frame = fig.frame;
      overhead = fig.overhead;
      interrupt = fig.interrupt;
      framing = meant 3 fig.framing;
      strict = stands fig.strict;
    }

-- the same header with a line `(strict)`, or without it
abbrev pub with_strict_line : Option (Unit {0}) → Header → Header
with_strict_line line fig =
    record {
      frame = fig.frame;
      overhead = fig.overhead;
      interrupt = fig.interrupt;
      framing = fig.framing;
      strict = line;
    }

-- a line that may be missing, in front of what follows it; `numbers` are those that stand on it for what it says
abbrev pub draw_optional : {A : Type 0} → List ℕ → (A → List ℕ) → Option A → Lines → Lines
draw_optional word numbers none rest = rest
draw_optional word numbers (some x) rest = ended (draw_form word (numbers x)) rest

-- a line that says one number has just that number
abbrev pub one_number : ℕ → List ℕ
one_number x = x ∷ []

-- a line that says only that it stands has none
abbrev pub no_number : Unit {0} → List ℕ
no_number x = []

unfoldable pub draw : Header → Hub → Lines → Lines
draw fig h rest =
    ended (draw_form frame_word (fig.frame ∷ []))
    (ended (draw_form overhead_word (fig.overhead ∷ []))
    (ended (draw_form interrupt_word (fig.interrupt ∷ []))
    (draw_optional framing_word one_number fig.framing
    (draw_optional strict_word no_number fig.strict (ended hub_word (draw_hub h rest))))))

-- how many ports a hub has
unfoldable pub ports_of : Hub → ℕ
ports_of close = 0
ports_of (port x h) = 1 + ports_of h

-- how many nodes and hubs stand in a port or a hub, the hub itself counted
unfoldable mutual
  pub nodes_at : Port → ℕ
  nodes_at node = 1
  nodes_at empty = 0
  nodes_at (hub h) = nodes_in h

  pub nodes_in : Hub → ℕ
  nodes_in close = 0
  nodes_in (port x h) = nodes_at x + nodes_in h

unfoldable mutual
  pub hubs_at : Port → ℕ
  hubs_at node = 0
  hubs_at empty = 0
  hubs_at (hub h) = hubs_in h

  pub hubs_in : Hub → ℕ
  hubs_in close = 1
  hubs_in (port x h) = hubs_at x + hubs_in h

-- how many levels a hub has, its own counted
unfoldable mutual
  pub levels_at : Port → ℕ
  levels_at node = 0
  levels_at empty = 0
  levels_at (hub h) = levels_in h

  pub levels_in : Hub → ℕ
  levels_in close = 1
  levels_in (port x h) = max (levels_at x + 1) (levels_in h)

-- whether each hub within a port or behind the ports of a hub has 1 to 32 ports
abbrev pub wide : Hub → Bool
wide h = leb 1 (ports_of h) && leb (ports_of h) most_ports

unfoldable mutual
  pub widths_at : Port → Bool
  widths_at node = true
  widths_at empty = true
  widths_at (hub h) = wide h && widths_in h

  pub widths_in : Hub → Bool
  widths_in close = true
  widths_in (port x h) = widths_at x && widths_in h

-- the limits that a line of the tree can pass: 32 hubs, 1 to 32 ports in a hub, 256 nodes, 5 levels
unfoldable pub fits : Hub → Bool
fits h =
    wide h && widths_in h && leb (hubs_in h) most_hubs && leb (nodes_in h) most_nodes && leb (levels_in h) most_levels

-- the limits of the tree: these, and at least one node, which only the whole plan can lack
unfoldable pub limits : Hub → Bool
limits h = fits h && leb 1 (nodes_in h)

-- T is 100,000 to 4,000,000, O is 0 to 50,000, D is the longest packet + O to T
unfoldable pub good_figures : Figures → Bool
good_figures fig =
    leb 100000 fig.frame && leb fig.frame 4000000 && leb fig.overhead 50000
    && leb (longest_in fig.framing + fig.overhead) fig.interrupt && leb fig.interrupt fig.frame

-- the framing is 3 or 5
unfoldable pub good_framing : Figures → Bool
good_framing fig = eqb fig.framing 3 || eqb fig.framing 5

-- the numbers of nodes and hubs so far, in line order, and their tables
pub record Filled : Type 0 where
  pub nodes : ℕ
  pub hubs : ℕ
  pub tables : List ℕ

abbrev pub with_tables : List ℕ → Filled → Filled
with_tables t s = record { nodes = s.nodes; hubs = s.hubs; tables = t }

-- A tree's tables, numbered in line order: what stands at port q of hub g,
-- which is of level l, and what stands at the ports of hub g behind port q
unfoldable mutual
  pub fill_port : Port → ℕ → ℕ → ℕ → Filled → Filled
  fill_port node g q l s =
      record { nodes = s.nodes + 1; hubs = s.hubs; tables = put_node g q (s.nodes + 1) s.tables }
  fill_port empty g q l s = with_tables (put_empty g q s.tables) s
  fill_port (hub h) g q l s =
      fill_hub h (s.hubs + 1) 0 (l + 1)
      (record { nodes = s.nodes; hubs = s.hubs + 1; tables = put_hub g q (s.hubs + 1) (l + 1) s.tables })

  pub fill_hub : Hub → ℕ → ℕ → ℕ → Filled → Filled
  fill_hub close g q l s = with_tables (put_ports g q s.tables) s
  fill_hub (port x h) g q l s = fill_hub h g (q + 1) l (fill_port x g (q + 1) l s)

-- hub 1 is the root, of level 1
abbrev pub filled : Hub → Filled
filled h = fill_hub h 1 0 1 (record { nodes = 0; hubs = 1; tables = put_root no_table })

unfoldable pub tables_of : Figures → Hub → List ℕ
tables_of fig h =
    let s = filled h in
    put_figures fig s.nodes s.hubs s.tables
