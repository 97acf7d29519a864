-- The tables of every tree within the limits are a plan as `Drawn` says, and each node's own cells name the one port that holds it.
use Prim.Native.Nat.{ℕ, ◌+◌, ◌-◌, ◌≤◌}
use mathlib.Core.Path.{◌≡◌, ap, ◌∙◌}
use mathlib.Core.Bool.{true}
use native.Mathlib.Omega.{arith}
use lib.ListN.{length, length-replicate}
use Rattle.rules.specs.Plan as rules
use Rattle.rules.specs.Drawn.{Within, Drawn}
use Rattle.plan_tree.specs.Tables.{cells, no_table, put_root, hub_of_node, port_of_node, level_cell, ports_cell}
use Rattle.plan.specs.Tables.{Figures, plan_of}
use Rattle.plan_theory.specs.Tree.{Hub, ports_of, nodes_in, hubs_in, limits, good_figures, Filled, filled, tables_of}
use Rattle.plan_theory.specs.Taken.{FiguresTold, HubTold, Holds}
use Rattle.plan_theory.proofs.Tables.Regions.{hub_later, head_own}
use Rattle.plan_theory.proofs.Tables.Puts.{cell, figures_other, root_length, root_level}
use Rattle.plan_theory.proofs.Tables.Room.{root_room}
use Rattle.plan_theory.proofs.Tree.Room.{HubRoom, limits_room, one_hub}
use Rattle.plan_theory.proofs.Tables.Filling.{counted_hub, kept_hub}
use Rattle.plan_theory.proofs.Tables.Shown.{HubShows, shown_hub}
use Rattle.plan_theory.proofs.Tables.Above.{above, above_runs, runs-first, runs_last}
use Rattle.plan_theory.proofs.Tables.Parts.{HubGood, HubHangs, NodeStands, Parts, join, only}
use Rattle.plan_theory.proofs.Tables.Facts.{shown_ports, parts_hub, hub_told}
use Rattle.plan_theory.proofs.Tables.Heads.{frame_is, overhead_is, interrupt_is, framing_is, strict_is, nodes_is, hubs_is, figures_good}

abbrev start : Filled
start = record { nodes = 0; hubs = 1; tables = put_root no_table }

none_full : length no_table ≡ cells
none_full = length-replicate {A = ℕ} cells 0

start_full : length (put_root no_table) ≡ cells
start_full = root_length no_table ∙ none_full

filled_full : (x : Hub) → length (filled x).tables ≡ cells
filled_full x = (counted_hub x 1 0 1 start).length ∙ start_full

module _ (fig : Figures) (x : Hub) where
  pub nodes_are : (plan_of (tables_of fig x)).nodes ≡ nodes_in x
  unfolding tables_of
  nodes_are =
      nodes_is fig (filled x).nodes (filled x).hubs (filled x).tables (filled_full x)
      ∙ (counted_hub x 1 0 1 start).nodes ∙ omega arith

  pub hubs_are : (plan_of (tables_of fig x)).hubs ≡ hubs_in x
  unfolding tables_of
  hubs_are =
      hubs_is fig (filled x).nodes (filled x).hubs (filled x).tables (filled_full x)
      ∙ (counted_hub x 1 0 1 start).hubs ∙ omega (arith, one_hub x)

  pub figures_are : FiguresTold (plan_of (tables_of fig x)) fig
  unfolding tables_of
  figures_are =
      let n = (filled x).nodes in
      let h = (filled x).hubs in
      let t = (filled x).tables in
      let f = filled_full x in
      record {
        frame = frame_is fig n h t f;
        overhead = overhead_is fig n h t f;
        interrupt = interrupt_is fig n h t f;
        framing = framing_is fig n h t f;
        strict = strict_is fig n h t f;
      }

  -- a cell behind the figures is the tree's alone
  pub tree_cell : (a : ℕ) → 8 ≤ a → cell (tables_of fig x) a ≡ cell (filled x).tables a
  unfolding tables_of
  tree_cell a b = figures_other (filled x).tables fig (filled x).nodes (filled x).hubs a b

  module _ (lim : HubRoom x 0 1 0 1) where
    level_one : cell (tables_of fig x) (level_cell 1) ≡ 1
    level_one =
        tree_cell (level_cell 1) (omega arith)
        ∙ kept_hub x 1 0 1 start (level_cell 1) (root_room x lim) (hub_later 0 1 1 3 (omega arith) (omega arith) (omega arith) (omega arith))
        (head_own 1 0 3 (omega arith) (omega arith))
        ∙ root_level no_table none_full

    shows : HubShows x (tables_of fig x) 1 0 1 0 1
    shows = shown_hub x (tables_of fig x) 1 0 1 start (root_room x lim) start_full (λ a f w. tree_cell a w.figures)

    pub ports_are : HubTold (plan_of (tables_of fig x)) x 1 0 0 1
    ports_are = hub_told x (tables_of fig x) 1 0 1 0 1 (root_room x lim) shows

    root_ports : cell (tables_of fig x) (ports_cell 1) ≡ 0 + ports_of x
    root_ports = shown_ports x (tables_of fig x) 1 0 1 0 1 shows

    parts : Parts (tables_of fig x) (above x) 1 0 (0 + ports_of x) 1 (1 + hubs_in x - 1) 0 (0 + nodes_in x)
    parts =
        parts_hub x (tables_of fig x) (above x) 1 0 1 0 1 (root_room x lim)
        (record { level = level_one; ports = omega (arith, root_ports); hubs = omega (arith, hubs_are) }) shows (above_runs x)

    root_good : HubGood (tables_of fig x) (above x) 1
    unfolding plan_of
    root_good =
        record {
          some_port = omega (arith, root_ports, lim.some);
          few_ports = omega (arith, root_ports, lim.ports);
          few_levels = omega (arith, level_one);
          ports = λ q b. parts.ports q b.low (omega (arith, root_ports, b.up));
        }

    hub_hangs : (h : ℕ) → 2 ≤ h → h ≤ (plan_of (tables_of fig x)).hubs → HubHangs (tables_of fig x) (above x) h
    hub_hangs h low up = parts.hubs h low (omega (arith, hubs_are))

    hub_good : (h : ℕ) → Within (plan_of (tables_of fig x)).hubs h → HubGood (tables_of fig x) (above x) h
    hub_good h b =
        join (λ k. HubGood (tables_of fig x) (above x) k) 0 1 (plan_of (tables_of fig x)).hubs
        (only (λ k. HubGood (tables_of fig x) (above x) k) 0 1 (omega arith) root_good) (λ k d e. (hub_hangs k d e).good) h b.low b.up

    -- each node stands where its cells say
    stands : (k : ℕ) → Within (plan_of (tables_of fig x)).nodes k → NodeStands (tables_of fig x) k
    stands k b = parts.nodes k b.low (omega (arith, nodes_are, b.up))

    root_last : above x 1 ((plan_of (tables_of fig x)).ports 1 + 1) ≡ (plan_of (tables_of fig x)).nodes
    unfolding plan_of
    root_last =
        let e : cell (tables_of fig x) (ports_cell 1) + 1 ≡ 0 + ports_of x + 1 = omega (arith, root_ports) in
        ap (above x 1) e ∙ runs_last x (above x) 1 0 0 1 (above_runs x) ∙ omega (arith, nodes_are)

pub drawn : (fig : Figures) (x : Hub) → good_figures fig ≡ true → limits x ≡ true → Drawn (plan_of (tables_of fig x))
unfolding plan_of tables_of
drawn fig x good e =
    let all = limits_room x e in
    let lim = all.0 in
    record {
      figures = figures_good fig (filled x).nodes (filled x).hubs (filled x).tables (filled_full x) good;
      some_node = omega (arith, nodes_are fig x, all.1);
      few_nodes = omega (arith, nodes_are fig x, lim.in_nodes);
      some_hub = omega (arith, hubs_are fig x, one_hub x);
      few_hubs = omega (arith, hubs_are fig x, lim.in_hubs);
      some_port = λ g b. (hub_good fig x lim g b).some_port;
      few_ports = λ g b. (hub_good fig x lim g b).few_ports;
      few_levels = λ g b. (hub_good fig x lim g b).few_levels;
      root_level = level_one fig x lim;
      above = above x;
      root_first = runs-first x (above x) 1 0 0 1 (above_runs x);
      root_last = root_last fig x lim;
      covers = λ g q b c. ((hub_good fig x lim g b).ports q c).covers;
      hung_parent = λ h low up. (hub_hangs fig x lim h low up).hangs.hub;
      hung_place = λ h low up. (hub_hangs fig x lim h low up).hangs.place;
      hung_port = λ h low up. (hub_hangs fig x lim h low up).hangs.port;
    }

-- the port that node k's own cells name is a port of the plan, and holds node k
pub node_stands : (fig : Figures) (x : Hub) → limits x ≡ true → (k : ℕ) → Within (plan_of (tables_of fig x)).nodes k
    → Holds (plan_of (tables_of fig x)) (rules.node k) (hub_of_node (tables_of fig x) k) (port_of_node (tables_of fig x) k)
node_stands fig x e k b = stands fig x (limits_room x e).0 k b

-- and no other port does
pub node_only : (fig : Figures) (x : Hub) → limits x ≡ true → (k g q : ℕ) → Holds (plan_of (tables_of fig x)) (rules.node k) g q
    → (hub_of_node (tables_of fig x) k ≡ g) × (port_of_node (tables_of fig x) k ≡ q)
node_only fig x e k g q a = ((hub_good fig x (limits_room x e).0 g a.hub).ports q a.place).back k a.port
