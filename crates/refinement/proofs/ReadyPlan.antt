-- The cells of every taken plan are ready: in particular its root has no parent.
use Prim.Native.Nat.{ℕ, min, ◌≤◌}
use mathlib.Core.Path.{◌≡◌, sym, ap, ◌∙◌, subst}
use mathlib.Core.List.{List}
use native.Mathlib.Omega.{arith}
use lib.ListN.{get_or, get_or-replicate}
use lib.Seq.{get_or-set_other}
use Rattle.rules.specs.Plan.{Plan, node}
use Rattle.rules.specs.Drawn.{Drawn, Within}
use Rattle.plan_tree.specs.Tables.{cells, no_table, put_root, hub_of_node, port_of_node, level_cell, parent_cell}
use Rattle.plan.specs.Tables.{Figures, plan_of}
use Rattle.plan.specs.Reading.{reading}
use Rattle.plan_theory.specs.Tree.{figures_of, Hub, filled, tables_of}
use Rattle.plan_theory.specs.Taken.{Holds, TakenAs, TakenPlan}
use Rattle.plan_theory.proofs.Tables.Regions.{hub_later, head_own}
use Rattle.plan_theory.proofs.Tables.Puts.{cell, figures_other}
use Rattle.plan_theory.proofs.Tables.Room.{root_room}
use Rattle.plan_theory.proofs.Tables.Filling.{kept_hub}
use Rattle.plan_theory.proofs.Tree.Room.{HubRoom, limits_room}
use Rattle.plan_theory.proofs.Tree.TakenDrawn.{taken_drawn}
use Rattle.plan_theory.proofs.Tree.Taken.{taken_of}
use Rattle.plan_theory.proofs.TakenPlan.{taken_plan}
use Rattle.cells.specs.Decode.{bounded, plan_in}
use Rattle.refinement.specs.Kept.{Ready}

-- nothing is stored in the cell of the root's parent
root_none : cell (put_root no_table) (parent_cell 1) ≡ 0
unfolding put_root
root_none =
    get_or-set_other no_table (level_cell 1) (parent_cell 1) 1 0 (λ e. omega arith) ∙ get_or-replicate cells (parent_cell 1) 0 0 (omega arith)

tree_root : (fig : Figures) (x : Hub) → HubRoom x 0 1 0 1 → cell (tables_of fig x) (parent_cell 1) ≡ 0
unfolding tables_of
tree_root fig x lim =
    figures_other (filled x).tables fig (filled x).nodes (filled x).hubs (parent_cell 1) (omega arith)
    ∙ kept_hub x 1 0 1 (record { nodes = 0; hubs = 1; tables = put_root no_table }) (parent_cell 1) (root_room x lim)
    (hub_later 0 1 1 1 (omega arith) (omega arith) (omega arith) (omega arith)) (head_own 1 0 1 (omega arith) (omega arith))
    ∙ root_none

pub taken_root : (text : List ℕ) (nodes hubs at line : ℕ) → TakenAs text nodes hubs at line → get_or (reading text).tables (parent_cell 1) 0 ≡ 0
taken_root text nodes hubs at line t =
    let d = taken_drawn text nodes hubs at line t in
    let o = taken_of text nodes hubs at line t d in
    ap (λ (s : List ℕ). cell s (parent_cell 1)) o.same_tables ∙ tree_root (figures_of d.fig) d.tree (limits_room d.tree d.within).0

-- a taken plan has no more nodes than the table has cells for
bounded-same : (p : Plan) → p.nodes ≤ 256 → bounded p ≡ p
bounded-same p few =
    let e : min p.nodes 256 ≡ p.nodes = omega arith in
    λ i. record {
      frame = p.frame;
      overhead = p.overhead;
      interrupt = p.interrupt;
      framing = p.framing;
      strict = p.strict;
      nodes = e i;
      hubs = p.hubs;
      ports = p.ports;
      port = p.port;
      parent = p.parent;
      place = p.place;
      level = p.level;
    }

pub plan_in_lem : (text : List ℕ) (nodes hubs at line : ℕ) → TakenAs text nodes hubs at line → plan_in (reading text).tables ≡ plan_of (reading text).tables
plan_in_lem text nodes hubs at line t = bounded-same (plan_of (reading text).tables) (taken_plan text nodes hubs at line t).plan.few_nodes

pub ready : (text : List ℕ) (nodes hubs at line : ℕ) → TakenAs text nodes hubs at line → Ready (reading text).tables
ready text nodes hubs at line t =
    record {
      drawn = subst Drawn (sym same) k.plan;
      root_parent = taken_root text nodes hubs at line t;
      node_port = subst (λ (p : Plan). (i : ℕ) → Within p.nodes i → Holds p (node i) (hub_of_node P i) (port_of_node P i)) (sym same) k.node_port;
      one_port =
          subst (λ (p : Plan). (i g q : ℕ) → Holds p (node i) g q → (hub_of_node P i ≡ g) × (port_of_node P i ≡ q)) (sym same) k.one_port;
    }
  where
    P : List ℕ
    P = (reading text).tables

    k : TakenPlan P nodes hubs
    k = taken_plan text nodes hubs at line t

    same : plan_in P ≡ plan_of P
    same = plan_in_lem text nodes hubs at line t
