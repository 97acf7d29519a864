-- What later proofs need of any taken plan, as one record of facts: its tables are a drawn plan's, with the numbers that the answer tells.
use Prim.Native.Nat.{ℕ}
use mathlib.Core.Path.{sym, ◌∙◌, subst}
use mathlib.Core.List.{List}
use Rattle.plan.specs.Reading.{reading}
use Rattle.plan_theory.specs.Tree.{figures_of}
use Rattle.plan_theory.specs.Taken.{TakenAs, TakenPlan}
use Rattle.plan_theory.proofs.Tree.TakenDrawn.{taken_drawn}
use Rattle.plan_theory.proofs.Tree.Taken.{taken_of}
use Rattle.plan_theory.proofs.Tables.Drawn.{drawn, nodes_are, hubs_are, node_stands, node_only}

pub taken_plan : (text : List ℕ) (nodes hubs at line : ℕ) → TakenAs text nodes hubs at line → TakenPlan (reading text).tables nodes hubs
taken_plan text nodes hubs at line t =
    let d = taken_drawn text nodes hubs at line t in
    let o = taken_of text nodes hubs at line t d in
    subst (λ (cells : List ℕ). TakenPlan cells nodes hubs) (sym o.same_tables)
    (record {
      plan = drawn (figures_of d.fig) d.tree d.good d.within;
      nodes_told = nodes_are (figures_of d.fig) d.tree ∙ sym o.same_nodes;
      hubs_told = hubs_are (figures_of d.fig) d.tree ∙ sym o.same_hubs;
      node_port = node_stands (figures_of d.fig) d.tree d.within;
      one_port = node_only (figures_of d.fig) d.tree d.within;
    })
