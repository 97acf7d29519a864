-- The same lines with a line `(strict)`, or without it, draw the same plan but for that: no other cell of the tables knows of it.
use Prim.Native.Nat.{ℕ, ◌≤◌}
use mathlib.Core.Path.{◌≡◌, sym, ◌∙◌}
use mathlib.Core.Option.{Option}
use native.Mathlib.Omega.{arith}
use lib.ListN.{get_or}
use Rattle.rules.specs.Plan.{with_strict}
use Rattle.plan.specs.Tables.{Figures, plan_of}
use Rattle.plan_tree.specs.Tables.{ports_cell, parent_cell, place_cell, level_cell, port_cell, port_of}
use Rattle.plan_theory.specs.Tree.{Header, figures_of, stands, with_strict_line, Hub, tables_of}
use Rattle.plan_theory.proofs.Tables.Drawn.{nodes_are, hubs_are, figures_are, tree_cell}

same_cell : (f g : Figures) (x : Hub) (a : ℕ) → 8 ≤ a → get_or (tables_of f x) a 0 ≡ get_or (tables_of g x) a 0
same_cell f g x a b = tree_cell f x a b ∙ sym (tree_cell g x a b)

pub strict_alone : (fig : Header) (x : Hub) (line : Option (Unit {0}))
    → plan_of (tables_of (figures_of (with_strict_line line fig)) x) ≡ with_strict (stands line) (plan_of (tables_of (figures_of fig) x))
unfolding plan_of
strict_alone fig x line =
    let f = figures_of (with_strict_line line fig) in
    let g = figures_of fig in
    let new = figures_are f x in
    let old = figures_are g x in
    let frame = new.frame ∙ sym old.frame in
    let overhead = new.overhead ∙ sym old.overhead in
    let interrupt = new.interrupt ∙ sym old.interrupt in
    let framing = new.framing ∙ sym old.framing in
    let nodes = nodes_are f x ∙ sym (nodes_are g x) in
    let hubs = hubs_are f x ∙ sym (hubs_are g x) in
    λ i. record {
      frame = frame i;
      overhead = overhead i;
      interrupt = interrupt i;
      framing = framing i;
      strict = new.strict i;
      nodes = nodes i;
      hubs = hubs i;
      ports = λ n. same_cell f g x (ports_cell n) (omega arith) i;
      port = λ n q. port_of (same_cell f g x (port_cell n q) (omega arith) i);
      parent = λ n. same_cell f g x (parent_cell n) (omega arith) i;
      place = λ n. same_cell f g x (place_cell n) (omega arith) i;
      level = λ n. same_cell f g x (level_cell n) (omega arith) i;
    }
