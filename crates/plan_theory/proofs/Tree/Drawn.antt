-- Reading the drawing of a tree within the limits: port by port, up to the line that closes the root. Assumes nothing.
use Prim.Native.Nat.{ℕ, ◌+◌, ◌≤◌}
use mathlib.Core.Path.{◌≡◌, subst, ◌∙◌}
use mathlib.Core.List.{List, [], ◌∷◌}
use native.Mathlib.Omega.{arith}
use borrow.Author.Tests.{lt-leb, ne_eqb}
use lib.ListN.{length}
use Rattle.rules.specs.Plan.{most_hubs, most_ports, most_nodes, most_levels}
use Rattle.text.specs.Line.{Lines}
use Rattle.text.specs.Word.{is_word}
use Rattle.text.specs.declared.Cursor.{Cursor}
use Rattle.plan.specs.Answer.{Taken}
use Rattle.plan_tree.specs.Kind.{kind_of, hub_word}
use Rattle.plan_tree.specs.Tables.{put_hub}
use Rattle.plan.specs.Tables.{Figures, put_figures}
use Rattle.plan.specs.Reading.{Read, Open, Progress, one_more, hub_lines, next}
use Rattle.plan_theory.specs.Tree.{Port, node, empty, hub, Hub, close, port, draw_port, draw_hub, ports_of, nodes_at, nodes_in, hubs_at, levels_at, Filled, fill_port, fill_hub}
use Rattle.plan_theory.specs.Behind.{past_port, past_hub}
use Rattle.plan_theory.proofs.Tree.Room.{PortRoom, HubRoom, first_room, rest_room, inner_room, one_hub, one_level}
use Rattle.plan_theory.proofs.Tree.Count.{nodes_at_lem, hubs_at_lem}

module _ (fig : Figures) where
  -- hub o is being read inside the hubs os, with what was filled in so far
  abbrev pub within : Open → List Open → Filled → Progress
  within o os s = record { inner = o; outer = os; nodes = s.nodes; hubs = s.hubs; tables = s.tables }

  -- a hub inside the hubs os is closed, and c is behind it: its parent goes on, or the plan is taken
  abbrev pub shut : List Open → Lines → Cursor → Filled → Read
  shut [] ls c s =
      record {
        answer = Taken s.nodes s.hubs c.at c.number;
        tables = put_figures fig s.nodes s.hubs s.tables;
      }
  shut (o ∷ os) ls c s = hub_lines fig ls c (within o os s)

  -- the root has a node when it is closed
  abbrev pub Noded : List Open → ℕ → Type 0
  Noded [] n = 1 ≤ n
  Noded (o ∷ os) n = Unit {0}

  closing : (o : Open) (os : List Open) (l : ℕ) (s : Filled) (c : Cursor) (ls : Lines) → 1 ≤ o.ports → Noded os s.nodes
      → hub_lines fig (draw_hub close ls) c (within o os s) ≡ shut os ls (past_hub close c) (fill_hub close o.hub o.ports l s)
  unfolding hub_lines draw_hub past_hub fill_hub kind_of is_word
  closing o [] l s c ls some n = rw (ne_eqb o.ports 0 (omega arith), ne_eqb s.nodes 0 (omega arith))
  closing o (p ∷ os) l s c ls some n = rw (ne_eqb o.ports 0 (omega arith))

  -- one port, and the ports of a hub with the line that closes it; l is the hub's level
  mutual
    unfolding hub_lines draw_hub past_hub fill_hub kind_of is_word nodes_at ports_of hubs_at levels_at

    pub port_drawn : (x : Port) (o : Open) (os : List Open) (l : ℕ) (s : Filled) (c : Cursor) (ls : Lines) → l ≡ length os + 1
        → PortRoom x o.ports l s.nodes s.hubs
        → hub_lines fig (draw_port x ls) c (within o os s)
        ≡ hub_lines fig ls (past_port x c) (within (one_more o) os (fill_port x o.hub (o.ports + 1) l s))
    port_drawn node o os l s c ls e r =
        rw (lt-leb most_ports o.ports r.ports, lt-leb most_nodes s.nodes (omega (arith, r.at_nodes)))
    port_drawn empty o os l s c ls e r = rw (lt-leb most_ports o.ports r.ports)
    port_drawn (hub h) o os l s c ls e r =
        let s' : Filled = record { nodes = s.nodes; hubs = s.hubs + 1; tables = put_hub o.hub (o.ports + 1) (s.hubs + 1) (l + 1) s.tables } in
        let deeper : length os + 2 ≡ l + 1 = omega arith in
        rw (
          lt-leb most_ports o.ports r.ports,
          lt-leb most_hubs s.hubs (omega (arith, r.at_hubs, one_hub h)),
          lt-leb most_levels (length os + 1) (omega (arith, r.at_levels, one_level h)),
          deeper,
        )
        (hub_drawn h (record { hub = s.hubs + 1; ports = 0 }) (one_more o ∷ os) (l + 1) s' (next c hub_word) ls (omega arith)
        (inner_room o.ports l s.nodes s.hubs h r) tt)

    pub hub_drawn : (h : Hub) (o : Open) (os : List Open) (l : ℕ) (s : Filled) (c : Cursor) (ls : Lines) → l ≡ length os + 1
        → HubRoom h o.ports l s.nodes s.hubs → Noded os (s.nodes + nodes_in h)
        → hub_lines fig (draw_hub h ls) c (within o os s) ≡ shut os ls (past_hub h c) (fill_hub h o.hub o.ports l s)
    hub_drawn close o os l s c ls e r n = closing o os l s c ls (omega (arith, r.some)) (subst (Noded os) (omega arith) n)
    hub_drawn (port x h) o os l s c ls e r n =
        let s' : Filled = fill_port x o.hub (o.ports + 1) l s in
        let ns : s'.nodes ≡ s.nodes + nodes_at x = nodes_at_lem x o.hub (o.ports + 1) l s in
        let hs : s'.hubs ≡ s.hubs + hubs_at x = hubs_at_lem x o.hub (o.ports + 1) l s in
        port_drawn x o os l s c (draw_hub h ls) e (first_room o.ports l s.nodes s.hubs x h r)
        ∙ hub_drawn h (one_more o) os l s' (past_port x c) ls e
        (rw (ns, hs) (rest_room o.ports l s.nodes s.hubs x h r))
        (subst (Noded os) (omega arith) n)
