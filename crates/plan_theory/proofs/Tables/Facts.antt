-- Tables that show a tree have, for each of its ports, hubs and nodes, what later proofs need of them.
use Prim.Native.Nat.{ℕ, ◌+◌, ◌-◌, ◌≤◌}
use mathlib.Core.Path.{◌≡◌, sym, ap, ◌∙◌, subst}
use mathlib.Core.List.{List}
use native.Mathlib.Omega.{arith}
use borrow.Author.Tests.{ne_eqb, le-leb, lt-leb}
use Rattle.rules.specs.Plan as rules
use Rattle.rules.specs.Drawn.{Covers, Hung}
use Rattle.plan_tree.specs.Tables.{port_cell, hub_code, port_of, hub_of_node, port_of_node, level_cell, ports_cell}
use Rattle.plan.specs.Tables.{plan_of}
use Rattle.plan_theory.specs.Tree.{Port, node, empty, hub, Hub, close, port, ports_of, nodes_at, nodes_in, hubs_at, hubs_in, levels_at}
use Rattle.plan_theory.specs.Taken.{Holds, PortTold, HubTold}
use Rattle.plan_theory.proofs.Tables.Puts.{cell}
use Rattle.plan_theory.proofs.Tables.Room.{Room, RoomAt, first_room, rest_room, inner_room}
use Rattle.plan_theory.proofs.Tree.Room.{one_hub, one_level}
use Rattle.plan_theory.proofs.Tables.Shown.{NodeShown, HubShown, PortShows, HubShows}
use Rattle.plan_theory.proofs.Tables.Above.{PortRuns, HubRuns, runs-first, runs_last}
use Rattle.plan_theory.proofs.Tables.Parts.{holds_at, PortGood, HubHangs, NodeStands, Parts, parts_join, parts_to, join, only}

-- a port's cell
port_node : (k : ℕ) → 1 ≤ k → k ≤ hub_code → port_of k ≡ rules.node k
port_node k low up = simp (ne_eqb k 0 (λ e. omega arith), le-leb k hub_code up)

port_hub : (h : ℕ) → 1 ≤ h → port_of (hub_code + h) ≡ rules.hub h
port_hub h low =
    let e : hub_code + h - hub_code ≡ h = omega arith in
    simp (ne_eqb (hub_code + h) 0 (λ e. omega arith), lt-leb (hub_code + h) hub_code (omega arith), e)

-- a hub's number of ports
pub shown_ports : (x : Hub) (t : List ℕ) (g q l n h : ℕ) → HubShows x t g q l n h → cell t (ports_cell g) ≡ q + ports_of x
unfolding HubShows ports_of
shown_ports close t g q l n h s = s ∙ omega arith
shown_ports (port x y) t g q l n h s = shown_ports y t g (q + 1) l (n + nodes_at x) (h + hubs_at x) s.1 ∙ omega arith

module _ (t : List ℕ) (above : ℕ → ℕ → ℕ) where
  -- what a port is, by its cell
  port_good : (x : rules.Port) (g q : ℕ) → (plan_of t).port g q ≡ x → Covers (plan_of t) above g q x
      → ((k : ℕ) → x ≡ rules.node k → (hub_of_node t k ≡ g) × (port_of_node t k ≡ q)) → PortGood t above g q
  port_good x g q e c b =
      record { covers = subst (λ y. Covers (plan_of t) above g q y) (sym e) c; back = λ k f. b k (sym e ∙ f) }

  module _ (g q n : ℕ) (first : above g q ≡ n) where
    node_good : above g (q + 1) ≡ n + 1 → n + 1 ≤ 256 → NodeShown t g q (n + 1) → PortGood t above g q
    unfolding plan_of
    node_good next few s =
        port_good (rules.node (n + 1)) g q (ap port_of s.port ∙ port_node (n + 1) (omega arith) few) (omega arith, omega arith)
        (λ k e. let f : n + 1 ≡ k = cc in subst (λ (j : ℕ). (hub_of_node t j ≡ g) × (port_of_node t j ≡ q)) f (s.of_hub, s.of_port))

    empty_good : above g (q + 1) ≡ n → cell t (port_cell g q) ≡ 0 → PortGood t above g q
    unfolding plan_of
    empty_good next s = port_good rules.empty g q (ap port_of s) (next ∙ sym first) (λ k e. (cc, cc))

    hub_good : (h m l : ℕ) → Hung (plan_of t) g q h → above h 1 ≡ n → above h ((plan_of t).ports h + 1) ≡ m → above g (q + 1) ≡ m
        → HubShown t g q h l → 1 ≤ h → PortGood t above g q
    unfolding plan_of
    hub_good h m l hung start end next s low =
        port_good (rules.hub h) g q (ap port_of s.port ∙ port_hub h low) (hung, start ∙ sym first, next ∙ sym end) (λ k e. (cc, cc))

-- hub g is of level l and has its first e ports, and the plan has at least H hubs
pub record Around (t : List ℕ) (g e l H : ℕ) : Type 0 where
  pub level : cell t (level_cell g) ≡ l
  pub ports : e ≤ cell t (ports_cell g)
  pub hubs : H ≤ (plan_of t).hubs

-- the hub at a port of hub g, from what is known of that hub's own ports
module _ (x : Hub) (t : List ℕ) (above : ℕ → ℕ → ℕ) (g q l n h : ℕ) (r : RoomAt (hub x) g (q + 1) l n h) (a : Around t g (q + 1) l (h + hubs_in x))
    (s : HubShown t g (q + 1) (h + 1) (l + 1)) (ports : cell t (ports_cell (h + 1)) ≡ 0 + ports_of x)
  where
    new_around : Around t (h + 1) (0 + ports_of x) (l + 1) (h + 1 + hubs_in x - 1)
    new_around = record { level = s.level; ports = omega arith; hubs = omega (arith, a.hubs) }

    new_hung : Hung (plan_of t) g (q + 1) (h + 1)
    unfolding plan_of
    new_hung =
        record {
          number = record { low = omega arith; up = omega (arith, a.hubs, one_hub x) };
          below = omega arith;
          parent = s.parent;
          place = s.place;
          level = omega (arith, s.level, a.level);
        }

    new_hangs : Holds (plan_of t) (rules.hub (h + 1)) ((plan_of t).parent (h + 1)) ((plan_of t).place (h + 1))
    unfolding plan_of
    new_hangs =
        holds_at s.parent s.place
        (record {
          hub = record { low = r.hub_low; up = omega (arith, a.hubs) };
          place = record { low = omega arith; up = a.ports };
          port = ap port_of s.port ∙ port_hub (h + 1) (omega arith);
        })

    module _ (runs : HubRuns x above (h + 1) 0 n (h + 1)) (first : above g (q + 1) ≡ n) (next : above g (q + 1 + 1) ≡ n + nodes_in x)
        (inner : Parts t above (h + 1) 0 (0 + ports_of x) (h + 1) (h + 1 + hubs_in x - 1) n (n + nodes_in x))
      where
        new_port : PortGood t above g (q + 1)
        unfolding plan_of
        new_port =
            let e : cell t (ports_cell (h + 1)) + 1 ≡ 0 + ports_of x + 1 = omega arith in
            hub_good t above g (q + 1) n first (h + 1) (n + nodes_in x) (l + 1) new_hung (runs-first x above (h + 1) 0 n (h + 1) runs)
            (ap (above (h + 1)) e ∙ runs_last x above (h + 1) 0 n (h + 1) runs) next s (omega arith)

        new_hub : HubHangs t above (h + 1)
        unfolding plan_of levels_at
        new_hub =
            let w = (inner_room x g (q + 1) l n h r).room in
            record {
              good =
                  record {
                    some_port = omega arith;
                    few_ports = omega arith;
                    few_levels = omega (arith, s.level, r.room.at_levels, one_level x);
                    ports = λ k b. inner.ports k b.low (omega arith);
                  };
              hangs = new_hangs;
            }

        hub_parts : Parts t above g q (q + 1) h (h + hubs_in x) n (n + nodes_in x)
        hub_parts =
            record {
              ports = only (λ k. PortGood t above g k) q (q + 1) (omega arith) new_port;
              hubs =
                  join (λ k. HubHangs t above k) h (h + 1) (h + hubs_in x) (only (λ k. HubHangs t above k) h (h + 1) (omega arith) new_hub)
                  (λ k d e. inner.hubs k d (omega arith));
              nodes = inner.nodes;
            }

mutual
  unfolding PortShows HubShows PortRuns HubRuns nodes_at nodes_in hubs_at hubs_in ports_of plan_of

  pub parts_port : (x : Port) (t : List ℕ) (above : ℕ → ℕ → ℕ) (g q l n h : ℕ) → RoomAt x g (q + 1) l n h
      → Around t g (q + 1) l (h + hubs_at x) → PortShows x t g (q + 1) l n h → PortRuns x above n h
      → above g (q + 1) ≡ n → above g (q + 1 + 1) ≡ n + nodes_at x
      → Parts t above g q (q + 1) h (h + hubs_at x) n (n + nodes_at x)
  parts_port node t above g q l n h r a s u first next =
      record {
        ports = only (λ k. PortGood t above g k) q (q + 1) (omega arith) (node_good t above g (q + 1) n first next r.room.at_nodes s);
        hubs = λ k d e. absurd (omega arith);
        nodes =
            only (λ k. NodeStands t k) n (n + 1) (omega arith)
            (holds_at s.of_hub s.of_port
            (record {
              hub = record { low = r.hub_low; up = omega arith };
              place = record { low = omega arith; up = a.ports };
              port = ap port_of s.port ∙ port_node (n + 1) (omega arith) r.room.at_nodes;
            }));
      }
  parts_port empty t above g q l n h r a s u first next =
      record {
        ports = only (λ k. PortGood t above g k) q (q + 1) (omega arith) (empty_good t above g (q + 1) n first (next ∙ omega arith) s);
        hubs = λ k d e. absurd (omega arith);
        nodes = λ k d e. absurd (omega arith);
      }
  parts_port (hub x) t above g q l n h r a s u first next =
      let ports = shown_ports x t (h + 1) 0 (l + 1) n (h + 1) s.1 in
      hub_parts x t above g q l n h r a s.0 ports u first next
      (parts_hub x t above (h + 1) 0 (l + 1) n (h + 1) (inner_room x g (q + 1) l n h r) (new_around x t above g q l n h r a s.0 ports) s.1 u)

  pub parts_hub : (x : Hub) (t : List ℕ) (above : ℕ → ℕ → ℕ) (g q l n h : ℕ) → Room x g q l n h → Around t g (q + ports_of x) l (h + hubs_in x - 1)
      → HubShows x t g q l n h → HubRuns x above g q n h → Parts t above g q (q + ports_of x) h (h + hubs_in x - 1) n (n + nodes_in x)
  parts_hub close t above g q l n h r a s u =
      record { ports = λ k d e. absurd (omega arith); hubs = λ k d e. absurd (omega arith); nodes = λ k d e. absurd (omega arith) }
  parts_hub (port x y) t above g q l n h r a s u =
      parts_to (q + (1 + ports_of y)) (h + (hubs_at x + hubs_in y) - 1) (n + (nodes_at x + nodes_in y)) (omega arith) (omega arith) (omega arith)
      (parts_join
      (parts_port x t above g q l n h (first_room x y g q l n h r)
      (record { level = a.level; ports = omega arith; hubs = omega (arith, a.hubs, one_hub y) }) s.0 u.1 u.0
      (runs-first y above g (q + 1) (n + nodes_at x) (h + hubs_at x) u.2))
      (parts_hub y t above g (q + 1) l (n + nodes_at x) (h + hubs_at x) (rest_room x y g q l n h r)
      (record { level = a.level; ports = omega arith; hubs = omega (arith, a.hubs) }) s.1 u.2))

-- the plan that such tables are has what the tree has at each port
mutual
  unfolding PortShows PortTold nodes_at plan_of

  pub port_told : (x : Port) (t : List ℕ) (g q l n h : ℕ) → RoomAt x g q l n h → PortShows x t g q l n h → PortTold (plan_of t) x g q n h
  port_told node t g q l n h r s = ap port_of s.port ∙ port_node (n + 1) (omega arith) r.room.at_nodes
  port_told empty t g q l n h r s = ap port_of s
  port_told (hub x) t g q l n h r s =
      (ap port_of s.0.port ∙ port_hub (h + 1) (omega arith), hub_told x t (h + 1) 0 (l + 1) n (h + 1) (inner_room x g q l n h r) s.1)

  pub hub_told : (x : Hub) (t : List ℕ) (g q l n h : ℕ) → Room x g q l n h → HubShows x t g q l n h → HubTold (plan_of t) x g q n h
  hub_told close t g q l n h r s = s
  hub_told (port x y) t g q l n h r s = (
    port_told x t g (q + 1) l n h (first_room x y g q l n h r) s.0,
    hub_told y t g (q + 1) l (n + nodes_at x) (h + hubs_at x) (rest_room x y g q l n h r) s.1,
  )
