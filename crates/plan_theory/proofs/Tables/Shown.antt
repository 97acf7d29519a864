-- Tables show a part of a tree: each of its ports, hubs and nodes stands in the cells of its number in line order. The
-- tables of a filling show what was filled, and whatever agrees with them outside what is filled later shows it too.
use Prim.Native.Nat.{ℕ, ◌+◌, ◌≤◌, ◌<◌}
use mathlib.Core.Path.{◌≡◌, ◌∙◌}
use mathlib.Core.List.{List}
use native.Mathlib.Omega.{arith}
use lib.ListN.{length}
use Rattle.plan_tree.specs.Tables.{cells, hub_cell, port_cell, node_cell, hub_code, put_node, put_hub, hub_of_node_cell, level_cell, parent_cell, place_cell, port_of_node_cell, ports_cell}
use Rattle.plan_theory.specs.Tree.{Port, node, empty, hub, Hub, close, port, nodes_at, hubs_at, Filled, fill_port, fill_hub}
use Rattle.plan_theory.proofs.Tables.Regions.{Later, Own, Lower, hub_later, node_later, port_own, head_own, hub_own, node_own, hub_lower, node_lower, lower_before, lower_own, later_more}
use Rattle.plan_theory.proofs.Tables.Puts.{cell, hub_length, empty_port_lem, ports_count, node_port_lem, node_hub, node_place, hub_port, hub_parent, hub_place, hub_level}
use Rattle.plan_theory.proofs.Tables.Room.{Room, RoomAt, few_hubs, first_room, inner_room}
use Rattle.plan_theory.proofs.Tree.Room.{one_hub}
use Rattle.plan_theory.proofs.Tables.Filling.{counted_port, counted_hub, next_room, kept_hub}

-- node k stands at port q of hub g
pub record NodeShown (t : List ℕ) (g q k : ℕ) : Type 0 where
  pub port : cell t (port_cell g q) ≡ k
  pub of_hub : cell t (hub_of_node_cell k) ≡ g
  pub of_port : cell t (port_of_node_cell k) ≡ q

-- hub h, of a level, stands at port q of hub g
pub record HubShown (t : List ℕ) (g q h l : ℕ) : Type 0 where
  pub port : cell t (port_cell g q) ≡ hub_code + h
  pub parent : cell t (parent_cell h) ≡ g
  pub place : cell t (place_cell h) ≡ q
  pub level : cell t (level_cell h) ≡ l

-- what stands at port q of hub g, which is of level l, behind n nodes and h
-- hubs; and what stands at its ports behind port q, which are its last
unfoldable mutual
  pub PortShows : Port → List ℕ → ℕ → ℕ → ℕ → ℕ → ℕ → Type 0
  PortShows node t g q l n h = NodeShown t g q (n + 1)
  PortShows empty t g q l n h = cell t (port_cell g q) ≡ 0
  PortShows (hub x) t g q l n h = HubShown t g q (h + 1) (l + 1) × HubShows x t (h + 1) 0 (l + 1) n (h + 1)

  pub HubShows : Hub → List ℕ → ℕ → ℕ → ℕ → ℕ → ℕ → Type 0
  HubShows close t g q l n h = cell t (ports_cell g) ≡ q
  HubShows (port x y) t g q l n h = PortShows x t g (q + 1) l n h × HubShows y t g (q + 1) l (n + nodes_at x) (h + hubs_at x)

-- one port: what agrees with its filling shows it
node_shown : (t : List ℕ) (g q l : ℕ) (s : Filled) → RoomAt node g q l s.nodes s.hubs → length s.tables ≡ cells
    → ((a : ℕ) → Later (s.nodes + 1) s.hubs a → Own g q a → Lower g a → cell t a ≡ cell (put_node g q (s.nodes + 1) s.tables) a)
    → NodeShown t g q (s.nodes + 1)
unfolding nodes_at
node_shown t g q l s r full same =
    let k = s.nodes + 1 in
    let few : g ≤ 32 = omega arith in
    let at : (i : ℕ) → i < 2 → cell t (node_cell k i) ≡ cell (put_node g q k s.tables) (node_cell k i) =
    λ i j. same (node_cell k i) (node_later k s.hubs k i (omega arith) (omega arith) j) (node_own g q k i r.hub_low few) (node_lower g k i few) in
    record {
      port =
          same (port_cell g q) (hub_later k s.hubs g (3 + q) r.hub_low r.hub_up few (omega arith)) (port_own g q q (omega arith) r.port_low)
          (hub_lower g g (3 + q) (omega arith))
          ∙ node_port_lem s.tables full g q k r.hub_low few r.port_up (omega arith) r.room.at_nodes;
      of_hub = at 0 (omega arith) ∙ node_hub s.tables full g q k r.hub_low few r.port_up (omega arith) r.room.at_nodes;
      of_port = at 1 (omega arith) ∙ node_place s.tables full g q k r.hub_low few r.port_up (omega arith) r.room.at_nodes;
    }

-- a hub's own cells, which the filling of its ports keeps
hub_shown : (x : Hub) (t : List ℕ) (g q l : ℕ) (s : Filled) → RoomAt (hub x) g q l s.nodes s.hubs → length s.tables ≡ cells
    → ((a : ℕ) → Later s.nodes (s.hubs + 1) a → Own (s.hubs + 1) 0 a → Own g q a → Lower g a
    → cell t a ≡ cell (put_hub g q (s.hubs + 1) (l + 1) s.tables) a)
    → HubShown t g q (s.hubs + 1) (l + 1)
unfolding hubs_at
hub_shown x t g q l s r full same =
    let h = s.hubs + 1 in
    let few : h ≤ 32 = omega (arith, one_hub x, r.room.at_hubs) in
    let at : (i : ℕ) → 1 ≤ i → i ≤ 3 → cell t (hub_cell h i) ≡ cell (put_hub g q h (l + 1) s.tables) (hub_cell h i) =
    λ i j k.
    same (hub_cell h i) (hub_later s.nodes h h i (omega arith) (omega arith) few (omega arith)) (head_own h 0 i j k)
    (hub_own g q h i r.hub_low (omega arith) (λ e. omega arith) (omega arith)) (hub_lower g h i (omega arith)) in
    record {
      port =
          same (port_cell g q) (hub_later s.nodes h g (3 + q) r.hub_low (omega arith) (omega arith) (omega arith))
          (hub_own h 0 g (3 + q) (omega arith) r.hub_low (λ e. omega arith) (omega arith)) (port_own g q q (omega arith) r.port_low)
          (hub_lower g g (3 + q) (omega arith))
          ∙ hub_port s.tables full g q h (l + 1) r.hub_low (omega arith) few r.port_up;
      parent = at 1 (omega arith) (omega arith) ∙ hub_parent s.tables full g q h (l + 1) r.hub_low (omega arith) few r.port_up;
      place = at 2 (omega arith) (omega arith) ∙ hub_place s.tables full g q h (l + 1) r.hub_low (omega arith) few r.port_up;
      level = at 3 (omega arith) (omega arith) ∙ hub_level s.tables full g q h (l + 1) r.hub_low (omega arith) few r.port_up;
    }

mutual
  unfolding fill_port fill_hub PortShows HubShows

  pub shown_port : (x : Port) (t : List ℕ) (g q l : ℕ) (s : Filled) → RoomAt x g q l s.nodes s.hubs → length s.tables ≡ cells
      → ((a : ℕ) → Later (fill_port x g q l s).nodes (fill_port x g q l s).hubs a → Own g q a → Lower g a
      → cell t a ≡ cell (fill_port x g q l s).tables a)
      → PortShows x t g q l s.nodes s.hubs
  shown_port node t g q l s r full same = node_shown t g q l s r full same
  shown_port empty t g q l s r full same =
      same (port_cell g q) (hub_later s.nodes s.hubs g (3 + q) r.hub_low r.hub_up (omega arith) (omega arith))
      (port_own g q q (omega arith) r.port_low) (hub_lower g g (3 + q) (omega arith))
      ∙ empty_port_lem s.tables full g q r.hub_low (omega arith) r.port_up
  shown_port (hub x) t g q l s r full same =
      let h = s.hubs + 1 in
      let u : Filled = record { nodes = s.nodes; hubs = h; tables = put_hub g q h (l + 1) s.tables } in
      let c = counted_hub x h 0 (l + 1) u in
      let room = inner_room x g q l s.nodes s.hubs r in (
        hub_shown x t g q l s r full
            (λ a f n o w. same a (later_more f (omega (arith, c.nodes)) (omega (arith, c.hubs))) o w ∙ kept_hub x h 0 (l + 1) u a room f n),
        shown_hub x t h 0 (l + 1) u room (hub_length s.tables g q h (l + 1) ∙ full)
            (λ a f w. same a f (lower_own q r.hub_low (omega arith) w) (lower_before (omega arith) w)),
      )

  pub shown_hub : (x : Hub) (t : List ℕ) (g q l : ℕ) (s : Filled) → Room x g q l s.nodes s.hubs → length s.tables ≡ cells
      → ((a : ℕ) → Later (fill_hub x g q l s).nodes (fill_hub x g q l s).hubs a → Lower g a
      → cell t a ≡ cell (fill_hub x g q l s).tables a)
      → HubShows x t g q l s.nodes s.hubs
  shown_hub close t g q l s r full same =
      same (ports_cell g) (hub_later s.nodes s.hubs g 0 r.hub_low r.hub_up (few_hubs r) (omega arith)) (hub_lower g g 0 (omega arith))
      ∙ ports_count s.tables full g q r.hub_low (few_hubs r)
  shown_hub (port x y) t g q l s r full same =
      let s1 = fill_port x g (q + 1) l s in
      let c = counted_port x g (q + 1) l s in
      let d = counted_hub y g (q + 1) l s1 in
      let room = next_room x y g q l s r in (
        shown_port x t g (q + 1) l s (first_room x y g q l s.nodes s.hubs r) full
            (λ a f o w. same a (later_more f (omega arith) (omega arith)) w ∙ kept_hub y g (q + 1) l s1 a room f o),
        rw (← c.nodes, ← c.hubs) (shown_hub y t g (q + 1) l s1 room (c.length ∙ full) same),
      )
