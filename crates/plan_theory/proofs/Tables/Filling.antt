-- Filling counts the nodes and hubs of what it fills, keeps the number of cells, and touches only the cells that are still to come.
use Prim.Native.Nat.{ℕ, ◌+◌, ◌-◌, ◌<◌}
use mathlib.Core.Path.{◌≡◌, refl, ◌∙◌}
use native.Mathlib.Omega.{arith}
use lib.ListN.{length}
use Rattle.plan_tree.specs.Tables.{port_cell, put_hub}
use Rattle.plan_theory.specs.Tree.{Port, node, empty, hub, Hub, close, port, nodes_at, nodes_in, hubs_at, hubs_in, Filled, fill_port, fill_hub}
use Rattle.plan_theory.proofs.Tables.Regions.{Later, Own, later_more, own_more, own_new}
use Rattle.plan_theory.proofs.Tables.Puts.{cell, empty_length, node_length, hub_length, ports-length, empty_other, node_other, hub_other, ports_other}
use Rattle.plan_theory.proofs.Tables.Room.{Room, RoomAt, first_room, rest_room, inner_room}
use Rattle.plan_theory.proofs.Tree.Room.{one_hub}

-- n nodes and h hubs more, and as many cells
pub record Counted (s : Filled) (n h : ℕ) (t : Filled) : Type 0 where
  pub nodes : t.nodes ≡ s.nodes + n
  pub hubs : t.hubs ≡ s.hubs + h
  pub length : length t.tables ≡ length s.tables

mutual
  unfolding fill_port fill_hub nodes_at hubs_at nodes_in hubs_in

  pub counted_port : (x : Port) (g q l : ℕ) (s : Filled) → Counted s (nodes_at x) (hubs_at x) (fill_port x g q l s)
  counted_port node g q l s = record { nodes = refl; hubs = omega arith; length = node_length s.tables g q (s.nodes + 1) }
  counted_port empty g q l s = record { nodes = omega arith; hubs = omega arith; length = empty_length s.tables g q }
  counted_port (hub x) g q l s =
      let t : Filled = record { nodes = s.nodes; hubs = s.hubs + 1; tables = put_hub g q (s.hubs + 1) (l + 1) s.tables } in
      let c = counted_hub x (s.hubs + 1) 0 (l + 1) t in
      record {
        nodes = c.nodes;
        hubs = omega (arith, one_hub x, c.hubs);
        length = c.length ∙ hub_length s.tables g q (s.hubs + 1) (l + 1);
      }

  pub counted_hub : (x : Hub) (g q l : ℕ) (s : Filled) → Counted s (nodes_in x) (hubs_in x - 1) (fill_hub x g q l s)
  counted_hub close g q l s = record { nodes = omega arith; hubs = omega arith; length = ports-length s.tables g q }
  counted_hub (port x y) g q l s =
      let c = counted_port x g (q + 1) l s in
      let d = counted_hub y g (q + 1) l (fill_port x g (q + 1) l s) in
      record { nodes = omega (arith, c.nodes, d.nodes); hubs = omega (arith, one_hub y, c.hubs, d.hubs); length = d.length ∙ c.length }

-- the room behind the first port, once it is filled
pub next_room : (x : Port) (y : Hub) (g q l : ℕ) (s : Filled) → Room (port x y) g q l s.nodes s.hubs
    → Room y g (q + 1) l (fill_port x g (q + 1) l s).nodes (fill_port x g (q + 1) l s).hubs
next_room x y g q l s r =
    let c = counted_port x g (q + 1) l s in
    rw (c.nodes, c.hubs) (rest_room x y g q l s.nodes s.hubs r)

mutual
  unfolding fill_port fill_hub nodes_at hubs_at

  pub kept_port : (x : Port) (g q l : ℕ) (s : Filled) (a : ℕ) → RoomAt x g q l s.nodes s.hubs → Later s.nodes s.hubs a
      → (a ≡ port_cell g q → ⊥) → cell (fill_port x g q l s).tables a ≡ cell s.tables a
  kept_port node g q l s a r f d =
      node_other s.tables g q (s.nodes + 1) a d (λ i. f.nodes (s.nodes + 1) i (omega arith) r.room.at_nodes)
  kept_port empty g q l s a r f d = empty_other s.tables g q a d
  kept_port (hub x) g q l s a r f d =
      let t : Filled = record { nodes = s.nodes; hubs = s.hubs + 1; tables = put_hub g q (s.hubs + 1) (l + 1) s.tables } in
      let b : s.hubs < 32 = omega (arith, one_hub x, r.room.at_hubs) in
      kept_hub x (s.hubs + 1) 0 (l + 1) t a (inner_room x g q l s.nodes s.hubs r) (later_more f (omega arith) (omega arith)) (own_new f b)
      ∙ hub_other s.tables g q (s.hubs + 1) (l + 1) a d (λ i. f.hubs (s.hubs + 1) i (omega arith) (omega arith))

  pub kept_hub : (x : Hub) (g q l : ℕ) (s : Filled) (a : ℕ) → Room x g q l s.nodes s.hubs → Later s.nodes s.hubs a
      → Own g q a → cell (fill_hub x g q l s).tables a ≡ cell s.tables a
  kept_hub close g q l s a r f o = ports_other s.tables g q a o.count
  kept_hub (port x y) g q l s a r f o =
      let c = counted_port x g (q + 1) l s in
      let b = first_room x y g q l s.nodes s.hubs r in
      kept_hub y g (q + 1) l (fill_port x g (q + 1) l s) a (next_room x y g q l s r)
      (later_more f (omega (arith, c.nodes)) (omega (arith, c.hubs))) (own_more o)
      ∙ kept_port x g (q + 1) l s a b f (o.ports (q + 1) (omega arith) b.port_up)
