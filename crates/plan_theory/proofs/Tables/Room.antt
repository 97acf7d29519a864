-- The room of a tree's parts, with the number of the hub that they stand in: one of the hubs so far.
use Prim.Native.Nat.{ℕ, ◌+◌, ◌-◌, ◌≤◌}
use mathlib.Core.Path.{◌≡◌, subst}
use native.Mathlib.Omega.{arith}
use Rattle.plan_theory.specs.Tree.{Port, hub, Hub, port, nodes_at, hubs_at}
use Rattle.plan_theory.proofs.Tree.Room as tree

-- port q of hub g, which is of level l, behind n nodes and h hubs
pub record RoomAt (x : Port) (g q l n h : ℕ) : Type 0 where
  pub hub_low : 1 ≤ g
  pub hub_up : g ≤ h
  pub port_low : 1 ≤ q
  pub port_up : q ≤ 32
  pub room : tree.PortRoom x (q - 1) l n h

-- the ports of hub g behind port q
pub record Room (x : Hub) (g q l n h : ℕ) : Type 0 where
  pub hub_low : 1 ≤ g
  pub hub_up : g ≤ h
  pub room : tree.HubRoom x q l n h

pub few_hubs : {x : Hub} {g q l n h : ℕ} → Room x g q l n h → g ≤ 32
few_hubs {x} r = omega (arith, tree.one_hub x, r.room.in_hubs, r.hub_up)

-- the first port, and the ports behind it
pub first_room : (x : Port) (y : Hub) (g q l n h : ℕ) → Room (port x y) g q l n h → RoomAt x g (q + 1) l n h
first_room x y g q l n h r =
    let first = tree.first_room q l n h x y r.room in
    record {
      hub_low = r.hub_low;
      hub_up = r.hub_up;
      port_low = omega arith;
      port_up = omega (arith, first.ports);
      room = subst (λ (i : ℕ). tree.PortRoom x i l n h) (let e : q ≡ q + 1 - 1 = omega arith in e) first;
    }

pub rest_room : (x : Port) (y : Hub) (g q l n h : ℕ) → Room (port x y) g q l n h → Room y g (q + 1) l (n + nodes_at x) (h + hubs_at x)
rest_room x y g q l n h r =
    record { hub_low = r.hub_low; hub_up = omega (arith, r.hub_up); room = tree.rest_room q l n h x y r.room }

-- the ports of the hub at a port
pub inner_room : (x : Hub) (g q l n h : ℕ) → RoomAt (hub x) g q l n h → Room x (h + 1) 0 (l + 1) n (h + 1)
inner_room x g q l n h r = record { hub_low = omega arith; hub_up = omega arith; room = tree.inner_room (q - 1) l n h x r.room }

-- the limits give the root its room
pub root_room : (x : Hub) → tree.HubRoom x 0 1 0 1 → Room x 1 0 1 0 1
root_room x room = record { hub_low = omega arith; hub_up = omega arith; room = room }
