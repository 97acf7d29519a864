-- The room that a tree's limits leave, port by port: what may still stand in a hub that has q
-- ports so far and is of level l, with so many nodes and hubs before it. Assumes nothing.
use Prim.Native.Nat.{ℕ, ◌+◌, ◌≤◌, ◌<◌}
use mathlib.Core.Path.{◌≡◌}
use mathlib.Core.Bool.{Bool, true, ◌&&◌}
use native.Mathlib.Omega.{arith}
use borrow.Author.Tests.{leb-true, le-leb}
use lib.Dec.{leb}
use Rattle.rules.specs.Plan.{most_hubs, most_ports, most_nodes, most_levels}
use Rattle.text.proofs.Words.{both}
use Rattle.plan_theory.specs.Tree.{Port, hub, Hub, close, port, ports_of, nodes_at, nodes_in, hubs_at, hubs_in, levels_at, levels_in, wide, widths_at, widths_in, fits, limits}

pub and-true : (a b : Bool) → a ≡ true → b ≡ true → (a && b) ≡ true
and-true a b p q = rw (p, q)

-- port q + 1 of a hub may be x
pub record PortRoom (x : Port) (q l nodes hubs : ℕ) : Type 0 where
  pub ports : q < most_ports
  pub at_nodes : nodes + nodes_at x ≤ most_nodes
  pub at_hubs : hubs + hubs_at x ≤ most_hubs
  pub at_levels : l + levels_at x ≤ most_levels
  pub at_widths : widths_at x ≡ true

-- the ports behind port q of a hub may be those of h; the hub itself is counted among the hubs before
pub record HubRoom (h : Hub) (q l nodes hubs : ℕ) : Type 0 where
  pub some : 1 ≤ q + ports_of h
  pub ports : q + ports_of h ≤ most_ports
  pub in_nodes : nodes + nodes_in h ≤ most_nodes
  pub in_hubs : hubs + hubs_in h ≤ most_hubs + 1
  pub in_levels : l + levels_in h ≤ most_levels + 1
  pub in_widths : widths_in h ≡ true

-- a hub is one hub and one level at least
pub one_hub : (h : Hub) → 1 ≤ hubs_in h
unfolding hubs_in
one_hub close = omega arith
one_hub (port x h) = omega (arith, one_hub h)

pub one_level : (h : Hub) → 1 ≤ levels_in h
unfolding levels_in
one_level close = omega arith
one_level (port x h) = omega (arith, one_level h)

module _ (q l nodes hubs : ℕ) where
  pub first_room : (x : Port) (h : Hub) → HubRoom (port x h) q l nodes hubs → PortRoom x q l nodes hubs
  unfolding ports_of nodes_in hubs_in levels_in widths_in
  first_room x h r =
      record {
        ports = omega (arith, r.ports);
        at_nodes = omega (arith, r.in_nodes);
        at_hubs = omega (arith, r.in_hubs, one_hub h);
        at_levels = omega (arith, r.in_levels);
        at_widths = (both (widths_at x) (widths_in h) r.in_widths).0;
      }

  pub rest_room : (x : Port) (h : Hub) → HubRoom (port x h) q l nodes hubs → HubRoom h (q + 1) l (nodes + nodes_at x) (hubs + hubs_at x)
  unfolding ports_of nodes_in hubs_in levels_in widths_in
  rest_room x h r =
      record {
        some = omega arith;
        ports = omega (arith, r.ports);
        in_nodes = omega (arith, r.in_nodes);
        in_hubs = omega (arith, r.in_hubs);
        in_levels = omega (arith, r.in_levels);
        in_widths = (both (widths_at x) (widths_in h) r.in_widths).1;
      }

  pub join_room : (x : Port) (h : Hub) → PortRoom x q l nodes hubs → HubRoom h (q + 1) l (nodes + nodes_at x) (hubs + hubs_at x)
      → HubRoom (port x h) q l nodes hubs
  unfolding ports_of nodes_in hubs_in levels_in widths_in
  join_room x h p r =
      record {
        some = omega arith;
        ports = omega (arith, r.ports);
        in_nodes = omega (arith, r.in_nodes);
        in_hubs = omega (arith, r.in_hubs);
        in_levels = omega (arith, r.in_levels, p.at_levels);
        in_widths = and-true (widths_at x) (widths_in h) p.at_widths r.in_widths;
      }

  -- the hub at a port is one hub more and a level deeper, with no port yet
  pub inner_room : (h : Hub) → PortRoom (hub h) q l nodes hubs → HubRoom h 0 (l + 1) nodes (hubs + 1)
  unfolding nodes_at hubs_at levels_at widths_at
  inner_room h r =
      let w = both (wide h) (widths_in h) r.at_widths in
      let n = both (leb 1 (ports_of h)) (leb (ports_of h) most_ports) w.0 in
      record {
        some = omega (arith, leb-true 1 (ports_of h) n.0);
        ports = omega (arith, leb-true (ports_of h) most_ports n.1);
        in_nodes = r.at_nodes;
        in_hubs = omega (arith, r.at_hubs);
        in_levels = omega (arith, r.at_levels);
        in_widths = w.1;
      }

  pub outer_room : (h : Hub) → q < most_ports → HubRoom h 0 (l + 1) nodes (hubs + 1) → PortRoom (hub h) q l nodes hubs
  unfolding nodes_at hubs_at levels_at widths_at
  outer_room h ports r =
      record {
        ports = ports;
        at_nodes = r.in_nodes;
        at_hubs = omega (arith, r.in_hubs);
        at_levels = omega (arith, r.in_levels);
        at_widths =
            and-true (wide h) (widths_in h)
            (and-true (leb 1 (ports_of h)) (leb (ports_of h) most_ports)
            (le-leb 1 (ports_of h) (omega (arith, r.some)))
            (le-leb (ports_of h) most_ports (omega (arith, r.ports))))
            r.in_widths;
      }

-- that a whole tree fits is the room of its root
pub room_fits : (h : Hub) → HubRoom h 0 1 0 1 → fits h ≡ true
unfolding fits
room_fits h r =
    rw (
      le-leb 1 (ports_of h) (omega (arith, r.some)),
      le-leb (ports_of h) most_ports (omega (arith, r.ports)),
      r.in_widths,
      le-leb (hubs_in h) most_hubs (omega (arith, r.in_hubs)),
      le-leb (nodes_in h) most_nodes (omega (arith, r.in_nodes)),
      le-leb (levels_in h) most_levels (omega (arith, r.in_levels)),
    )

pub fits_room : (h : Hub) → fits h ≡ true → HubRoom h 0 1 0 1
unfolding fits
fits_room h e =
    let l = both (wide h && widths_in h && leb (hubs_in h) most_hubs && leb (nodes_in h) most_nodes) (leb (levels_in h) most_levels) e in
    let n = both (wide h && widths_in h && leb (hubs_in h) most_hubs) (leb (nodes_in h) most_nodes) l.0 in
    let g = both (wide h && widths_in h) (leb (hubs_in h) most_hubs) n.0 in
    let w = both (wide h) (widths_in h) g.0 in
    let p = both (leb 1 (ports_of h)) (leb (ports_of h) most_ports) w.0 in
    record {
      some = omega (arith, leb-true 1 (ports_of h) p.0);
      ports = omega (arith, leb-true (ports_of h) most_ports p.1);
      in_nodes = omega (arith, leb-true (nodes_in h) most_nodes n.1);
      in_hubs = omega (arith, leb-true (hubs_in h) most_hubs g.1);
      in_levels = omega (arith, leb-true (levels_in h) most_levels l.1);
      in_widths = w.1;
    }

-- and its limits are this and a node
pub room_limits : (h : Hub) → HubRoom h 0 1 0 1 → 1 ≤ nodes_in h → limits h ≡ true
unfolding limits
room_limits h r n = and-true (fits h) (leb 1 (nodes_in h)) (room_fits h r) (le-leb 1 (nodes_in h) n)

pub limits_room : (h : Hub) → limits h ≡ true → HubRoom h 0 1 0 1 × (1 ≤ nodes_in h)
unfolding limits
limits_room h e =
    let l = both (fits h) (leb 1 (nodes_in h)) e in
    (fits_room h l.0, leb-true 1 (nodes_in h) l.1)
