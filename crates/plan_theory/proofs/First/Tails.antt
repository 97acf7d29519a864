-- The plans that can be drawn from a line of a hub form on: for each open hub, from the inside out, what is still to come of it. What room
-- the limits leave for that, and that some of it always fits where no limit was passed. Assumes nothing.
use Prim.Native.Nat.{ℕ, zero, suc, ◌+◌, ◌-◌, ◌≤◌, ◌<◌}
use mathlib.Core.Path.{◌≡◌, refl, sym, subst}
use mathlib.Core.Bool.{true}
use mathlib.Core.Logic.{◌↔◌}
use mathlib.Core.List.{List, [], ◌∷◌}
use native.Mathlib.Omega.{arith}
use lib.ListN.{length}
use Rattle.rules.specs.Plan.{most_hubs, most_ports, most_nodes, most_levels}
use Rattle.text.specs.Line.{Lines}
use Rattle.plan.specs.Tables.{Figures}
use Rattle.plan.specs.Reading.{Open, Progress, one_more}
use Rattle.plan_theory.specs.Tree.{Port, empty, hub, Hub, close, port, draw_hub, ports_of, nodes_at, nodes_in, hubs_at, hubs_in, levels_at, levels_in, widths_at, widths_in, good_figures, good_framing}
use Rattle.plan_theory.specs.Behind.{lines_in}
use Rattle.plan_theory.proofs.Tree.Room.{HubRoom, first_room, rest_room, join_room, inner_room, outer_room, one_hub, one_level}
use Rattle.plan_theory.proofs.First.Places.{Plans}

-- what is still to come of each open hub
abbrev pub Tails : List Open → Type 0
Tails [] = Unit {0}
Tails (o ∷ os) = Hub × Tails os

abbrev pub draw_tails : (os : List Open) → Tails os → Lines → Lines
draw_tails [] w r = r
draw_tails (o ∷ os) w r = draw_hub w.0 (draw_tails os w.1 r)

abbrev pub nodes_tails : (os : List Open) → Tails os → ℕ
nodes_tails [] w = 0
nodes_tails (o ∷ os) w = nodes_in w.0 + nodes_tails os w.1

abbrev pub lines_tails : (os : List Open) → Tails os → ℕ
lines_tails [] w = 0
lines_tails (o ∷ os) w = lines_in w.0 + lines_tails os w.1

-- it fits, behind n nodes and h hubs
abbrev pub RoomTails : (os : List Open) → Tails os → ℕ → ℕ → Type 0
RoomTails [] w n h = Unit {0}
RoomTails (o ∷ os) w n h =
    HubRoom w.0 o.ports (length os + 1) n h × RoomTails os w.1 (n + nodes_in w.0) (h + hubs_in w.0 - 1)

pub room_same : (os : List Open) (w : Tails os) (n m h g : ℕ) → n ≡ m → h ≡ g → RoomTails os w n h → RoomTails os w m g
room_same os w n m h g a b r = subst (λ (i : ℕ). RoomTails os w m i) b (subst (λ (i : ℕ). RoomTails os w i h) a r)

-- the plans at a state of the reading
abbrev pub HubPlans : Figures → Progress → Plans
HubPlans fig s =
    record {
      What = Tails (s.inner ∷ s.outer);
      drawn = λ w r. draw_tails (s.inner ∷ s.outer) w r;
      framed = λ w. good_framing fig ≡ true;
      good = λ w. good_figures fig ≡ true;
      fits = λ w. RoomTails (s.inner ∷ s.outer) w s.nodes s.hubs;
      size = λ w. lines_tails (s.inner ∷ s.outer) w;
      nodes = λ w. s.nodes + nodes_tails (s.inner ∷ s.outer) w;
    }

-- no limit was passed so far
abbrev pub Ported : List Open → Type 0
Ported [] = Unit {0}
Ported (o ∷ os) = (1 ≤ o.ports) × (o.ports ≤ most_ports) × Ported os

pub record Able (s : Progress) : Type 0 where
  pub ports : s.inner.ports ≤ most_ports
  pub nodes : s.nodes ≤ most_nodes
  pub hubs : s.hubs ≤ most_hubs
  pub levels : length s.outer < most_levels
  pub around : Ported s.outer

-- then it fits to close every open hub, the inner one behind an empty port
abbrev pub closing : (os : List Open) → Tails os
closing [] = tt
closing (o ∷ os) = (close, closing os)

closing_room : (os : List Open) (n h : ℕ) → n ≤ most_nodes → h ≤ most_hubs → length os ≤ most_levels → Ported os → RoomTails os (closing os) n h
unfolding ports_of nodes_in hubs_in levels_in widths_in
closing_room [] n h a b c p = tt
closing_room (o ∷ os) n h a b c p = (
  record {
    some = omega arith;
    ports = omega arith;
    in_nodes = omega arith;
    in_hubs = omega arith;
    in_levels = omega arith;
    in_widths = refl;
  },
  closing_room os (n + 0) (h + 1 - 1) (omega arith) (omega arith) (omega arith) p.2,
)

abbrev pub least : ℕ → Hub
least zero = port empty close
least (suc q) = close

least_room : (q l n h : ℕ) → q ≤ most_ports → n ≤ most_nodes → h ≤ most_hubs → l ≤ most_levels → HubRoom (least q) q l n h
unfolding ports_of nodes_in nodes_at hubs_in hubs_at levels_in levels_at widths_in widths_at
least_room zero l n h a b c d =
    record { some = omega arith; ports = omega arith; in_nodes = omega arith; in_hubs = omega arith; in_levels = omega arith; in_widths = refl }
least_room (suc q) l n h a b c d =
    record { some = omega arith; ports = omega arith; in_nodes = omega arith; in_hubs = omega arith; in_levels = omega arith; in_widths = refl }

least_nodes : (q : ℕ) → nodes_in (least q) ≡ 0
unfolding nodes_in nodes_at
least_nodes zero = refl
least_nodes (suc q) = refl

least_hubs : (q : ℕ) → hubs_in (least q) ≡ 1
unfolding hubs_in hubs_at
least_hubs zero = refl
least_hubs (suc q) = refl

pub able_plan : (s : Progress) → Tails (s.inner ∷ s.outer)
able_plan s = (least s.inner.ports, closing s.outer)

pub able_room : (s : Progress) → Able s → RoomTails (s.inner ∷ s.outer) (able_plan s) s.nodes s.hubs
unfolding able_plan
able_room s a =
    let q : ℕ = s.inner.ports in (
      least_room q (length s.outer + 1) s.nodes s.hubs a.ports a.nodes a.hubs (omega (arith, a.levels)),
      closing_room s.outer (s.nodes + nodes_in (least q)) (s.hubs + hubs_in (least q) - 1) (omega (arith, least_nodes q, a.nodes))
          (omega (arith, least_hubs q, a.hubs)) (omega (arith, a.levels)) a.around,
    )

same_hub : (t : Hub) (q l m n h g : ℕ) → l ≡ m → h ≡ g → HubRoom t q l n h → HubRoom t q m n g
same_hub t q l m n h g a b r = rw (← a, ← b) r

-- What is behind a line that passes no limit fits just where it fits with the line before it. The hub being read is o, of level
-- l, inside the hubs os, behind n nodes and h hubs.
module _ (o : Open) (os : List Open) (n h : ℕ) (t : Hub) (ts : Tails os) where
  abbrev l : ℕ
  l = length os + 1

  -- a node, or an empty port
  pub leaf_room : (x : Port) (m : ℕ) → n + nodes_at x ≡ m → hubs_at x ≡ 0 → levels_at x ≡ 0 → widths_at x ≡ true → o.ports < most_ports → m ≤ most_nodes
      → RoomTails (o ∷ os) (port x t, ts) n h ↔ RoomTails (one_more o ∷ os) (t, ts) m h
  unfolding nodes_in hubs_in
  leaf_room x m e g d w p q =
      let hubs : h + hubs_at x ≡ h = omega arith in (
        λ r. (
          rw (← e, ← hubs) (rest_room o.ports l n h x t r.0),
          room_same os ts _ _ _ _ (omega arith) (omega arith) r.1,
        ),
        λ r. (
          join_room o.ports l n h x t
              (record {
                ports = p;
                at_nodes = omega arith;
                at_hubs = omega (arith, r.0.in_hubs, one_hub t);
                at_levels = omega (arith, r.0.in_levels, one_level t);
                at_widths = w;
              })
              (rw (e, hubs) r.0),
          room_same os ts _ _ _ _ (omega arith) (omega arith) r.1,
        ),
      )

  -- a hub at the next port, from its ports on
  pub hub_room : (k : Hub) (g : ℕ) → o.ports < most_ports
      → RoomTails (o ∷ os) (port (hub k) t, ts) n h
      ↔ RoomTails (record { hub = g; ports = 0 } ∷ one_more o ∷ os) (k, (t, ts)) n (h + 1)
  unfolding nodes_in nodes_at hubs_in hubs_at
  hub_room k g p =
      let one = one_hub k in
      let deeper : l + 1 ≡ length (one_more o ∷ os) + 1 = omega arith in
      let hubs : h + hubs_in k ≡ h + 1 + hubs_in k - 1 = omega arith in (
        λ r. (
          same_hub k 0 _ _ n (h + 1) (h + 1) deeper refl (inner_room o.ports l n h k (first_room o.ports l n h (hub k) t r.0)),
          (
            same_hub t (o.ports + 1) l l (n + nodes_in k) _ _ refl hubs (rest_room o.ports l n h (hub k) t r.0),
            room_same os ts _ _ _ _ (omega arith) (omega (arith, one, one_hub t)) r.1,
          ),
        ),
        λ r. (
          join_room o.ports l n h (hub k) t
              (outer_room o.ports l n h k p (same_hub k 0 _ _ n (h + 1) (h + 1) (sym deeper) refl r.0))
              (same_hub t (o.ports + 1) l l (n + nodes_in k) _ _ refl (sym hubs) r.1.0),
          room_same os ts _ _ _ _ (omega arith) (omega (arith, one, one_hub t)) r.1.1,
        ),
      )

  -- the line that closes a hub inside hub o
  pub close_room : (i : Open) → 1 ≤ i.ports → i.ports ≤ most_ports → length os + 1 < most_levels → n ≤ most_nodes → h ≤ most_hubs
      → RoomTails (i ∷ o ∷ os) (close, (t, ts)) n h ↔ RoomTails (o ∷ os) (t, ts) n h
  unfolding ports_of nodes_in hubs_in levels_in widths_in
  close_room i some ports deep few small =
      let nodes : n + 0 ≡ n = omega arith in
      let hubs : h + 1 - 1 ≡ h = omega arith in (
        λ r. room_same (o ∷ os) (t, ts) _ _ _ _ nodes hubs r.1,
        λ r. (
          record { some = omega arith; ports = omega arith; in_nodes = omega arith; in_hubs = omega arith; in_levels = omega arith; in_widths = refl },
          room_same (o ∷ os) (t, ts) _ _ _ _ (sym nodes) (sym hubs) r,
        ),
      )
