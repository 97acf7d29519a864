-- How many nodes stand in line order above a port: a table over hubs and ports, computed from the tree, and how it runs along the tree.
use Prim.Native.Nat.{ℕ, ◌+◌, ◌≤◌, ◌<◌}
use mathlib.Core.Path.{◌≡◌, refl, ap, ◌∙◌}
use native.Mathlib.Omega.{arith}
use lib.Dec.{eqb, leb}
use borrow.Author.Tests.{eq-eqb, ne_eqb, le-leb, lt-leb}
use Rattle.std.specs.Prelude.{if◌then◌else◌}
use Rattle.plan_theory.specs.Tree.{Port, node, empty, hub, Hub, close, port, ports_of, nodes_at, nodes_in, hubs_at, hubs_in}
use Rattle.plan_theory.proofs.Tree.Room.{one_hub}

-- above port Q of hub G, where G is one of the hubs of a port behind n nodes and h hubs; or
-- it is hub g itself, of whose ports those behind q are left, or one of the hubs there
unfoldable mutual
  pub above_at : Port → ℕ → ℕ → ℕ → ℕ → ℕ
  above_at node n h G Q = n
  above_at empty n h G Q = n
  above_at (hub x) n h G Q = above_in x (h + 1) 0 n (h + 1) G Q

  pub above_in : Hub → ℕ → ℕ → ℕ → ℕ → ℕ → ℕ → ℕ
  above_in close g q n h G Q = n
  above_in (port x y) g q n h G Q =
      let rest = above_in y g (q + 1) (n + nodes_at x) (h + hubs_at x) G Q in
      if eqb G g then (if eqb Q (q + 1) then n else rest) else (if leb G (h + hubs_at x) then above_at x n h G Q else rest)

module _ (x : Port) (y : Hub) (g q n h : ℕ) where
  above_here : above_in (port x y) g q n h g (q + 1) ≡ n
  unfolding above_in
  above_here = simp (eq-eqb g g refl, eq-eqb (q + 1) (q + 1) refl)

  above_behind : (Q : ℕ) → q + 1 < Q → above_in (port x y) g q n h g Q ≡ above_in y g (q + 1) (n + nodes_at x) (h + hubs_at x) g Q
  unfolding above_in
  above_behind Q d = simp (eq-eqb g g refl, ne_eqb Q (q + 1) (λ e. omega arith))

  above_inside : (G Q : ℕ) → g ≤ h → h < G → G ≤ h + hubs_at x → above_in (port x y) g q n h G Q ≡ above_at x n h G Q
  unfolding above_in
  above_inside G Q u d e = simp (ne_eqb G g (λ f. omega arith), le-leb G (h + hubs_at x) e)

  above_beyond : (G Q : ℕ) → g ≤ h → h + hubs_at x < G → above_in (port x y) g q n h G Q ≡ above_in y g (q + 1) (n + nodes_at x) (h + hubs_at x) G Q
  unfolding above_in
  above_beyond G Q u d = simp (ne_eqb G g (λ f. omega arith), lt-leb G (h + hubs_at x) d)

-- a table runs along a part of the tree: n nodes stand above the first port behind port q of hub g, and so on to its end
unfoldable mutual
  pub PortRuns : Port → (ℕ → ℕ → ℕ) → ℕ → ℕ → Type 0
  PortRuns node above n h = Unit
  PortRuns empty above n h = Unit
  PortRuns (hub x) above n h = HubRuns x above (h + 1) 0 n (h + 1)

  pub HubRuns : Hub → (ℕ → ℕ → ℕ) → ℕ → ℕ → ℕ → ℕ → Type 0
  HubRuns close above g q n h = above g (q + 1) ≡ n
  HubRuns (port x y) above g q n h =
      (above g (q + 1) ≡ n) × PortRuns x above n h × HubRuns y above g (q + 1) (n + nodes_at x) (h + hubs_at x)

mutual
  unfolding above_at above_in PortRuns HubRuns hubs_at hubs_in

  runs_port : (x : Port) (above : ℕ → ℕ → ℕ) (n h : ℕ)
      → ((G Q : ℕ) → h < G → G ≤ h + hubs_at x → above G Q ≡ above_at x n h G Q) → PortRuns x above n h
  runs_port node above n h same = tt
  runs_port empty above n h same = tt
  runs_port (hub x) above n h same =
      runs_hub x above (h + 1) 0 n (h + 1) (omega arith) (λ Q d. same (h + 1) Q (omega arith) (omega (arith, one_hub x)))
      (λ G Q d e. same G Q (omega arith) (omega arith))

  runs_hub : (x : Hub) (above : ℕ → ℕ → ℕ) (g q n h : ℕ) → g ≤ h → ((Q : ℕ) → q < Q → above g Q ≡ above_in x g q n h g Q)
      → ((G Q : ℕ) → h < G → G < h + hubs_in x → above G Q ≡ above_in x g q n h G Q) → HubRuns x above g q n h
  runs_hub close above g q n h u own new = own (q + 1) (omega arith)
  runs_hub (port x y) above g q n h u own new = (
    own (q + 1) (omega arith) ∙ above_here x y g q n h,
    runs_port x above n h (λ G Q d e. new G Q d (omega (arith, one_hub y)) ∙ above_inside x y g q n h G Q u d e),
    runs_hub y above g (q + 1) (n + nodes_at x) (h + hubs_at x) (omega arith)
        (λ Q d. own Q (omega arith) ∙ above_behind x y g q n h Q d)
        (λ G Q d e. new G Q (omega arith) (omega arith) ∙ above_beyond x y g q n h G Q u d),
  )

-- the root's table
pub above : Hub → ℕ → ℕ → ℕ
above x G Q = above_in x 1 0 0 1 G Q

pub above_runs : (x : Hub) → HubRuns x (above x) 1 0 0 1
unfolding above
above_runs x = runs_hub x (above x) 1 0 0 1 (omega arith) (λ Q d. refl) (λ G Q d e. refl)

-- above the first port and behind the last
pub runs-first : (x : Hub) (above : ℕ → ℕ → ℕ) (g q n h : ℕ) → HubRuns x above g q n h → above g (q + 1) ≡ n
unfolding HubRuns
runs-first close above g q n h r = r
runs-first (port x y) above g q n h r = r.0

pub runs_last : (x : Hub) (above : ℕ → ℕ → ℕ) (g q n h : ℕ) → HubRuns x above g q n h → above g (q + ports_of x + 1) ≡ n + nodes_in x
unfolding HubRuns ports_of nodes_in
runs_last close above g q n h r =
    let e : q + 0 + 1 ≡ q + 1 = omega arith in
    ap (above g) e ∙ r ∙ omega arith
runs_last (port x y) above g q n h r =
    let e : q + (1 + ports_of y) + 1 ≡ q + 1 + ports_of y + 1 = omega arith in
    ap (above g) e ∙ runs_last y above g (q + 1) (n + nodes_at x) (h + hubs_at x) r.2 ∙ omega arith
