-- What holds of the tables of every plan that is taken: its figures and
-- its drawing, in line order. The theorems ask nothing else of a plan.
use Rattle.std.specs.Prelude.{ℕ, ◌+◌, ◌≤◌, ◌<◌, ◌≡◌}
use Rattle.rules.specs.Plan.{Plan, Port, node, empty, hub, longest, most_hubs, most_ports, most_nodes, most_levels}

-- a number of 1 to n
pub record Within (n k : ℕ) : Type 0 where
  pub low : 1 ≤ k
  pub up : k ≤ n

-- T, O and D in their ranges
pub record Figures (p : Plan) : Type 0 where
  pub frame_low : 100000 ≤ p.frame
  pub frame_up : p.frame ≤ 4000000
  pub overhead_up : p.overhead ≤ 50000
  pub interrupt_low : longest p + p.overhead ≤ p.interrupt
  pub interrupt_up : p.interrupt ≤ p.frame

-- hub h stands at port q of hub g
pub record Hung (p : Plan) (g q h : ℕ) : Type 0 where
  pub number : Within p.hubs h
  pub below : g < h
  pub parent : p.parent h ≡ g
  pub place : p.place h ≡ q
  pub level : p.level h ≡ p.level g + 1

-- `above g q` nodes stand in line order above port q of hub g. What port q adds: a node
-- is the next number, an empty port adds none, and a hub's own ports go on from there
abbrev pub Covers : Plan → (ℕ → ℕ → ℕ) → ℕ → ℕ → Port → Type 0
Covers p above g q (node k) = (k ≡ above g q + 1) × (above g (q + 1) ≡ above g q + 1)
Covers p above g q empty = above g (q + 1) ≡ above g q
Covers p above g q (hub h) = Hung p g q h × (above h 1 ≡ above g q) × (above g (q + 1) ≡ above h (p.ports h + 1))

pub record Drawn (p : Plan) : Type 0 where
  pub figures : Figures p
  pub some_node : 1 ≤ p.nodes
  pub few_nodes : p.nodes ≤ most_nodes
  pub some_hub : 1 ≤ p.hubs
  pub few_hubs : p.hubs ≤ most_hubs
  pub some_port : (g : ℕ) → Within p.hubs g → 1 ≤ p.ports g
  pub few_ports : (g : ℕ) → Within p.hubs g → p.ports g ≤ most_ports
  pub few_levels : (g : ℕ) → Within p.hubs g → p.level g ≤ most_levels
  pub root_level : p.level 1 ≡ 1
  -- the ports of each hub cover consecutive intervals of nodes, and the root covers them all
  pub above : ℕ → ℕ → ℕ
  pub root_first : above 1 1 ≡ 0
  pub root_last : above 1 (p.ports 1 + 1) ≡ p.nodes
  pub covers : (g q : ℕ) → Within p.hubs g → Within (p.ports g) q → Covers p above g q (p.port g q)
  -- each hub but the root stands at the port of its parent that the tables name
  pub hung_parent : (h : ℕ) → 2 ≤ h → h ≤ p.hubs → Within p.hubs (p.parent h)
  pub hung_place : (h : ℕ) → 2 ≤ h → h ≤ p.hubs → Within (p.ports (p.parent h)) (p.place h)
  pub hung_port : (h : ℕ) → 2 ≤ h → h ≤ p.hubs → p.port (p.parent h) (p.place h) ≡ hub h
