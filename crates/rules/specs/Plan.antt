-- "The plan": its figures and its tree of hubs, as tables. Nodes, hubs and ports are numbered from 1; hub 1 is the root.
use Rattle.std.specs.Prelude.{ℕ, zero, suc, max, Bool, eqb, if◌then◌else◌}

pub data Port : Type 0 where
  node : ℕ → Port
  empty : Port
  hub : ℕ → Port

pub record Plan : Type 0 where
  -- T, the time frame
  pub frame : ℕ
  -- O, the overhead of one packet
  pub overhead : ℕ
  -- D, the longest time that a packet in progress can hold the line
  pub interrupt : ℕ
  -- the framing of its packets: 5 for token ring's, 3 for Ethernet's
  pub framing : ℕ
  -- whether a high request of a node with nothing reserved in force is refused; else it is taken as a normal one
  pub strict : Bool
  -- N and H, how many nodes and hubs there are
  pub nodes : ℕ
  pub hubs : ℕ
  -- how many ports hub g has, and what stands at port q of hub g
  pub ports : ℕ → ℕ
  pub port : ℕ → ℕ → Port
  -- the hub above hub g, the port of that hub at which g stands, and g's level; the root's level is 1
  pub parent : ℕ → ℕ
  pub place : ℕ → ℕ
  pub level : ℕ → ℕ

-- the limits of document 01, and the bounds of a packet's length in bits
abbrev pub most_hubs : ℕ
most_hubs = 32

abbrev pub most_ports : ℕ
most_ports = 32

abbrev pub most_nodes : ℕ
most_nodes = 256

abbrev pub most_levels : ℕ
most_levels = 5

abbrev pub shortest : Plan → ℕ
shortest p = 512

-- the longest packet by its framing, in bits: 4,500 bytes with 5, 1,500 bytes with 3;
-- any other number, which no plan that was read has, counts as 3
abbrev pub longest_in : ℕ → ℕ
longest_in framing = if eqb framing 5 then 36000 else 12000

abbrev pub longest : Plan → ℕ
longest p = longest_in p.framing

-- a plan with the line `(strict)` and without it, and else the same
abbrev pub with_strict : Bool → Plan → Plan
with_strict strict p =
    record {
      frame = p.frame;
      overhead = p.overhead;
      interrupt = p.interrupt;
      framing = p.framing;
      strict = strict;
      nodes = p.nodes;
      hubs = p.hubs;
      ports = p.ports;
      port = p.port;
      parent = p.parent;
      place = p.place;
      level = p.level;
    }

-- L, the number of levels: the greatest level among hubs 1 to H
unfoldable pub deepest : ℕ → (ℕ → ℕ) → ℕ
deepest zero level = 0
deepest (suc h) level = max (deepest h level) (level (suc h))

abbrev pub levels : Plan → ℕ
levels p = deepest p.hubs p.level
