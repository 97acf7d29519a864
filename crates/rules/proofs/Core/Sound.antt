-- What holds of the core at every place of a run (`Sound`), and how the words of demand 3 read it
-- off the calls and answers (`Told`). Statements only: the proofs stand in files of their own.
use Prim.Native.Nat.{ℕ, ◌+◌, ◌≤◌, ◌<◌}
use mathlib.Core.Path.{◌≡◌}
use mathlib.Core.List.{List, []}
use lib.ListN.{length}
use Rattle.rules.specs.Plan.{Plan, shortest, longest}
use Rattle.rules.specs.Call.{Class, high}
use Rattle.rules.specs.Core.{Core, standing, busy, frame_of}
use Rattle.rules.specs.Drawn.{Within}
use Rattle.rules.specs.Rows.{loads}
use Rattle.rules.specs.Run.{Entry}
use Rattle.rules.specs.Words.{clock_at, reserved, High, high_grants}

-- a standing high request is one that its node's reservation in force allows
pub record Allowed (s : Core) (k b : ℕ) : Type 0 where
  pub some : 1 ≤ (s.force k).packets
  pub fits : b ≤ (s.force k).bits

pub record Sound (p : Plan) (s : Core) : Type 0 where
  -- admission keeps its promise
  pub latest_fits : p.interrupt + loads p s.latest ≤ p.frame
  pub force_fits : p.interrupt + loads p s.force ≤ p.frame
  -- no node has more high grants in the frame than n
  pub spent : (k : ℕ) → s.granted k ≤ (s.force k).packets
  pub allowed : (k b : ℕ) → s.request k ≡ standing high b → Allowed s k b
  -- only nodes 1 to N have a request, and its length is in range
  pub node : (k b : ℕ) (c : Class) → s.request k ≡ standing c b → Within p.nodes k
  pub short : (k b : ℕ) (c : Class) → s.request k ≡ standing c b → shortest p ≤ b
  pub long : (k b : ℕ) (c : Class) → s.request k ≡ standing c b → b ≤ longest p
  -- the end of a busy line is not before the clock, and at most one packet behind it
  pub end_late : (e : ℕ) → s.line ≡ busy e → s.clock ≤ e
  pub end_soon : (e : ℕ) → s.line ≡ busy e → e ≤ s.clock + longest p + p.overhead

pub record Told (p : Plan) (past : List Entry) (s : Core) : Type 0 where
  pub clock : clock_at past ≡ s.clock
  -- what is reserved in the clock's frame is in force, and in each later frame it is the latest accepted
  pub force : (k : ℕ) → reserved p k (frame_of p s.clock) past ≡ s.force k
  pub latest : (k f : ℕ) → frame_of p s.clock < f → reserved p k f past ≡ s.latest k
  -- a request that is high by the words is high in the core
  pub high : (k : ℕ) (h : High p k past) → s.request k ≡ standing high h.length
  -- high grants are counted by the core in the clock's frame, and there are none in a later one
  pub granted : (k : ℕ) → length (high_grants p k (frame_of p s.clock) past) ≡ s.granted k
  pub none-later : (k f : ℕ) → frame_of p s.clock < f → high_grants p k f past ≡ []
