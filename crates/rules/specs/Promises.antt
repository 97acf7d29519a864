-- What the hub promises at every place of a run: no time is lost, admission
-- keeps what it granted, and an event is taken exactly where it is acceptable.
use Rattle.std.specs.Prelude.{ℕ, ◌+◌, ◌*◌, ◌≤◌, ◌<◌, ◌≡◌, Bool, true, false, List}
use Rattle.rules.specs.Choice.{put, any}
use Rattle.rules.specs.Plan.{Plan, shortest, longest}
use Rattle.rules.specs.Call.{Class, high, Call, ask, off, reserve, until, step, Answer, grant, rest, quiet}
use Rattle.rules.specs.Core.{Core, Share, resting, busy, frame_of, advance, counts_in, counts, held, at, due, before}
use Rattle.rules.specs.Drawn.{Within}
use Rattle.rules.specs.Rows.{last_time, loads}
use Rattle.rules.specs.Machine.{Machine, Hub, perform}
use Rattle.rules.specs.Run.{Entry}
use Rattle.rules.specs.Words.{reserved}

-- an answer that grants at s a node of 1 to N whose request counts, in the class granted, once the clock has come to s
pub data GrantsAt (p : Plan) (core : Core) (s : ℕ) : Answer → Type 0 where
  grants : (k : ℕ) (c : Class) (end moves : ℕ) → Within p.nodes k → counts_in c (advance p s core) k ≡ true
      → GrantsAt p core s (grant s k c end moves)

-- an answer that rests at s
pub data RestsAt (s : ℕ) : Answer → Type 0 where
  rests : (moves : ℕ) → RestsAt s (rest s moves)

-- some request counts, or some is held
abbrev pub some_counts : Plan → Core → Bool
some_counts p s = any p.nodes (counts s)

abbrev pub some_held : Plan → Core → Bool
some_held p s = any p.nodes (held s)

module _ (p : Plan) (M : Machine) where
  -- the answer of a step with bound t
  abbrev pub step_answer : Hub M.State → ℕ → Answer
  step_answer h t = (perform p M (step t) h).answer

  pub record NoTimeLost (h : Hub M.State) : Type 0 where
    -- the line rests and a request counts: the next step that may handle the clock's instant grants
    pub at_once : h.core.line ≡ resting → some_counts p h.core ≡ true
        → (t : ℕ) → h.core.clock < t → t ≤ last_time → GrantsAt p h.core h.core.clock (step_answer h t)
    -- the line rests, none counts and one is held: the next frame's start leads to a grant
    pub at_start : h.core.line ≡ resting → some_counts p h.core ≡ false → some_held p h.core ≡ true
        → (t : ℕ) → (frame_of p h.core.clock + 1) * p.frame < t → t ≤ last_time
        → GrantsAt p h.core ((frame_of p h.core.clock + 1) * p.frame) (step_answer h t)
    -- a busy line ends: a grant if a request counts there, else a rest
    pub at_end : (e : ℕ) → h.core.line ≡ busy e → (t : ℕ) → e < t → t ≤ last_time → some_counts p (advance p e h.core) ≡ true
        → GrantsAt p h.core e (step_answer h t)
    pub at_idle_end : (e : ℕ) → h.core.line ≡ busy e → (t : ℕ) → e < t → t ≤ last_time → some_counts p (advance p e h.core) ≡ false
        → RestsAt e (step_answer h t)
    -- a rest is answered only where a busy line ends and nothing counts
    pub rest_only : (t s moves : ℕ) → step_answer h t ≡ rest s moves → (h.core.line ≡ busy s) × (some_counts p (advance p s h.core) ≡ false)
    -- quiet is answered where no instant is due before the bound, and only there
    pub quiet_only : (t : ℕ) → step_answer h t ≡ quiet → before (due p h.core) t ≡ false
    pub quiet_there : (t : ℕ) → h.core.clock ≤ t → t ≤ last_time → before (due p h.core) t ≡ false → step_answer h t ≡ quiet

-- D plus the sum of n × c over all nodes is at most T
abbrev pub Holds : Plan → ℕ → Type 0
Holds p load = p.interrupt + load ≤ p.frame

-- by the latest accepted reservations, by those in force, and by those of every frame as the calls and answers tell them
pub record Admits (p : Plan) (past : List Entry) (s : Core) : Type 0 where
  pub latest : Holds p (loads p s.latest)
  pub force : Holds p (loads p s.force)
  pub frame : (f : ℕ) → Holds p (loads p (λ k. reserved p k f past))

-- a time that an event may have: at most 10^15, not before the clock, and no instant is due strictly before it
pub record OnTime (p : Plan) (s : Core) (t : ℕ) : Type 0 where
  pub soon : t ≤ last_time
  pub late : s.clock ≤ t
  pub not_due : (d : ℕ) → due p s ≡ at d → t ≤ d

-- what the reservation r in force asks of a high request: where n is at least 1, b is at most its b; and in a strict plan n is at least 1
pub record Allows (p : Plan) (r : Share) (c : Class) (b : ℕ) : Type 0 where
  pub fits : c ≡ high → 1 ≤ r.packets → b ≤ r.bits
  pub some : c ≡ high → p.strict ≡ true → 1 ≤ r.packets

-- a normal or high request of a node of the plan, with its length in range, that the reservation in force at t allows
pub record Askable (p : Plan) (s : Core) (c : Class) (t k b : ℕ) : Type 0 where
  pub time : OnTime p s t
  pub node : Within p.nodes k
  pub short : shortest p ≤ b
  pub long : b ≤ longest p
  pub share : Allows p ((advance p t s).force k) c b

-- the length of a reserve is in range: with n = 0 instead it is 0
pub data InRange (p : Plan) : ℕ → ℕ → Type 0 where
  given_up : InRange p 0 0
  packets : (n b : ℕ) → 1 ≤ n → shortest p ≤ b → b ≤ longest p → InRange p n b

-- a reserve of a node of the plan, with n and b in range, that the frame can hold
pub record Holdable (p : Plan) (s : Core) (t k n b : ℕ) : Type 0 where
  pub time : OnTime p s t
  pub node : Within p.nodes k
  pub few : n ≤ 64
  pub range : InRange p n b
  pub holds : Holds p (loads p (put s.latest k (record { packets = n; bits = b })))

-- an event that no row speaks against. It is taken, and no other is
pub data Acceptable (p : Plan) (s : Core) : Call → Type 0 where
  asks : (c : Class) (t k b : ℕ) → Askable p s c t k b → Acceptable p s (ask c t k b)
  leaves : (t k : ℕ) → OnTime p s t → Within p.nodes k → Acceptable p s (off t k)
  reserves : (t k n b : ℕ) → Holdable p s t k n b → Acceptable p s (reserve t k n b)
  waits : (t : ℕ) → OnTime p s t → Acceptable p s (until t)
