-- While a high request stands, an instant is due; and while it counts, class high is sought.
use Prim.Native.Nat.{ℕ, ◌<◌}
use mathlib.Core.Path.{◌≡◌}
use mathlib.Core.Bool.{true, false}
use native.Mathlib.Omega.{arith}
use borrow.Author.Tests.{lt-ltb, ltb-false}
use Rattle.rules.specs.Choice.{any}
use Rattle.rules.specs.Plan.{Plan}
use Rattle.rules.specs.Drawn.{Within}
use Rattle.rules.specs.Call.{normal, high}
use Rattle.rules.specs.Core.{Core, standing, share_left, counts_in, counts, held, at, due, before, class, sought}
use Rattle.rules.proofs.Laws.Passes.{true-false, or-none, or_right, any_intro, any_none}

-- k's request stands, high
pub record Standing (s : Core) (k : ℕ) : Type 0 where
  pub bits : ℕ
  pub stands : s.request k ≡ standing high bits

pub high_counts : (s : Core) (k : ℕ) → Standing s k → s.granted k < (s.force k).packets → counts_in high s k ≡ true
unfolding counts_in
high_counts s k h l = rw (h.stands, lt-ltb (s.granted k) (s.force k).packets l)

module _ (p : Plan) (s : Core) (k : ℕ) (w : Within p.nodes k) where
  pub sought_high : counts_in high s k ≡ true → sought p s ≡ class high
  unfolding sought
  sought_high e = rw (any_intro p.nodes (counts_in high s) (record { number = k; within = w; holds = e }))

  pub some_counts_lem : counts_in high s k ≡ true → any p.nodes (counts s) ≡ true
  unfolding counts
  some_counts_lem h =
      any_intro p.nodes (counts s) (record { number = k; within = w; holds = or_right (counts_in normal s k) (counts_in high s k) h })

  -- a high request that does not count is held
  pub counts-or-held : Standing s k → any p.nodes (counts s) ≡ false → any p.nodes (held s) ≡ false → ⊥
  unfolding counts held counts_in
  counts-or-held h nobody no_held =
      let apart = (or-none (counts_in normal s k) (counts_in high s k) (any_none p.nodes (counts s) nobody k w)).1 in
      let spent : share_left s k ≡ false = rw h.stands at apart in
      let kept : held s k ≡ true = rw (h.stands, spent) in
      true-false kept (any_none p.nodes (held s) no_held k w)

-- an instant is due before b
pub record DueBefore (p : Plan) (s : Core) (b : ℕ) : Type 0 where
  pub time : ℕ
  pub is : due p s ≡ at time
  pub soon : time < b

-- so an event is taken, and a step is quiet, only with a time before b; and an instant that is handled lies before b
pub not_behind : (p : Plan) (s : Core) (b t : ℕ) → DueBefore p s b → before (due p s) t ≡ false → t < b
not_behind p s b t d e =
    let q : before (at d.time) t ≡ false = rw d.is at e in
    omega (arith, ltb-false d.time t q, d.soon)

pub handled_before : (p : Plan) (s : Core) (b t : ℕ) → DueBefore p s b → due p s ≡ at t → t < b
handled_before p s b t d e =
    let q = d.is in
    let same : d.time ≡ t = cc in
    omega (arith, d.soon)
