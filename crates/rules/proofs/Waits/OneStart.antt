-- One move of the clock crosses at most one frame's start while a request stands: no call takes the clock beyond the due instant,
-- and one is due by the next frame's start, or at the end of a packet, which is shorter than a frame.
use Prim.Native.Nat.{ℕ, ◌+◌, ◌*◌, ◌≤◌}
use mathlib.Core.Path.{◌≡◌, refl, ◌∙◌}
use mathlib.Core.Bool.{Bool, true, false}
use native.Mathlib.Omega.{arith}
use borrow.Author.Tests.{ltb-false, le-ltb}
use Rattle.rules.specs.Plan.{Plan}
use Rattle.rules.specs.Drawn.{Figures}
use Rattle.rules.specs.Call.{Class, normal, high, Call, time}
use Rattle.rules.specs.Core.{Core, standing, frame_of, advance, share_left, counts_in, counts, held, Due, at, due, before}
use Rattle.rules.specs.Machine.{Machine, Hub, Outcome}
use Rattle.rules.proofs.Laws.Passes.{true-false, any_none}
use Rattle.rules.proofs.Laws.Frames.{not_ended, ends_later, next_start}
use Rattle.rules.proofs.Flat.Follows.{Follows}
use Rattle.rules.proofs.Core.Instants.{Instant, line_ends, one_counts, one_held, no_instant, instant}
use Rattle.rules.proofs.Core.Sound.{Sound}
use Rattle.rules.proofs.Core.ClockAdvance.{advance_clock}
use Rattle.rules.proofs.Core.CallCases.{not_due, Course, refusal, event, quietly, granting, resting}
use Rattle.rules.proofs.Core.AlwaysSound.{Good}
use Rattle.rules.proofs.Core.AlwaysTold.{event_clock}

-- a request that stands counts or is held
counts-or-held : (s : Core) (k b : ℕ) (c : Class) → s.request k ≡ standing c b → counts s k ≡ false → held s k ≡ false → ⊥
unfolding counts counts_in held
counts-or-held s k b normal e n h = true-false refl (rw e at n)
counts-or-held s k b high e n h = go (share_left s k) refl
  where
    go : (x : Bool) → share_left s k ≡ x → ⊥
    go true l = true-false refl (rw (e, l) at n)
    go false l = true-false refl (rw (e, l) at h)

module _ (p : Plan) (fig : Figures p) (s : Core) (ok : Sound p s) where
  -- a time up to one frame's length behind the clock
  within_one : (t : ℕ) → t ≤ s.clock + p.frame → frame_of p t ≤ frame_of p s.clock + 1
  within_one t l =
      let f = frame_of p s.clock in
      not_ended p fig (f + 1) t (omega (arith, ends_later p fig f s.clock (omega arith), next_start p fig (f + 1)))

  -- where an instant isn't due before t
  by-due : (k b : ℕ) (c : Class) → s.request k ≡ standing c b → (t : ℕ) {d : Due} → Instant p s d → before d t ≡ false
      → frame_of p t ≤ frame_of p s.clock + 1
  by-due k b c r t (line_ends e l) n =
      within_one t (omega (arith, ltb-false e t n, ok.end_soon e l, fig.interrupt_low, fig.interrupt_up))
  by-due k b c r t (one_counts l e) n = within_one t (omega (arith, ltb-false s.clock t n))
  by-due k b c r t (one_held l e h) n =
      let f = frame_of p s.clock in
      not_ended p fig (f + 1) t (omega (arith, ltb-false ((f + 1) * p.frame) t n, next_start p fig (f + 1), fig.frame_low))
  by-due k b c r t (no_instant l e h) n =
      let w = ok.node k b c r in
      absurd (counts-or-held s k b c r (any_none p.nodes (counts s) e k w) (any_none p.nodes (held s) h k w))

  -- at the due instant itself none is due before it
  pub at_instant : (k b : ℕ) (c : Class) → s.request k ≡ standing c b → (d : ℕ) → due p s ≡ at d → frame_of p d ≤ frame_of p s.clock + 1
  at_instant k b c r d e = by-due k b c r d (instant p s) (rw e (le-ltb d d (omega arith)))

  pub before_instant : (k b : ℕ) (c : Class) → s.request k ≡ standing c b → (t : ℕ) → before (due p s) t ≡ false
      → frame_of p t ≤ frame_of p s.clock + 1
  before_instant k b c r t n = by-due k b c r t (instant p s) n

module _ (p : Plan) (fig : Figures p) (M : Machine) (follows : Follows p M) (h : Hub M.State) (ok : Good p fig M follows h) where
  pub one_start : {call : Call} {o : Outcome M.State} → Course p M h call o → (k b : ℕ) (c : Class) → h.core.request k ≡ standing c b
      → frame_of p o.hub.core.clock ≤ frame_of p h.core.clock + 1
  one_start (refusal call n e) k b c r = omega arith
  one_start (event call e a) k b c r =
      rw (event_clock e (advance p (time call) h.core) ∙ advance_clock p (time call) h.core)
      (before_instant p fig h.core ok.sound k b c r (time call) (not_due p h.core e a))
  one_start (quietly t i n) k b c r = omega arith
  one_start (granting t d x i e l n) k b c r = rw (advance_clock p d h.core) (at_instant p fig h.core ok.sound k b c r d e)
  one_start (resting t d i e l n) k b c r = rw (advance_clock p d h.core) (at_instant p fig h.core ok.sound k b c r d e)
