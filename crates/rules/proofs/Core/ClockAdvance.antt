-- The clock's advance: it keeps `Sound`, and it comes to no instant too early or too late.
use Prim.Native.Nat.{ℕ, ◌+◌, ◌*◌, ◌≤◌}
use mathlib.Core.Path.{◌≡◌, refl}
use mathlib.Core.Bool.{false}
use native.Mathlib.Omega.{arith}
use borrow.Author.Tests.{ltb-false}
use Rattle.rules.specs.Plan.{Plan, longest}
use Rattle.rules.specs.Core.{Core, Request, Share, busy, frame_of, frame_start, same_frame, reclassed, advance, Due, at, due, before}
use Rattle.rules.specs.Drawn.{Figures}
use Rattle.rules.proofs.Laws.Frames.{ends_later}
use Rattle.rules.proofs.Core.Instants.{Instant, line_ends, one_counts, one_held, no_instant, instant, Advanced, across, inside, advanced}
use Rattle.rules.proofs.Core.Requests.{reclassed_high, reclassed_standing}
use Rattle.rules.proofs.Core.Sound.{Sound}
use Rattle.rules.proofs.Core.SoundChanges.{Proper, sound_of, proper}
use Rattle.rules.proofs.Laws.Clash.{clash}

-- the clock comes to a time that is not before it, nor behind the end of a busy line
module _ (p : Plan) (t : ℕ) (s : Core) (ok : Sound p s) (late : s.clock ≤ t) (busy_to : (e : ℕ) → s.line ≡ busy e → t ≤ e) where
  in_reach : (e : ℕ) → s.line ≡ busy e → e ≤ t + longest p + p.overhead
  in_reach e l = omega (arith, ok.end_soon e l)

  -- a request that the frame's start leaves high is one that the new share allows
  reclassed_proper : (new old : Share) (k : ℕ) (r : Request) → Proper p old k r → Proper p new k (reclassed new r)
  reclassed_proper new old k r was =
      record {
        allowed = λ b e. (reclassed_high new r b e).1;
        node = λ b c e. (let h = reclassed_standing new r c b e in was.node b h.0 h.1);
        short = λ b c e. (let h = reclassed_standing new r c b e in was.short b h.0 h.1);
        long = λ b c e. (let h = reclassed_standing new r c b e in was.long b h.0 h.1);
      }

  pub advance_sound : Sound p (advance p t s)
  advance_sound = go (advanced p t s)
    where
      go : {r : Core} → Advanced p t s r → Sound p r
      go (inside l) = sound_of p (same_frame t s) ok.latest_fits ok.force_fits ok.spent (proper p s ok) (record { late = busy_to; soon = in_reach })
      go (across l) =
          sound_of p (frame_start t s) ok.latest_fits ok.latest_fits (λ k. omega arith)
          (λ k. reclassed_proper (s.latest k) (s.force k) k (s.request k) (proper p s ok k)) (record { late = busy_to; soon = in_reach })

-- what the advance leaves as it was, whether or not it crosses a frame's start
module _ (p : Plan) (t : ℕ) (s : Core) where
  pub advance_clock : (advance p t s).clock ≡ t
  advance_clock = go (advanced p t s)
    where
      go : {r : Core} → Advanced p t s r → r.clock ≡ t
      go (inside l) = refl
      go (across l) = refl

  pub advance-line : (advance p t s).line ≡ s.line
  advance-line = go (advanced p t s)
    where
      go : {r : Core} → Advanced p t s r → r.line ≡ s.line
      go (inside l) = refl
      go (across l) = refl

  pub advance_latest : (advance p t s).latest ≡ s.latest
  advance_latest = go (advanced p t s)
    where
      go : {r : Core} → Advanced p t s r → r.latest ≡ s.latest
      go (inside l) = refl
      go (across l) = refl

-- a due instant is not before the clock, and is the end of a busy line
module _ (p : Plan) (fig : Figures p) (s : Core) where
  pub due_late : Sound p s → (d : ℕ) → due p s ≡ at d → s.clock ≤ d
  due_late ok d e = go (instant p s) e
    where
      go : {x : Due} → Instant p s x → x ≡ at d → s.clock ≤ d
      go (line_ends f l) q = let r : f ≡ d = cc in omega (arith, ok.end_late f l)
      go (one_counts l c) q = let r : s.clock ≡ d = cc in omega arith
      go (one_held l c h) q =
          let r : (frame_of p s.clock + 1) * p.frame ≡ d = cc in
          omega (arith, ends_later p fig (frame_of p s.clock) s.clock (omega arith))
      go (no_instant l c h) q = clash (cc)

  pub due_end : (e : ℕ) → s.line ≡ busy e → due p s ≡ at e
  unfolding due
  due_end e l = rw l

  -- no instant is due before t, so a busy line's end is not
  pub not_before_end : (t e : ℕ) → before (due p s) t ≡ false → s.line ≡ busy e → t ≤ e
  not_before_end t e n l = let q : before (at e) t ≡ false = rw (due_end e l) at n in ltb-false e t q
