-- Frames and times: which frame a time lies in, said by the frame's start f × T and by t / T.
use Prim.Native.Nat.{ℕ, ◌+◌, ◌*◌, ◌≤◌, ◌<◌}
use mathlib.Core.Path.{◌≡◌}
use native.Mathlib.Omega.{arith}
use native.Mathlib.Nat.{le-div_iff_mul-le, div-lt_iff_lt-mul, add-mul}
use Rattle.rules.specs.Plan.{Plan}
use Rattle.rules.specs.Drawn.{Figures}
use Rattle.rules.specs.Core.{frame_of}

module _ (p : Plan) (fig : Figures p) where
  frame_some : 0 < p.frame
  frame_some = omega (arith, fig.frame_low)

  -- f × T ≤ t if and only if f ≤ t / T
  pub started : (f t : ℕ) → f * p.frame ≤ t → f ≤ frame_of p t
  started f t h = (le-div_iff_mul-le frame_some).1 h

  pub starts : (f t : ℕ) → f ≤ frame_of p t → f * p.frame ≤ t
  starts f t h = (le-div_iff_mul-le frame_some).0 h

  -- t < f × T if and only if t / T < f
  pub not_started : (f t : ℕ) → t < f * p.frame → frame_of p t < f
  not_started f t h = (div-lt_iff_lt-mul frame_some).1 h

  pub starts_later : (f t : ℕ) → frame_of p t < f → t < f * p.frame
  starts_later f t h = (div-lt_iff_lt-mul frame_some).0 h

  -- t < (f + 1) × T if and only if t / T ≤ f
  pub not_ended : (f t : ℕ) → t < (f + 1) * p.frame → frame_of p t ≤ f
  not_ended f t h = omega (arith, not_started (f + 1) t h)

  pub ends_later : (f t : ℕ) → frame_of p t ≤ f → t < (f + 1) * p.frame
  ends_later f t h = starts_later (f + 1) t (omega arith)

  -- a later time lies in no earlier frame
  pub frame_mono : (t u : ℕ) → t ≤ u → frame_of p t ≤ frame_of p u
  frame_mono t u h = started (frame_of p t) u (omega (arith, starts (frame_of p t) t (omega arith)))

  -- frames follow on one another, each T long
  pub next_start : (f : ℕ) → (f + 1) * p.frame ≡ f * p.frame + p.frame
  next_start f = omega (arith, add-mul f 1 p.frame)

  -- a frame's start lies in it
  pub frame_of_start : (f : ℕ) → frame_of p (f * p.frame) ≡ f
  frame_of_start f =
      let low = started f (f * p.frame) (omega arith) in
      let up = not_ended f (f * p.frame) (omega (arith, next_start f, frame_some)) in
      omega arith
