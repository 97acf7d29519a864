-- Which instant is due, which class is sought and where the clock comes to, each by its cases.
use Prim.Native.Nat.{ℕ, ◌+◌, ◌*◌, ◌≤◌, ◌<◌}
use mathlib.Core.Path.{◌≡◌, refl}
use mathlib.Core.Bool.{Bool, true, false}
use lib.Dec.{ltb}
use borrow.Author.Tests.{ltb-true, ltb-false}
use Rattle.std.specs.Prelude.{if◌then◌else◌}
use Rattle.rules.specs.Choice.{any}
use Rattle.rules.specs.Plan.{Plan}
use Rattle.rules.specs.Call.{Class, normal, high}
use Rattle.rules.specs.Core.{Core, Line, resting, busy, frame_of, frame_start, same_frame, advance, counts_in, counts, held, Due, never, at, due_at_rest, due_on, due, Sought, nothing, class, sought}
use Rattle.rules.proofs.Laws.Passes.{any_none, none_any, or_both}

module _ (p : Plan) (s : Core) where
  -- the due instant: the end of a busy line; else the clock if some request counts, else the next frame start if one is held, else none
  pub data Instant : Due → Type 0 where
    line_ends : (e : ℕ) → s.line ≡ busy e → Instant (at e)
    one_counts : s.line ≡ resting → any p.nodes (counts s) ≡ true → Instant (at s.clock)
    one_held : s.line ≡ resting → any p.nodes (counts s) ≡ false → any p.nodes (held s) ≡ true
        → Instant (at ((frame_of p s.clock + 1) * p.frame))
    no_instant : s.line ≡ resting → any p.nodes (counts s) ≡ false → any p.nodes (held s) ≡ false → Instant never

  at_rest : s.line ≡ resting → Instant (due_at_rest p s)
  at_rest l = go (any p.nodes (counts s)) (any p.nodes (held s)) refl refl
    where
      go : (c h : Bool) → any p.nodes (counts s) ≡ c → any p.nodes (held s) ≡ h
          → Instant (if c then at s.clock else (if h then at ((frame_of p s.clock + 1) * p.frame) else never))
      go true h e f = one_counts l e
      go false true e f = one_held l e f
      go false false e f = no_instant l e f

  pub instant : Instant (due p s)
  unfolding due
  instant = go s.line refl
    where
      go : (l : Line) → s.line ≡ l → Instant (due_on l p s)
      go (busy e) l = line_ends e l
      go resting l = at_rest l

  -- the class sought: one in which some request counts, or nothing where none counts
  pub data Seeking : Sought → Type 0 where
    seeks : (c : Class) → any p.nodes (counts_in c s) ≡ true → Seeking (class c)
    none-counts : any p.nodes (counts s) ≡ false → Seeking nothing

  pub seeking : Seeking (sought p s)
  unfolding sought counts
  seeking = go (any p.nodes (counts_in high s)) (any p.nodes (counts_in normal s)) refl refl
    where
      go : (c d : Bool) → any p.nodes (counts_in high s) ≡ c → any p.nodes (counts_in normal s) ≡ d
          → Seeking (if c then class high else (if d then class normal else nothing))
      go true d e f = seeks high e
      go false true e f = seeks normal f
      go false false e f =
          none-counts (none_any p.nodes (counts s) (λ k w. or_both _ _ (any_none p.nodes (counts_in normal s) f k w) (any_none p.nodes (counts_in high s) e k w)))

-- the clock comes to t: over a frame's start, or within its frame
pub data Advanced (p : Plan) (t : ℕ) (s : Core) : Core → Type 0 where
  across : frame_of p s.clock < frame_of p t → Advanced p t s (frame_start t s)
  inside : frame_of p t ≤ frame_of p s.clock → Advanced p t s (same_frame t s)

pub advanced : (p : Plan) (t : ℕ) (s : Core) → Advanced p t s (advance p t s)
unfolding advance
advanced p t s = go (ltb (frame_of p s.clock) (frame_of p t)) refl
  where
    go : (b : Bool) → ltb (frame_of p s.clock) (frame_of p t) ≡ b → Advanced p t s (if b then frame_start t s else same_frame t s)
    go true e = across (ltb-true _ _ e)
    go false e = inside (ltb-false _ _ e)
