-- The place from which k's request stands unbroken: the clock is still before f, or it stands at the frame's start.
use Prim.Native.Nat.{ℕ, ◌+◌, ◌*◌, ◌≤◌}
use mathlib.Core.Path.{◌≡◌, refl, sym, ap, ◌∙◌, subst}
use mathlib.Core.List.{List, []}
use native.Mathlib.Omega.{arith}
use lib.ListN.{length}
use lib.Dec.{ltb}
use borrow.Author.Tests.{ltb-true, ltb-false}
use Rattle.rules.specs.Plan.{Plan}
use Rattle.rules.specs.Drawn.{Within, Figures}
use Rattle.rules.specs.Core.{Share, Line, busy, resting, frame_of}
use Rattle.rules.specs.Machine.{Machine, Hub}
use Rattle.rules.specs.Flat.{behind}
use Rattle.rules.specs.Run.{Entry}
use Rattle.rules.specs.Words.{high_grants}
use Rattle.rules.proofs.Laws.Passes.{Which, which, yes', no'}
use Rattle.rules.proofs.Flat.Follows.{Follows}
use Rattle.rules.proofs.Laws.Frames.{frame_of_start}
use Rattle.rules.proofs.Laws.Sums.{Same, it, other, same_or_not}
use Rattle.rules.proofs.Demand3.Ahead.{Ahead, behind_is, passed-not-ahead}
use Rattle.rules.proofs.Demand3.Fair.{Fair, reach}
use Rattle.rules.proofs.Demand3.LineWhileWaiting.{Held, until_end, at_rest}
use Rattle.rules.proofs.Demand3.FrameStart.{Opening, nobody, only, Opened}
use Rattle.rules.proofs.Demand3.GrantsSoFar.{Facts, GrantsSoFar, waiting, running, counted, standing_first, shared}

-- at the start no node has two high grants, and one that lies ahead of k has none
opening_fair : (p : Plan) (k : ℕ) → Within p.nodes k → (clock : ℕ) (line : Line) (G : ℕ → ℕ) (a : ℕ) → G k ≡ 0
    → Opening p clock line G a → Fair k G a
opening_fair p k w clock line G a z (nobody n) = record { most = λ j d. omega (arith, n j); ahead = λ j h. omega (arith, n j) }
opening_fair p k w clock line G a z (only i e v l b g n x) = record { most = λ j d. most j (same_or_not j i); ahead = λ j h. ahead j h (same_or_not j i) }
  where
    most : (j : ℕ) → Same j i → G j ≤ G k + 1
    most j (it q) = let r = ap G q in omega arith
    most j (other q) = omega (arith, n j q)

    ahead : (j : ℕ) → Ahead a k j → Same j i → G j ≤ G k
    ahead j h (it q) =
        let here : Ahead (behind p i) k j = subst (λ (y : ℕ). Ahead y k j) x h in
        absurd (passed-not-ahead (behind_is p i v.up) w (subst (λ (y : ℕ). Ahead (behind p i) k y) q here))
    ahead j h (other q) = omega (arith, n j q)

module _ (p : Plan) (fig : Figures p) (M : Machine) (follows : Follows p M) (k f : ℕ) (w : Within p.nodes k) (R : ℕ → Share) where
  module _ (past : List Entry) (h : Hub M.State) (facts : Facts p k f R past h.core) (opened : Opened p M follows h) where
    held : f * p.frame ≡ h.core.clock → h.core.granted k ≡ 0 → (l : Line) → h.core.line ≡ l
        → Held (reach p (f * p.frame) R h.core.granted) h.core.clock (h.core.granted k) l
    held start z (busy e) q = until_end e (omega (arith, facts.sound.end_soon e q, fig.interrupt_low))
    held start z resting q = at_rest (omega arith) z

    pub at_start : h.core.clock ≤ f * p.frame → high_grants p k f past ≡ [] → GrantsSoFar p M follows k f R past h
    at_start early first = go (which (ltb h.core.clock (f * p.frame)))
      where
        go : Which (ltb h.core.clock (f * p.frame)) → GrantsSoFar p M follows k f R past h
        go (yes' e) = waiting (ltb-true _ _ e) opened.pointed
        go (no' e) =
            let start : f * p.frame ≡ h.core.clock = omega (arith, ltb-false h.core.clock (f * p.frame) e) in
            let frame : frame_of p h.core.clock ≡ f = subst (λ (x : ℕ). frame_of p x ≡ f) start (frame_of_start p fig f) in
            let none_yet : h.core.granted k ≡ 0 = sym (counted p k f past h.core facts.told frame) ∙ ap length first in
            let share = shared p k f R past h.core facts frame (standing_first p k f R past h.core facts frame none_yet) in
            running
            (record {
              in_frame = frame;
              pointed = opened.pointed;
              fair = opening_fair p k w h.core.clock h.core.line h.core.granted _ none_yet (opened.opening (rw frame (sym start)));
              left = omega (arith, share.0);
              size = share.1;
              held = held start none_yet h.core.line refl;
            })
