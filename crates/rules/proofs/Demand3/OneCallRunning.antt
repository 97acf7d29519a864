-- One more call, where k is within f and has fewer than n high grants there: an event stays within f, and a step is a high turn.
use Prim.Native.Nat.{ℕ, ◌+◌, ◌*◌, ◌≤◌, ◌<◌}
use mathlib.Core.Path.{◌≡◌, ap}
use mathlib.Core.Bool.{true}
use mathlib.Core.List.{List, ◌∷◌}
use native.Mathlib.Omega.{arith}
use lib.Dec.{eqb}
use borrow.Author.Tests.{eq-eqb}
use Rattle.rules.specs.Plan.{Plan}
use Rattle.rules.specs.Drawn.{Within, Figures}
use Rattle.rules.specs.Call.{high, Call, time}
use Rattle.rules.specs.Core.{Core, Share, resting, frame_of, advance, counts_in, at, due}
use Rattle.rules.specs.Machine.{Machine, Outcome}
use Rattle.rules.specs.Rows.{change}
use Rattle.rules.specs.Run.{Entry}
use Rattle.rules.specs.Words.{turn_in}
use Rattle.rules.proofs.Flat.Follows.{Follows}
use Rattle.rules.proofs.Laws.Frames.{started, starts, not_ended}
use Rattle.rules.proofs.Core.CallCases.{in_time_lem, not_due, Course, refusal, event, quietly, granting, resting as rested}
use Rattle.rules.proofs.Core.Instants.{Advanced, across, inside, advanced}
use Rattle.rules.proofs.Core.Sound.{Told}
use Rattle.rules.proofs.Core.ClockAdvance.{advance_clock, due_late}
use Rattle.rules.proofs.Demand3.Fair.{reach}
use Rattle.rules.proofs.Demand3.InFrame.{FrameMoment}
use Rattle.rules.proofs.Demand3.Standing.{Standing, high_counts, DueBefore, not_behind, handled_before}
use Rattle.rules.proofs.Demand3.LineWhileWaiting.{held_rest, held_on, held-due}
use Rattle.rules.proofs.Core.EventChanges.{kept_by_change}
use Rattle.rules.proofs.Demand3.GrantsSoFar.{entry, Facts, NextHigh, Running, GrantsSoFar, running, counted, standing_first, within, within_frame}
use Rattle.rules.proofs.Laws.Sums.{Same, it, other, same_or_not}
use Rattle.rules.proofs.Demand3.HighTurn.{turn_taken, no_rest}

module _ (p : Plan) (fig : Figures p) (M : Machine) (follows : Follows p M) (k f : ℕ) (w : Within p.nodes k) (R : ℕ → Share) where
  module _ (past : List Entry) (s : Core) (σ : M.State) (facts : Facts p k f R past s)
      (r : Running p M follows k f R s.clock s.line s.granted σ) where
    share_left_lem : s.granted k < (s.force k).packets
    share_left_lem = let q = ap (λ (x : Share). x.packets) (facts.force r.in_frame k) in omega (arith, r.left)

    -- an instant is due within the reach
    pub running-due : DueBefore p s (reach p (f * p.frame) R s.granted + 1)
    running-due = held-due p s k w (reach p (f * p.frame) R s.granted) (s.granted k) r.held at_rest_counts
      where
        at_rest_counts : s.line ≡ resting → counts_in high s k ≡ true
        at_rest_counts l = high_counts s k (standing_first p k f R past s facts r.in_frame (held_rest r.held l).1) share_left_lem

    -- so the clock stays within f
    pub stays : (t : ℕ) → s.clock ≤ t → t ≤ reach p (f * p.frame) R s.granted → frame_of p t ≡ f
    stays t late soon =
        let e = r.in_frame in
        let low = started p fig f t (omega (arith, starts p fig f s.clock (omega arith))) in
        let up = not_ended p fig f t (omega (arith, within_frame p k f R past s facts r.in_frame fig w r.left r.size)) in
        omega arith

    -- the clock comes to a time of f within the reach, and an event changes neither line nor grants
    event_stays : (call : Call) (t : ℕ) → s.clock ≤ t → t ≤ reach p (f * p.frame) R s.granted → {c : Core} → Advanced p t s c
        → Running p M follows k f R (change call c).clock (change call c).line (change call c).granted σ
    event_stays call t late soon {c} (inside l) =
        kept_by_change (λ time line G. Running p M follows k f R time line G σ) call c
        (record {
          in_frame = stays t late soon;
          pointed = r.pointed;
          fair = r.fair;
          left = r.left;
          size = r.size;
          held = held_on soon r.held;
        })
    event_stays call t late soon (across l) = let e = r.in_frame in absurd (omega (arith, stays t late soon))

    -- the clock comes to an instant within the reach, where k's request is high
    moment : (d : ℕ) → s.clock ≤ d → d ≤ reach p (f * p.frame) R s.granted → Standing s k → {c : Core} → Advanced p d s c
        → FrameMoment p k f R c (r.pointed.pointers high)
    moment d late soon h {c} (inside l) =
        record {
          moment =
              record {
                fits = λ j b e. (let q = ap (λ (x : Share). x.bits) (facts.force r.in_frame j) in omega (arith, (facts.sound.allowed j b e).fits));
                fair = r.fair;
                soon = soon;
                counts = high_counts c k (record { bits = h.bits; stands = h.stands }) share_left_lem;
              };
          within = within p k f R past s facts r.in_frame;
          left = r.left;
          size = r.size;
        }
    moment d late soon h (across l) = let e = r.in_frame in absurd (omega (arith, stays d late soon))

    -- k's request is high before each turn: with no grant yet it stands unbroken, and then it is so as the next turn is chosen
    standing_turn : NextHigh p k f R past → Standing s k
    standing_turn later = go (same_or_not (s.granted k) 0)
      where
        go : Same (s.granted k) 0 → Standing s k
        go (it e) = standing_first p k f R past s facts r.in_frame e
        go (other d) =
            let had = counted p k f past s facts.told r.in_frame in
            let high = later (omega arith) (omega (arith, r.left)) in
            record { bits = high.length; stands = facts.told.high k high }

    -- an instant that is handled lies in f, and k's request counts there
    handled_late : (d : ℕ) → due p s ≡ at d → s.clock ≤ d
    handled_late d e = due_late p fig s facts.sound d e

    handled_soon : (d : ℕ) → due p s ≡ at d → d ≤ reach p (f * p.frame) R s.granted
    handled_soon d e = omega (arith, handled_before p s (reach p (f * p.frame) R s.granted + 1) d running-due e)

    handled_in : (d : ℕ) → due p s ≡ at d → frame_of p d ≡ f
    handled_in d e = stays d (handled_late d e) (handled_soon d e)

    moment_handled : (d : ℕ) → due p s ≡ at d
        → (eqb (frame_of p d) f ≡ true → NextHigh p k f R past)
        → FrameMoment p k f R (advance p d s) (r.pointed.pointers high)
    moment_handled d e later =
        moment d (handled_late d e) (handled_soon d e) (standing_turn (later (eq-eqb (frame_of p d) f (handled_in d e)))) (advanced p d s)

    pub keep_running : {call : Call} {o : Outcome M.State} → Course p M (record { core = s; turn = σ }) call o
        → Told p (entry call o.answer ∷ past) o.hub.core
        → (turn_in p f call o.answer ≡ true → NextHigh p k f R past)
        → GrantsSoFar p M follows k f R (entry call o.answer ∷ past) o.hub
    keep_running (refusal call n e) told later = running r
    keep_running (event call e a) told later =
        running
        (event_stays call (time call) (in_time_lem p s call a).late
        (omega (arith, not_behind p s (reach p (f * p.frame) R s.granted + 1) (time call) running-due (not_due p s e a)))
        (advanced p (time call) s))
    keep_running (quietly t i n) told later = running r
    keep_running (granting t d c i e l n) told later =
        turn_taken p M follows k f w R t past (advance p d s) σ r.pointed c d n (advance_clock p d s) (moment_handled d e later)
        (rw (advance_clock p d s) (handled_in d e)) told
    keep_running (rested t d i e l n) told later =
        absurd (no_rest p k f w R (advance p d s) (r.pointed.pointers high) (moment_handled d e later) n)
