-- One more call, where the clock is still before f and k's request is high: the clock
-- stays there, or it comes to a time in f, early enough, and k's request counts there.
use Prim.Native.Nat.{ℕ, ◌+◌, ◌*◌, ◌≤◌, ◌<◌}
use mathlib.Core.Path.{◌≡◌, refl, sym, ap, ◌∙◌, subst}
use mathlib.Core.Bool.{true, false}
use mathlib.Core.List.{List, ◌∷◌}
use native.Mathlib.Omega.{arith}
use native.Mathlib.Nat.{mul-le-mul_right}
use lib.Dec.{ltb}
use borrow.Author.Tests.{ltb-true, ltb-false, eq-eqb}
use Rattle.rules.specs.Choice.{any}
use Rattle.rules.specs.Plan.{Plan, shortest, longest}
use Rattle.rules.specs.Drawn.{Within, Figures}
use Rattle.rules.specs.Call.{Class, normal, high, Call, time, step, taken, rest}
use Rattle.rules.specs.Core.{Core, Share, none, standing, Line, busy, resting, bits_of, frame_of, advance, counts_in, Due, at, due, nothing, class, sought}
use Rattle.rules.specs.Machine.{Machine, Outcome, restful}
use Rattle.rules.specs.Machine as machine
use Rattle.rules.specs.Rows.{accept, first_row, rows, change}
use Rattle.rules.specs.Run.{Entry}
use Rattle.rules.proofs.Laws.Passes.{Which, which, yes', no', put_other}
use Rattle.rules.proofs.Flat.Follows.{Follows}
use Rattle.rules.proofs.Laws.Frames.{started, not_started, not_ended, next_start}
use Rattle.rules.proofs.Core.CallCases.{Event, not_due, Course, refusal, event, quietly, granting, resting as rested}
use Rattle.rules.proofs.Core.Instants.{Instant, line_ends, one_counts, one_held, no_instant, instant, Advanced, across, inside, advanced}
use Rattle.rules.proofs.Core.Requests.{none_standing, reclassed_high, counts-stands}
use Rattle.rules.proofs.Flat.Turns.{Pointed, pointed_rest, node_counts, pointed_turn}
use Rattle.rules.proofs.Core.ClockAdvance.{advance_clock}
use Rattle.rules.proofs.Core.AlwaysSound.{turn_counts}
use Rattle.rules.proofs.Laws.Sums.{Same, it, other, same_or_not}
use Rattle.rules.proofs.Demand3.Fair.{reach, zero_fair}
use Rattle.rules.proofs.Demand3.InFrame.{FrameMoment}
use Rattle.rules.proofs.Demand3.Standing.{high_counts, counts-or-held, DueBefore, not_behind, handled_before}
use Rattle.rules.proofs.Demand3.GrantsSoFar.{entry, Facts, Running, GrantsSoFar, waiting, running, standing_first, standing_before, shared}
use Rattle.rules.proofs.Demand3.HighTurn.{turn_at, turn_taken, no_rest}
use Rattle.rules.proofs.Demand3.LineWhileWaiting.{Held, until_end, at_rest}
use Rattle.rules.proofs.Core.EventChanges.{kept_by_change}

-- a core r of f, in which k's request is high with no grant yet, has that from the core c before the turn
counted_before : (p : Plan) (k f : ℕ) (R : ℕ → Share) (now : List Entry) (r : Core) → Facts p k f R now r → frame_of p r.clock ≡ f → (c : Core)
    → r.granted k ≡ 0 → c.granted k ≡ 0 → r.request k ≡ c.request k → r.force k ≡ c.force k → counts_in high c k ≡ true
counted_before p k f R now r facts e c zero_r zero_c request force =
    let stood = standing_first p k f R now r facts e zero_r in
    let n = ap (λ (x : Share). x.packets) force in
    high_counts c k (record { bits = stood.bits; stands = sym request ∙ stood.stands })
    (omega (arith, (facts.sound.allowed k stood.bits stood.stands).some))

module _ (p : Plan) (fig : Figures p) (M : Machine) (follows : Follows p M) (k f : ℕ) (w : Within p.nodes k) (R : ℕ → Share) where
  module _ (past : List Entry) (s : Core) (σ : M.State) (facts : Facts p k f R past s) (early : s.clock < f * p.frame) (π : Pointed p M follows σ) where
    -- an instant is due before a packet in progress at the frame's start would end
    pub waiting_due : DueBefore p s (f * p.frame + p.interrupt)
    waiting_due = go (instant p s) refl
      where
        not_yet : frame_of p s.clock < f
        not_yet = not_started p fig f s.clock early

        -- k's request stands, so there is a packet that is no longer than the longest
        some_packet : shortest p ≤ longest p
        some_packet =
            let r = standing_before p k f R past s facts not_yet in
            omega (arith, facts.sound.short k r.bits high r.stands, facts.sound.long k r.bits high r.stands)

        go : {x : Due} → Instant p s x → due p s ≡ x → DueBefore p s (f * p.frame + p.interrupt)
        go (line_ends e l) q = record { time = e; is = q; soon = omega (arith, facts.sound.end_soon e l, fig.interrupt_low) }
        go (one_counts l c) q = record { time = s.clock; is = q; soon = omega arith }
        go (one_held l c h) q =
            record {
              time = (frame_of p s.clock + 1) * p.frame;
              is = q;
              soon = (let n : frame_of p s.clock + 1 ≤ f = omega (arith, not_yet) in omega (arith, mul-le-mul_right p.frame n, some_packet, fig.interrupt_low));
            }
        go (no_instant l c h) q = absurd (counts-or-held p s k w (standing_before p k f R past s facts not_yet) c h)

    -- a time from there on, before that end, lies in f
    enters : (t : ℕ) → f * p.frame ≤ t → t < f * p.frame + p.interrupt → frame_of p t ≡ f
    enters t late soon =
        let low = started p fig f t late in
        let up = not_ended p fig f t (omega (arith, next_start p fig f, fig.interrupt_up)) in
        omega arith

    outside : (t : ℕ) → frame_of p t ≡ f → frame_of p t ≤ frame_of p s.clock → ⊥
    outside t e l = omega (arith, not_started p fig f s.clock early)

    line-held : (b t : ℕ) → f * p.frame + p.interrupt ≤ b → t ≤ b → (l : Line) → s.line ≡ l → Held b t 0 l
    line-held b t low h (busy e) q = until_end e (omega (arith, facts.sound.end_soon e q, fig.interrupt_low))
    line-held b t low h resting q = at_rest h refl

    event_enters : (call : Call) (t : ℕ) → f * p.frame ≤ t → t < f * p.frame + p.interrupt → {c : Core} → Advanced p t s c
        → (now : List Entry) → Facts p k f R now (change call c)
        → Running p M follows k f R (change call c).clock (change call c).line (change call c).granted σ
    event_enters call t late soon (inside l) now after = absurd (outside t (enters t late soon) l)
    event_enters call t late soon {c} (across l) now after =
        let e : frame_of p (change call c).clock ≡ f = kept_by_change (λ x line G. frame_of p x ≡ f) call c (enters t late soon) in
        let z : (change call c).granted k ≡ 0 = kept_by_change (λ x line G. G k ≡ 0) call c refl in
        let share = shared p k f R now (change call c) after e (standing_first p k f R now (change call c) after e z) in
        kept_by_change (λ x line G. Running p M follows k f R x line G σ) call c
        (record {
          in_frame = enters t late soon;
          pointed = π;
          fair = zero_fair k (π.pointers high);
          left = share.0;
          size = share.1;
          held = line-held (reach p (f * p.frame) R (λ j. 0)) t (omega arith) (omega arith) s.line refl;
        })

    -- the clock comes to an instant in f, where k's request counts
    moment : (d : ℕ) → f * p.frame ≤ d → d < f * p.frame + p.interrupt → {c : Core} → Advanced p d s c → ((j : ℕ) → c.force j ≡ R j)
        → counts_in high c k ≡ true → FrameMoment p k f R c (π.pointers high)
    moment d late soon (inside l) force counts = absurd (outside d (enters d late soon) l)
    moment d late soon {c} (across l) force counts =
        let stood = counts-stands high c k counts in
        let was = reclassed_high (s.latest k) (s.request k) stood.0 stood.1 in
        let b = ap (λ (x : Share). x.bits) (force k) in
        let n = ap (λ (x : Share). x.packets) (force k) in
        record {
          moment =
              record {
                fits = λ j b e. (let q = ap (λ (x : Share). x.bits) (force j) in omega (arith, (reclassed_high (s.latest j) (s.request j) b e).1.fits));
                fair = zero_fair k (π.pointers high);
                soon = omega arith;
                counts = counts;
              };
          within = λ j. omega arith;
          left = omega (arith, was.1.some);
          size = omega (arith, was.1.fits, facts.sound.short k stood.0 high was.0);
        }

    -- a grant in f to another node, or in class normal, leaves k's request high, so it counted before
    counts-granted : (d : ℕ) → frame_of p d ≡ f → (j end : ℕ) (x : Class) {c : Core} → Advanced p d s c → counts_in x c j ≡ true
        → (now : List Entry) → Facts p k f R now (machine.granting j x end c) → counts_in high c k ≡ true
    counts-granted d e j end x (inside l) h now after = absurd (outside d e l)
    counts-granted d e j end x {c} (across l) h now after = go x h after (same_or_not k j)
      where
        go : (y : Class) → counts_in y c j ≡ true → Facts p k f R now (machine.granting j y end c) → Same k j → counts_in high c k ≡ true
        go y h after (other q) =
            counted_before p k f R now (machine.granting j y end c) after e c (put_other c.granted j (machine.one_more y 0) k q) refl
            (put_other c.request j none k q) refl
        go high h after (it q) = subst (λ (i : ℕ). counts_in high c i ≡ true) (sym q) h
        go normal h after (it q) =
            let stood = standing_first p k f R now (machine.granting j normal end c) after e (rw (eq-eqb k j q)) in
            let gone : none ≡ standing high stood.bits = rw (eq-eqb k j q) at stood.stands in
            none_standing high stood.bits gone

    counts_rested : (d : ℕ) → frame_of p d ≡ f → {c : Core} → Advanced p d s c → (now : List Entry) → Facts p k f R now (restful c)
        → counts_in high c k ≡ true
    counts_rested d e (inside l) now after = absurd (outside d e l)
    counts_rested d e {c} (across l) now after = counted_before p k f R now (restful c) after e c refl refl refl refl

    handled_soon : (d : ℕ) → due p s ≡ at d → d < f * p.frame + p.interrupt
    handled_soon d e = handled_before p s (f * p.frame + p.interrupt) d waiting_due e

    still_before : (d : ℕ) → ltb d (f * p.frame) ≡ true → (advance p d s).clock < f * p.frame
    still_before d b = rw (advance_clock p d s) (ltb-true d (f * p.frame) b)

    entered : (d : ℕ) → due p s ≡ at d → ltb d (f * p.frame) ≡ false → frame_of p d ≡ f
    entered d e b = enters d (ltb-false d (f * p.frame) b) (handled_soon d e)

    entered_clock : (d : ℕ) → due p s ≡ at d → ltb d (f * p.frame) ≡ false → frame_of p (advance p d s).clock ≡ f
    entered_clock d e b = rw (advance_clock p d s) (entered d e b)

    -- an event's time is before the frame's start, or in f
    keep_event : (call : Call) → Event call → first_row (rows p s call) ≡ accept
        → (now : List Entry) → Facts p k f R now (change call (advance p (time call) s))
        → Which (ltb (time call) (f * p.frame)) → GrantsSoFar p M follows k f R now (record { core = change call (advance p (time call) s); turn = σ })
    keep_event call e a now after (yes' b) =
        waiting (kept_by_change (λ x line G. x < f * p.frame) call (advance p (time call) s) (still_before (time call) b)) π
    keep_event call e a now after (no' b) =
        running
        (event_enters call (time call) (ltb-false (time call) (f * p.frame) b)
        (not_behind p s (f * p.frame + p.interrupt) (time call) waiting_due (not_due p s e a)) (advanced p (time call) s) now after)

    -- the turn's node counts in the class sought
    some : (d : ℕ) (c : Class) → sought p (advance p d s) ≡ class c → any p.nodes (counts_in c (advance p d s)) ≡ true
    some d c n = turn_counts p fig M follows (record { core = s; turn = σ }) (record { sound = facts.sound; pointed = π }) d c n

    -- and so is an instant that a step handles
    keep_turn : (t d : ℕ) (c : Class) → due p s ≡ at d → sought p (advance p d s) ≡ class c
        → Facts p k f R (entry (step t) (turn_at p M d c (advance p d s) σ).answer ∷ past) (turn_at p M d c (advance p d s) σ).hub.core
        → Which (ltb d (f * p.frame))
        → GrantsSoFar p M follows k f R (entry (step t) (turn_at p M d c (advance p d s) σ).answer ∷ past) (turn_at p M d c (advance p d s) σ).hub
    keep_turn t d c e n after (yes' b) = waiting (still_before d b) (pointed_turn p M follows σ π c (counts_in c (advance p d s)) (some d c n))
    keep_turn t d c e n after (no' b) =
        let turn = turn_at p M d c (advance p d s) σ in
        let node = (M.choose c (counts_in c (advance p d s)) σ).node in
        let end = d + bits_of ((advance p d s).request node) + p.overhead in
        let chosen = node_counts p M follows σ π c (counts_in c (advance p d s)) (some d c n) in
        let counts = counts-granted d (entered d e b) node end c (advanced p d s) chosen.holds (entry (step t) turn.answer ∷ past) after in
        let now = moment d (ltb-false d (f * p.frame) b) (handled_soon d e) (advanced p d s) (after.force (entered_clock d e b)) counts in
        turn_taken p M follows k f w R t past (advance p d s) σ π c d n (advance_clock p d s) now (entered_clock d e b) after.told

    keep_rest : (t d moves : ℕ) → due p s ≡ at d → sought p (advance p d s) ≡ nothing
        → Facts p k f R (entry (step t) (rest d moves) ∷ past) (restful (advance p d s)) → Which (ltb d (f * p.frame))
        → GrantsSoFar p M follows k f R (entry (step t) (rest d moves) ∷ past) (record { core = restful (advance p d s); turn = (M.rested σ).state })
    keep_rest t d moves e n after (yes' b) = waiting (still_before d b) (pointed_rest p M follows σ π)
    keep_rest t d moves e n after (no' b) =
        let counts = counts_rested d (entered d e b) (advanced p d s) (entry (step t) (rest d moves) ∷ past) after in
        let now = moment d (ltb-false d (f * p.frame) b) (handled_soon d e) (advanced p d s) (after.force (entered_clock d e b)) counts in
        absurd (no_rest p k f w R (advance p d s) (π.pointers high) now n)

    pub keep_waiting : {call : Call} {o : Outcome M.State} → Course p M (record { core = s; turn = σ }) call o
        → Facts p k f R (entry call o.answer ∷ past) o.hub.core → GrantsSoFar p M follows k f R (entry call o.answer ∷ past) o.hub
    keep_waiting (refusal call n e) after = waiting early π
    keep_waiting (quietly t i n) after = waiting early π
    keep_waiting (event call e a) after = keep_event call e a (entry call taken ∷ past) after (which (ltb (time call) (f * p.frame)))
    keep_waiting (granting t d c i e l n) after = keep_turn t d c e n after (which (ltb d (f * p.frame)))
    keep_waiting (rested t d i e l n) after = keep_rest t d (M.rested σ).moves e n after (which (ltb d (f * p.frame)))
