-- What a further call leaves as it was: the clock never goes back, what is reserved
-- up to the clock's frame stays, and so do the high grants of frames that are over.
use Prim.Native.Nat.{ℕ, ◌*◌, ◌≤◌, ◌<◌}
use mathlib.Core.Path.{◌≡◌, refl, ◌∙◌}
use mathlib.Core.List.{List, [], ◌∷◌, ◌++◌}
use native.Mathlib.Omega.{arith}
use Rattle.rules.specs.Plan.{Plan}
use Rattle.rules.specs.Call.{Call, time}
use Rattle.rules.specs.Core.{Share, frame_of, advance, counts_in}
use Rattle.rules.specs.Drawn.{Figures}
use Rattle.rules.specs.Machine.{Machine, Hub, Outcome}
use Rattle.rules.specs.Run.{made}
use Rattle.rules.specs.Words.{reserved_by, reserved, ends_by, high_grants}
use Rattle.rules.proofs.Core.CallCases.{in_time_lem, Course, refusal, event, quietly, granting, resting, course}
use Rattle.rules.proofs.Laws.Frames.{frame_mono, starts}
use Rattle.rules.proofs.Flat.Follows.{Follows}
use Rattle.rules.proofs.Core.ClockAdvance.{advance_clock, due_late}
use Rattle.rules.proofs.Core.AlwaysSound.{Good, good}
use Rattle.rules.proofs.Core.AlwaysTold.{event_clock}
use Rattle.rules.proofs.Core.OneMoreEntry.{reserves-later, refused-reserves, refused_ends, event_ends, grant_elsewhere}

module _ (p : Plan) (fig : Figures p) (M : Machine) (follows : Follows p M) where
  -- over one call, by the way that it goes
  module _ (h : Hub M.State) (ok : Good p fig M follows h) where
    later_clock : {call : Call} {o : Outcome M.State} → Course p M h call o → h.core.clock ≤ o.hub.core.clock
    later_clock (refusal call n e) = omega arith
    later_clock (event call e a) =
        rw (event_clock e (advance p (time call) h.core), advance_clock p (time call) h.core) (in_time_lem p h.core call a).late
    later_clock (quietly t i n) = omega arith
    later_clock (granting t d c i e l n) = rw (advance_clock p d h.core) (due_late p fig h.core ok.sound d e)
    later_clock (resting t d i e l n) = rw (advance_clock p d h.core) (due_late p fig h.core ok.sound d e)

    same-reserved : {call : Call} {o : Outcome M.State} → Course p M h call o → (k f : ℕ) (r : Share) → f ≤ frame_of p o.hub.core.clock
        → reserved_by (f * p.frame) k call o.answer r ≡ r
    same-reserved (refusal call n e) k f r l = refused-reserves (f * p.frame) k call n r
    same-reserved (event call e a) k f r l =
        let now = event_clock e (advance p (time call) h.core) ∙ advance_clock p (time call) h.core in
        reserves-later (f * p.frame) k call _ r (starts p fig f (time call) (rw now at l))
    same-reserved (quietly t i n) k f r l = refl
    same-reserved (granting t d c i e m n) k f r l = refl
    same-reserved (resting t d i e m n) k f r l = refl

    same_grants : {call : Call} {o : Outcome M.State} → Course p M h call o → (k f : ℕ) (ends : List ℕ) → f < frame_of p h.core.clock
        → ends_by p k f call o.answer ends ≡ ends
    same_grants (refusal call n e) k f ends l = refused_ends p k f call n ends
    same_grants (event call e a) k f ends l = event_ends p k f _ ends e
    same_grants (quietly t i n) k f ends l = refl
    same_grants (granting t d c i e m n) k f ends l =
        let late = frame_mono p fig h.core.clock d (due_late p fig h.core ok.sound d e) in
        let turn = M.choose c (counts_in c (advance p d h.core)) h.turn in
        grant_elsewhere p t d turn.node _ turn.moves k f c ends (λ q. omega arith)
    same_grants (resting t d i e m n) k f ends l = refl

  -- over a run
  module _ (some : 1 ≤ p.nodes) where
    abbrev pub clock_of : List Call → ℕ
    clock_of calls = (made p M calls).hub.core.clock

    pub clock_grows : (call : Call) (earlier : List Call) → clock_of earlier ≤ clock_of (call ∷ earlier)
    unfolding made
    clock_grows call earlier =
        later_clock (made p M earlier).hub (good p fig M follows some earlier) (course p M (made p M earlier).hub call)

    -- what is reserved in a frame stays once the clock has come to it, even by this very call
    pub reserved-settled : (call : Call) (earlier : List Call) (k f : ℕ) → f ≤ frame_of p (clock_of (call ∷ earlier))
        → reserved p k f (made p M (call ∷ earlier)).past ≡ reserved p k f (made p M earlier).past
    unfolding made reserved
    reserved-settled call earlier k f l =
        same-reserved (made p M earlier).hub (good p fig M follows some earlier) (course p M (made p M earlier).hub call) k f _ l

    pub reserved_stays : (call : Call) (earlier : List Call) (k f : ℕ) → f ≤ frame_of p (clock_of earlier)
        → reserved p k f (made p M (call ∷ earlier)).past ≡ reserved p k f (made p M earlier).past
    reserved_stays call earlier k f l =
        let m = frame_mono p fig (clock_of earlier) (clock_of (call ∷ earlier)) (clock_grows call earlier) in
        reserved-settled call earlier k f (omega arith)

    pub grants_stay : (call : Call) (earlier : List Call) (k f : ℕ) → f < frame_of p (clock_of earlier)
        → high_grants p k f (made p M (call ∷ earlier)).past ≡ high_grants p k f (made p M earlier).past
    unfolding made high_grants
    grants_stay call earlier k f l =
        same_grants (made p M earlier).hub (good p fig M follows some earlier) (course p M (made p M earlier).hub call) k f _ l

    -- over any number of further calls
    pub clock_grows_on : (later earlier : List Call) → clock_of earlier ≤ clock_of (later ++ earlier)
    clock_grows_on [] earlier = omega arith
    clock_grows_on (call ∷ later) earlier = omega (arith, clock_grows_on later earlier, clock_grows call (later ++ earlier))

    frame_grows_on : (later earlier : List Call) → frame_of p (clock_of earlier) ≤ frame_of p (clock_of (later ++ earlier))
    frame_grows_on later earlier = frame_mono p fig (clock_of earlier) (clock_of (later ++ earlier)) (clock_grows_on later earlier)

    pub reserved_stays_on : (later earlier : List Call) (k f : ℕ) → f ≤ frame_of p (clock_of earlier)
        → reserved p k f (made p M (later ++ earlier)).past ≡ reserved p k f (made p M earlier).past
    reserved_stays_on [] earlier k f l = refl
    reserved_stays_on (call ∷ later) earlier k f l =
        reserved_stays call (later ++ earlier) k f (omega (arith, frame_grows_on later earlier)) ∙ reserved_stays_on later earlier k f l

    pub grants_stay_on : (later earlier : List Call) (k f : ℕ) → f < frame_of p (clock_of earlier)
        → high_grants p k f (made p M (later ++ earlier)).past ≡ high_grants p k f (made p M earlier).past
    grants_stay_on [] earlier k f l = refl
    grants_stay_on (call ∷ later) earlier k f l =
        grants_stay call (later ++ earlier) k f (omega (arith, frame_grows_on later earlier)) ∙ grants_stay_on later earlier k f l
