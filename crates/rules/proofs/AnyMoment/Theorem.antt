-- Request 5 of document 02 over every list of calls, for every turn machine that follows the flat rule.
-- One induction over the calls behind the request; a frame's start among them is a call like any other.
use Prim.Native.Nat.{ℕ, ◌+◌, ◌≤◌, ◌<◌}
use mathlib.Core.Path.{◌≡◌, refl, sym, ap, ap₂, ◌∙◌, subst, fun_ext}
use mathlib.Core.Bool.{true}
use mathlib.Core.List.{List, [], ◌∷◌, ◌++◌, append_cancel_right}
use native.Mathlib.Omega.{arith}
use lib.ListN.{length}
use borrow.Author.Tests.{eq-eqb}
use Rattle.rules.specs.Plan.{Plan}
use Rattle.rules.specs.Drawn.{Within, Figures, Drawn}
use Rattle.rules.specs.Call.{high, Call, ask, taken}
use Rattle.rules.specs.Core.{Share, standing, Line, busy, resting, frame_of}
use Rattle.rules.specs.Control.{control}
use Rattle.rules.specs.Machine.{Machine, perform}
use Rattle.rules.specs.Run.{Entry, made}
use Rattle.rules.specs.Words.{clock_at, reserved, request_at, high_grants}
use Rattle.rules.specs.Demand.{RunTo}
use Rattle.rules.specs.AnyMoment.{none, granted, first_grant, kept_standing, waits_to, wait_limit, far_enough, PutUp, Served, AnyMoment}
use Rattle.rules.proofs.Flat.Follows.{Follows}
use Rattle.rules.proofs.Control.FollowsFlat.{control_follows}
use Rattle.rules.proofs.Laws.Frames.{frame_mono}
use Rattle.rules.proofs.Core.CallCases.{resting, course}
use Rattle.rules.proofs.Core.ClockAdvance.{due_late}
use Rattle.rules.proofs.Core.AlwaysSound.{good, sound}
use Rattle.rules.proofs.Core.AlwaysTold.{told}
use Rattle.rules.proofs.Core.Stable.{clock_grows_on, reserved-settled, reserved_stays_on}
use Rattle.rules.proofs.Core.Places.{MadeAt, made_at, entries, entries_of_lem}
use Rattle.rules.proofs.Demand3.RunTo.{not_run_to}
use Rattle.rules.proofs.Demand3.Fair.{reach, zero_fair}
use Rattle.rules.proofs.Demand3.LineWhileWaiting.{Held, until_end, at_rest}
use Rattle.rules.proofs.AnyMoment.Waiting.{within_limit, waiting_due}
use Rattle.rules.proofs.AnyMoment.Serving.{Progress, waits, served, keep}
use Rattle.rules.proofs.AnyMoment.Undisturbed.{clock, Undisturbed, waits_now, shorter}

module _ (p : Plan) (fig : Figures p) (M : Machine) (follows : Follows p M) (some : 1 ≤ p.nodes) (k t b : ℕ) (earlier : List Call) where
  -- the calls up to the request, with it; the entries of the calls behind it; and what is reserved in its frame
  abbrev asked : List Call
  asked = ask high t k b ∷ earlier

  abbrev since : List Call → List Entry
  since newer = entries p M newer asked

  abbrev R : ℕ → Share
  R j = reserved p j (frame_of p t) (made p M asked).past

  abbrev Kept : List Call → Type 0
  Kept newer = Undisturbed p M k asked newer (frame_of p t) R

  -- the request is accepted
  abbrev Taken : Type 0
  Taken = (made p M asked).past ≡ record { call = ask high t k b; answer = taken } ∷ (made p M earlier).past

  clock_there : Taken → (made p M asked).hub.core.clock ≡ t
  unfolding clock_at
  clock_there here = sym (told p fig M follows some asked).clock ∙ ap clock_at here

  -- what is reserved in its frame stays
  stays_reserved : Taken → (newer : List Call) (j : ℕ) → reserved p j (frame_of p t) (made p M (newer ++ asked)).past ≡ R j
  stays_reserved here newer j =
      let now = ap (frame_of p) (clock_there here) in
      reserved_stays_on p fig M follows some newer asked j (frame_of p t) (omega arith)

  module _ (here : Taken) (left : length (high_grants p k (frame_of p t) (made p M earlier).past) < (R k).packets) where
    clock_here : (made p M asked).hub.core.clock ≡ t
    clock_here = clock_there here

    -- the request stands high, and so it is of a node of the plan
    stands_here : (made p M asked).hub.core.request k ≡ standing high b
    unfolding request_at
    stands_here =
        let now = ap (frame_of p) ((told p fig M follows some asked).clock ∙ clock_here) in
        (told p fig M follows some asked).high k
        (record {
          put_up = t;
          length = b;
          stands = ap (request_at k) here ∙ rw (eq-eqb k k refl);
          in_force = omega (arith, left);
          kept = λ f l u. absurd (omega arith);
        })

    node : Within p.nodes k
    node = (sound p fig M follows some asked).node k b high stands_here

    force_here : (j : ℕ) → (made p M asked).hub.core.force j ≡ R j
    force_here j =
        let reads = (told p fig M follows some asked).force j in
        sym (subst (λ (x : ℕ). reserved p j (frame_of p x) (made p M asked).past ≡ (made p M asked).hub.core.force j) clock_here reads)

    left_here : (made p M asked).hub.core.granted k < (R k).packets
    unfolding high_grants
    left_here =
        let counted = (told p fig M follows some asked).granted k in
        let in_frame = ap (λ (x : ℕ). length (high_grants p k (frame_of p x) (made p M asked).past)) clock_here in
        let before = ap (λ (x : List Entry). length (high_grants p k (frame_of p t) x)) here in
        omega (arith, left)

    held_here : (l : Line) → (made p M asked).hub.core.line ≡ l → Held (reach p t R (λ j. 0)) (made p M asked).hub.core.clock 0 l
    held_here (busy e) q = until_end e (omega (arith, clock_here, (sound p fig M follows some asked).end_soon e q, fig.interrupt_low))
    held_here resting q = at_rest (omega (arith, clock_here)) refl

    at_first : Progress p fig M follows k t node R [] (made p M asked).hub
    unfolding first_grant
    at_first =
        let at_place = good p fig M follows some asked in
        let bits = ap (λ (r : Share). r.bits) (force_here k) in
        waits refl
        (record {
          since_start = λ j. 0;
          pointed = at_place.pointed;
          waiting =
              record {
                stands = record { bits = b; is = stands_here; fits = omega (arith, (at_place.sound.allowed k b stands_here).fits) };
                left = left_here;
                force = λ j v. force_here j;
                fair = zero_fair k (at_place.pointed.pointers high);
                none_yet = refl;
                within = λ j. omega arith;
                held = held_here (made p M asked).hub.core.line refl;
              };
        })

    -- while k waits, what comes into force is what was reserved at first
    same_latest : (call : Call) (newer : List Call) → Kept (call ∷ newer) → first_grant k (since newer) ≡ none
        → frame_of p (clock p M asked newer) < frame_of p (clock p M asked (call ∷ newer)) → (j : ℕ) → Within p.nodes j
        → (made p M (newer ++ asked)).hub.core.latest j ≡ R j
    same_latest call newer u n l j v =
        let f = frame_of p (clock p M asked (call ∷ newer)) in
        let onward = frame_mono p fig (clock p M asked []) (clock p M asked newer) (clock_grows_on p fig M follows some newer asked) in
        let first = ap (frame_of p) clock_here in
        let last = ap (frame_of p) (waits_now p fig M follows some k asked call newer n) in
        sym ((told p fig M follows some (newer ++ asked)).latest j f l)
        ∙ sym (reserved-settled p fig M follows some call (newer ++ asked) j f (omega arith))
        ∙ u.unchanged j f v (omega arith) (omega arith)

    progress : (newer : List Call) → Kept newer → Progress p fig M follows k t node R (since newer) (made p M (newer ++ asked)).hub
    unfolding made
    progress [] u = at_first
    progress (call ∷ newer) u =
        let h = (made p M (newer ++ asked)).hub in
        keep p fig M follows k t node R (since newer) h (good p fig M follows some (newer ++ asked)) (course p M h call) (same_latest call newer u)
        u.stands (progress newer (shorter p fig M follows some k asked call newer (frame_of p t) R u))

    -- where k still waits, the list is not run to the limit
    in_time_lem : (newer : List Call) → RunTo (t + wait_limit p k R + 1) (made p M (newer ++ asked)).past
        → Progress p fig M follows k t node R (since newer) (made p M (newer ++ asked)).hub
        → (s : ℕ) × (first_grant k (since newer) ≡ granted high s) × (s ≤ t + wait_limit p k R)
    in_time_lem newer run (served s g l) = (s, g, l)
    in_time_lem newer run (waits n x) =
        let core = (made p M (newer ++ asked)).hub.core in
        let G = x.since_start in
        let a = x.pointed.pointers high in
        let limit = within_limit p k t R G core a x.waiting in
        let soon = waiting_due p k t R G core a x.waiting node in
        let late = due_late p fig core (sound p fig M follows some (newer ++ asked)) soon.time soon.is in
        absurd
        (not_run_to p fig M follows some (newer ++ asked) (t + wait_limit p k R + 1) (omega (arith, soon.soon))
        (record { time = soon.time; is = soon.is; soon = omega (arith, soon.soon) }) run)

  -- the whole list's words are those of the calls up to the request and behind it
  module _ (newer : List Call) (answer : (perform p M (ask high t k b) (made p M earlier).hub).answer ≡ taken)
      (r : PutUp p k t (made p M (newer ++ asked)).past) (bits : r.bits ≡ b) (before : r.before ≡ (made p M earlier).past) where
    here : Taken
    unfolding made
    here = rw answer

    shares : (λ (j : ℕ). reserved p j (frame_of p t) (made p M (newer ++ asked)).past) ≡ R
    shares = fun_ext (stays_reserved here newer)

    behind : since newer ≡ r.since
    behind =
        append_cancel_right (since newer) r.since (made p M asked).past
        (sym (entries_of_lem p M newer asked) ∙ r.place ∙ ap (λ (x : List Entry). r.since ++ x) (rw (bits, before) (sym here)))

    left : length (high_grants p k (frame_of p t) (made p M earlier).past) < (R k).packets
    left =
        let n = ap (λ (x : Share). x.packets) (stays_reserved here newer k) in
        let g = ap (λ (x : List Entry). length (high_grants p k (frame_of p t) x)) before in
        omega (arith, r.left)

    undisturbed : Kept newer
    undisturbed =
        let clock_told = (told p fig M follows some (newer ++ asked)).clock in
        let frame = ap₂ (λ (l : List Entry) (x : ℕ). frame_of p (waits_to (first_grant k l) x)) behind (sym clock_told) in
        record {
          stands = subst (λ (l : List Entry). kept_standing k l ≡ true) (sym behind) r.stands;
          unchanged = λ j f v low up. r.unchanged j f v low (omega arith) ∙ stays_reserved here newer j;
        }

    in_all : RunTo (far_enough p k t (made p M (newer ++ asked)).past) (made p M (newer ++ asked)).past
        → Served p k t (made p M (newer ++ asked)).past r.since
    in_all run =
        let limit = ap (wait_limit p k) shares in
        let reached = subst (λ (x : ℕ). RunTo (t + x + 1) (made p M (newer ++ asked)).past) limit run in
        let done = in_time_lem here left newer reached (progress here left newer undisturbed) in
        record {
          time = done.0;
          is = subst (λ (l : List Entry). first_grant k l ≡ granted high done.0) behind done.1;
          soon = omega (arith, done.2);
        }

module _ (p : Plan) (fig : Figures p) (M : Machine) (follows : Follows p M) (some : 1 ≤ p.nodes) (calls : List Call) where
  pub any_moment : AnyMoment p (made p M calls).past
  any_moment = record { served = λ k t r run. at_place k t r (made_at p M calls r.since _ r.before r.place) run }
    where
      at_place : (k t : ℕ) (r : PutUp p k t (made p M calls).past) → MadeAt p M calls (record { call = ask high t k r.bits; answer = taken }) r.before
          → RunTo (far_enough p k t (made p M calls).past) (made p M calls).past → Served p k t (made p M calls).past r.since
      at_place k t r at =
          subst
          (λ (x : List Call). (q : PutUp p k t (made p M x).past) → q.bits ≡ r.bits → q.before ≡ (made p M at.earlier).past
          → RunTo (far_enough p k t (made p M x).past) (made p M x).past → Served p k t (made p M x).past q.since)
          (sym at.split) (in_all p fig M follows some k t r.bits at.earlier at.newer (sym at.answer)) r refl at.past

-- of hub-by-hub control, for every plan that is taken
pub control_any_moment : (p : Plan) → Drawn p → (calls : List Call) → AnyMoment p (made p (control p) calls).past
control_any_moment p drawn calls = any_moment p drawn.figures (control p) (control_follows p drawn) drawn.some_node calls
