-- Every call keeps what holds of the recorded times, by the way that it goes: the clock comes to its time, and the entry makes its change.
use Prim.Native.Nat.{ℕ, ◌*◌, ◌≤◌}
use mathlib.Core.Path.{◌≡◌, refl, sym, ap, ap₂, ◌∙◌, subst}
use mathlib.Core.Bool.{true, false}
use mathlib.Core.List.{List, ◌∷◌}
use native.Mathlib.Omega.{arith}
use lib.Dec.{eqb}
use borrow.Author.Tests.{eq-eqb, eqb-true}
use Rattle.std.specs.Prelude.{if◌then◌else◌}
use Rattle.rules.specs.Choice.{put}
use Rattle.rules.specs.Plan.{Plan}
use Rattle.rules.specs.Call.{Class, normal, high, Call, ask, off, reserve, until, step, time, taken, refused, grant, rest, quiet}
use Rattle.rules.specs.Core.{Core, Request, Share, none, standing, frame_of, advance, is_class, at, due}
use Rattle.rules.specs.Drawn.{Figures}
use Rattle.rules.specs.Rows.{put_up, change}
use Rattle.rules.specs.Machine.{Machine, Hub, Outcome}
use Rattle.rules.specs.Run.{Entry}
use Rattle.rules.specs.Words.{reserved}
use Rattle.rules.specs.WaitWords.{Up, nothing, up, Stand, stand_by, first_put_up, up_by, up_at}
use Rattle.rules.specs.Waits.{come_to, recorded, watch}
use Rattle.rules.proofs.Laws.Passes.{Which, which, yes', no'}
use Rattle.rules.proofs.Laws.Frames.{starts}
use Rattle.rules.proofs.Flat.Follows.{Follows}
use Rattle.rules.proofs.Core.CallCases.{Event, asking, leaving, reserving, waiting, in_time_lem, Course, refusal, event, quietly, granting, resting}
use Rattle.rules.proofs.Core.ClockAdvance.{advance_clock, due_late}
use Rattle.rules.proofs.Core.AlwaysSound.{Good}
use Rattle.rules.proofs.Core.WordsAndCore.{Reads, advance-reads}
use Rattle.rules.proofs.Core.OneMoreEntry.{other_way_round, reserves-later, refused-reserves}
use Rattle.rules.proofs.Waits.Marks.{Marks, neither, plain, kept, marks_on, stand_told, first-put-up}
use Rattle.rules.proofs.Waits.Coming.{Recorded, come_recorded}

-- a refused call puts nothing up
refused_ups : (p : Plan) (k : ℕ) (call : Call) (n : ℕ) (past : List Entry) (r : Up) → up_by p k call (refused n) past r ≡ r
refused_ups p k (ask c t j b) n past r = refl
refused_ups p k (off t j) n past r = refl
refused_ups p k (reserve t j m b) n past r = refl
refused_ups p k (until t) n past r = refl
refused_ups p k (step t) n past r = refl

-- one more entry, by which nothing else is reserved up to the clock's frame
module _ (p : Plan) (past on : List Entry) (clock : ℕ) (request : ℕ → Request) (times : ℕ → ℕ)
    (same : (k f : ℕ) → f ≤ frame_of p clock → reserved p k f on ≡ reserved p k f past) (was : Recorded p past clock request times) where
  -- it puts up and removes nothing
  still : ((k : ℕ) → up_at p k on ≡ up_at p k past) → Recorded p on clock request times
  still ups = record { marks = λ k. rw (ups k) (marks_on p k (same k) (was.marks k)); early = was.early }

  -- it puts up or removes k's request
  put_recorded : (k : ℕ) (new : ℕ → Up) (q : Request) (after : ℕ → ℕ) → ((j : ℕ) → up_at p j on ≡ (if eqb k j then new j else up_at p j past))
      → ((j : ℕ) → eqb j k ≡ false → after j ≡ times j) → Marks p k on (frame_of p clock) (new k) q (after k) → after k ≤ clock
      → Recorded p on clock (put request k q) after
  put_recorded k new q after ups others mark soon =
      record { marks = λ j. rw (ups j) (marks j (which (eqb j k))); early = λ j. early j (which (eqb j k)) }
    where
      marks : (j : ℕ) → Which (eqb j k)
          → Marks p j on (frame_of p clock) (if eqb k j then new j else up_at p j past) (if eqb j k then q else request j) (after j)
      marks j (yes' e) =
          rw (other_way_round j k e, e)
          (subst (λ (i : ℕ). Marks p i on (frame_of p clock) (new i) q (after i)) (sym (eqb-true j k e)) mark)
      marks j (no' e) = rw (other_way_round j k e, e, others j e) (marks_on p j (same j) (was.marks j))

      early : (j : ℕ) → Which (eqb j k) → after j ≤ clock
      early j (yes' e) = subst (λ (i : ℕ). after i ≤ clock) (sym (eqb-true j k e)) soon
      early j (no' e) = omega (arith, others j e, was.early j)

-- a request as it is put up
new_marks : (p : Plan) (k : ℕ) (on : List Entry) (now : ℕ) (d : Class) (since t b : ℕ) → now ≡ frame_of p t
    → Marks p k on now (up d since t b) (standing d b) since
new_marks p k on now normal since t b e = plain since t b
new_marks p k on now high since t b e = kept since t b (omega arith) (λ f l u. absurd (omega arith))

-- an accepted request of k, once the clock has come to its time
module _ (p : Plan) (past : List Entry) (s : Core) (times : ℕ → ℕ) (reads : Reads p past s) (was : Recorded p past s.clock s.request times)
    (c : Class) (t k b : ℕ) (now : s.clock ≡ t) where
  same_frame_lem : frame_of p s.clock ≡ frame_of p t
  same_frame_lem = ap (λ (u : ℕ). frame_of p u) now

  abbrev class : Class
  class = put_up (s.force k) c

  abbrev after : ℕ → ℕ
  after = recorded p (ask c t k b) s times

  -- a request of the class in which one stands keeps that one's time, and any other has its own
  keeps-time : is_class class (s.request k) ≡ true → after k ≡ times k
  keeps-time e = rw (eq-eqb k k refl, e) (omega arith)

  sets_anew : is_class class (s.request k) ≡ false → after k ≡ t
  sets_anew e = rw (eq-eqb k k refl, e) (omega arith)

  -- so its time is the one that the words give it
  abbrev told : ℕ → Up
  told j =
      let d = put_up (reserved p j (frame_of p t) past) c in
      up d (first_put_up d t (stand_by p j t past (up_at p j past))) t b

  put_up_lem : told k ≡ up class (after k) t b
  put_up_lem =
      let r : reserved p k (frame_of p t) past ≡ s.force k = ap (λ (f : ℕ). reserved p k f past) (sym same_frame_lem) ∙ reads.force k in
      let stood = stand_told p k t past (subst (λ (f : ℕ). Marks p k past f (up_at p k past) (s.request k) (times k)) same_frame_lem (was.marks k)) in
      ap₂ (λ (d : Class) (x : Stand). up d (first_put_up d t x) t b) (ap (λ (x : Share). put_up x c) r) stood
      ∙ ap (λ (x : ℕ). up class x t b) (first-put-up class (s.request k) (times k) t (after k) keeps-time sets_anew)

  soon : Which (is_class class (s.request k)) → after k ≤ s.clock
  soon (yes' e) = omega (arith, keeps-time e, was.early k)
  soon (no' e) = omega (arith, sets_anew e)

  ask_recorded : Recorded p (record { call = ask c t k b; answer = taken } ∷ past) s.clock (put s.request k (standing class b)) after
  unfolding up_at reserved
  ask_recorded =
      let on : List Entry = record { call = ask c t k b; answer = taken } ∷ past in
      put_recorded p past on s.clock s.request times (λ j f l. refl) was k told (standing class b) after (λ j. refl)
      (λ j e. rw e) (subst (λ (u : Up). Marks p k on (frame_of p s.clock) u (standing class b) (after k)) (sym put_up_lem)
      (new_marks p k on (frame_of p s.clock) class (after k) t b same_frame_lem)) (soon (which (is_class class (s.request k))))

module _ (p : Plan) (past : List Entry) (s : Core) (times : ℕ → ℕ) (was : Recorded p past s.clock s.request times) where
  -- k's request is removed, and its time is left as it was
  removed : (e : Entry) (k : ℕ) → ((j f : ℕ) → reserved p j f (e ∷ past) ≡ reserved p j f past)
      → ((j : ℕ) → up_at p j (e ∷ past) ≡ (if eqb k j then nothing else up_at p j past)) → Recorded p (e ∷ past) s.clock (put s.request k none) times
  removed e k same ups =
      put_recorded p past (e ∷ past) s.clock s.request times (λ j f l. same j f) was k (λ j. nothing) none times ups
      (λ j e. refl) (neither (times k)) (was.early k)

  event_recorded : Figures p → {call : Call} → Event call → Reads p past s → s.clock ≡ time call
      → Recorded p (record { call = call; answer = taken } ∷ past) (change call s).clock (change call s).request (recorded p call s times)
  unfolding up_at reserved
  event_recorded fig (asking c t k b) reads now = ask_recorded p past s times reads was c t k b now
  event_recorded fig (leaving t k) reads now = removed (record { call = off t k; answer = taken }) k (λ j f. refl) (λ j. refl)
  event_recorded fig (waiting t) reads now =
      still p past (record { call = until t; answer = taken } ∷ past) s.clock s.request times (λ j f l. refl) was (λ j. refl)
  event_recorded fig (reserving t k n b) reads now =
      still p past (record { call = reserve t k n b; answer = taken } ∷ past) s.clock s.request times
      (λ j f l. reserves-later (f * p.frame) j (reserve t k n b) taken (reserved p j f past) (omega (arith, starts p fig f s.clock l))) was (λ j. refl)

module _ (p : Plan) (fig : Figures p) (M : Machine) (follows : Follows p M) (past : List Entry) (h : Hub M.State) (ok : Good p fig M follows h)
    (times : ℕ → ℕ) (reads : Reads p past h.core) (was : Recorded p past h.core.clock h.core.request times) where
  -- once the clock has come to the due instant
  pub instant_recorded : (d : ℕ) → due p h.core ≡ at d
      → Recorded p past (advance p d h.core).clock (advance p d h.core).request (come_to p d h.core times)
  instant_recorded d e = come_recorded p fig past d h.core times (due_late p fig h.core ok.sound d e) reads was

  pub recorded_next : {call : Call} {o : Outcome M.State} → Course p M h call o
      → Recorded p (record { call = call; answer = o.answer } ∷ past) o.hub.core.clock o.hub.core.request (watch p h.core call o.answer times)
  unfolding up_at reserved
  recorded_next (refusal call n e) =
      still p past (record { call = call; answer = refused n } ∷ past) h.core.clock h.core.request times
      (λ k f l. refused-reserves (f * p.frame) k call n (reserved p k f past)) was (λ k. refused_ups p k call n past (up_at p k past))
  recorded_next (quietly t i n) =
      still p past (record { call = step t; answer = quiet } ∷ past) h.core.clock h.core.request times (λ k f l. refl) was (λ k. refl)
  recorded_next (event call e a) =
      let late = (in_time_lem p h.core call a).late in
      event_recorded p past (advance p (time call) h.core) (come_to p (time call) h.core times)
      (come_recorded p fig past (time call) h.core times late reads was) fig e (advance-reads p fig past (time call) h.core late reads)
      (advance_clock p (time call) h.core)
  recorded_next (granting t d c i e l n) =
      removed p past (advance p d h.core) (come_to p d h.core times) (instant_recorded d e)
      (record { call = step t; answer = grant d _ c _ _ }) _ (λ j f. refl) (λ j. refl)
  recorded_next (resting t d i e l n) =
      still p past (record { call = step t; answer = rest d _ } ∷ past) (advance p d h.core).clock (advance p d h.core).request (come_to p d h.core times)
      (λ k f l. refl) (instant_recorded d e) (λ k. refl)
