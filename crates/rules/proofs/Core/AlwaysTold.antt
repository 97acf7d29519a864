-- `Told` holds at every place of a run: the words of demand 3 agree with the core.
use Prim.Native.Nat.{ℕ, ◌≤◌, ◌<◌}
use mathlib.Core.Path.{◌≡◌, refl, sym, ◌∙◌, subst}
use mathlib.Core.List.{List, [], ◌∷◌}
use Rattle.rules.specs.Plan.{Plan}
use Rattle.rules.specs.Call.{high, Call, time, taken}
use Rattle.rules.specs.Core.{Core, Request, standing, fresh, frame_of, advance, at, due}
use Rattle.rules.specs.Drawn.{Figures}
use Rattle.rules.specs.Rows.{change}
use Rattle.rules.specs.Machine.{Machine, Hub, Outcome}
use Rattle.rules.specs.Run.{Entry, made}
use Rattle.rules.specs.Words.{clock_at, reserved, Asked, asked, request_at, Keeps, high_grants}
use Rattle.rules.specs.Promises.{Acceptable, asks, leaves, reserves, waits}
use Rattle.rules.proofs.Core.Acceptance.{acceptable}
use Rattle.rules.proofs.Core.CallCases.{Event, asking, leaving, reserving, waiting, in_time_lem, Course, refusal, event, quietly, granting, resting, course}
use Rattle.rules.proofs.Flat.Follows.{Follows}
use Rattle.rules.proofs.Core.Sound.{Told}
use Rattle.rules.proofs.Core.ClockAdvance.{advance_clock, due_late}
use Rattle.rules.proofs.Core.AlwaysSound.{Good, good}
use Rattle.rules.proofs.Core.WordsAndCore.{Tells, neither, plain, kept, made_normal_lem, taken_normal, not_both, Reads, advance-reads}
use Rattle.rules.proofs.Core.OneMoreEntry.{refused-reads, quiet-reads, rest-reads, ask-reads, off-reads, until-reads, reserve-reads, grant-reads}
use Rattle.rules.proofs.Laws.Clash.{clash}

-- an accepted event moves the clock only by the advance
pub event_clock : {call : Call} → Event call → (s : Core) → (change call s).clock ≡ s.clock
event_clock (asking c t k b) s = refl
event_clock (leaving t k) s = refl
event_clock (reserving t k n b) s = refl
event_clock (waiting t) s = refl

module _ (p : Plan) (fig : Figures p) (past : List Entry) where
  event-reads : (s : Core) {call : Call} → Acceptable p s call → Reads p past (advance p (time call) s)
      → Reads p (record { call = call; answer = taken } ∷ past) (change call (advance p (time call) s))
  event-reads s (asks c t k b a) was = ask-reads p past (advance p t s) was c t k b (advance_clock p t s)
  event-reads s (leaves t k o w) was = off-reads p past (advance p t s) was t k
  event-reads s (reserves t k n b a) was = reserve-reads p past (advance p t s) was fig t k n b (advance_clock p t s)
  event-reads s (waits t o) was = until-reads p past (advance p t s) was t

  module _ (M : Machine) (follows : Follows p M) (h : Hub M.State) (ok : Good p fig M follows h) (was : Reads p past h.core) where
    -- the words are the same once the clock has come to the due instant
    instant-reads : (d : ℕ) → due p h.core ≡ at d → Reads p past (advance p d h.core)
    instant-reads d e = advance-reads p fig past d h.core (due_late p fig h.core ok.sound d e) was

    reads_next : {call : Call} {o : Outcome M.State} → Course p M h call o → Reads p (record { call = call; answer = o.answer } ∷ past) o.hub.core
    reads_next (refusal call n e) = refused-reads p past call n h.core was
    reads_next (event call e a) =
        event-reads h.core (acceptable p h.core e a)
        (advance-reads p fig past (time call) h.core (in_time_lem p h.core call a).late was)
    reads_next (quietly t i n) = quiet-reads p past t h.core was
    reads_next (granting t d c i e l n) =
        grant-reads p past (advance p d h.core) (instant-reads d e) t d _ _ _ c (advance_clock p d h.core)
    reads_next (resting t d i e l n) = rest-reads p past t d _ (advance p d h.core) (instant-reads d e)

    clock_next : {call : Call} {o : Outcome M.State} → clock_at past ≡ h.core.clock → Course p M h call o
        → clock_at (record { call = call; answer = o.answer } ∷ past) ≡ o.hub.core.clock
    unfolding clock_at
    clock_next was (refusal call n e) = was
    clock_next was (event call e a) =
        sym (event_clock e (advance p (time call) h.core) ∙ advance_clock p (time call) h.core)
    clock_next was (quietly t i n) = was
    clock_next was (granting t d c i e l n) = sym (advance_clock p d h.core)
    clock_next was (resting t d i e l n) = sym (advance_clock p d h.core)

fresh-reads : (p : Plan) → Reads p [] fresh
unfolding reserved request_at high_grants
fresh-reads p =
    record {
      force = λ k. refl;
      latest = λ k f l. refl;
      request = λ k. neither;
      granted = λ k. refl;
      none-later = λ k f l. refl;
    }

-- a request that is high by the words is high in the core, and the other way round
module _ (p : Plan) (k : ℕ) (past : List Entry) (now : ℕ) where
  high_in_core : {a : Asked} {q : Request} → Tells p k past now a q → (t b : ℕ) → a ≡ asked high t b → 1 ≤ (reserved p k (frame_of p t) past).packets
      → ((f : ℕ) → frame_of p t < f → f ≤ now → Keeps (reserved p k f past) b) → q ≡ standing high b
  high_in_core neither t b e some ks = clash (cc)
  high_in_core (plain u c) t b e some ks = clash (cc)
  high_in_core (kept u c l n hs) t b e some ks = let f : c ≡ b = cc in cc
  high_in_core (taken_normal u c l z) t b e some ks = let v : u ≡ t = cc in absurd (not_both p k past u t v z some)
  high_in_core (made_normal_lem u c f l m n) t b e some ks =
      let v : u ≡ t = cc in
      let w : c ≡ b = cc in
      absurd (n (subst (λ (x : ℕ). Keeps (reserved p k f past) x) (sym w) (ks f (subst (λ (x : ℕ). frame_of p x < f) v l) m)))

module _ (p : Plan) (fig : Figures p) (M : Machine) (follows : Follows p M) (some : 1 ≤ p.nodes) where
  pub reads : (calls : List Call) → Reads p (made p M calls).past (made p M calls).hub.core
  unfolding made
  reads [] = fresh-reads p
  reads (call ∷ earlier) =
      let h = (made p M earlier).hub in
      reads_next p fig (made p M earlier).past M follows h (good p fig M follows some earlier) (reads earlier) (course p M h call)

  pub clock_told : (calls : List Call) → clock_at (made p M calls).past ≡ (made p M calls).hub.core.clock
  unfolding made clock_at
  clock_told [] = refl
  clock_told (call ∷ earlier) =
      let h = (made p M earlier).hub in
      clock_next p fig (made p M earlier).past M follows h (good p fig M follows some earlier) (reads earlier) (clock_told earlier) (course p M h call)

  pub told : (calls : List Call) → Told p (made p M calls).past (made p M calls).hub.core
  told calls =
      let r = reads calls in
      let now = clock_told calls in
      record {
        clock = now;
        force = r.force;
        latest = r.latest;
        high = λ k h. high_in_core p k (made p M calls).past (frame_of p (made p M calls).hub.core.clock) (r.request k) h.put_up h.length h.stands h.in_force
            (λ f l u. h.kept f l (rw now u));
        granted = r.granted;
        none-later = r.none-later;
      }
