-- One more entry, and what the words of demand 3 make of it.
use Prim.Native.Nat.{ℕ, suc, ◌+◌, ◌*◌, ◌≤◌, ◌<◌}
use mathlib.Core.Path.{◌≡◌, refl, sym, ap, ◌∙◌, subst}
use mathlib.Core.Bool.{Bool, true, false, ◌&&◌}
use mathlib.Core.List.{List, ◌∷◌}
use native.Mathlib.Omega.{arith}
use native.Mathlib.Numerals.{add-one}
use lib.Dec.{ltb, eqb}
use lib.ListN.{length}
use borrow.Author.Tests.{lt-ltb, le-ltb, eq-eqb, ne_eqb, eqb-true, eqb-false}
use Rattle.std.specs.Prelude.{if◌then◌else◌}
use Rattle.rules.specs.Choice.{put}
use Rattle.rules.specs.Plan.{Plan}
use Rattle.rules.specs.Call.{Class, normal, high, Call, ask, off, reserve, until, step, time, Answer, taken, refused, grant, rest, quiet}
use Rattle.rules.specs.Core.{Core, Request, standing, Share, frame_of}
use Rattle.rules.specs.Drawn.{Figures}
use Rattle.rules.specs.Machine.{granting, restful, one_more}
use Rattle.rules.specs.Rows.{with_request, with_latest, put_up}
use Rattle.rules.specs.Run.{Entry}
use Rattle.rules.specs.Words.{reserved_by, reserved, Asked, asked, asked_by, request_at, ends_by, high_grants}
use Rattle.rules.proofs.Laws.Passes.{Which, which, yes', no'}
use Rattle.rules.proofs.Core.CallCases.{Event, asking, leaving, reserving, waiting}
use Rattle.rules.proofs.Laws.Frames.{starts, starts_later}
use Rattle.rules.proofs.Core.WordsAndCore.{Tells, neither, plain, kept, taken_normal, Reads, tells_on}

-- k = j, asked both ways round
pub other_way_round : (j k : ℕ) {b : Bool} → eqb j k ≡ b → eqb k j ≡ b
other_way_round j k {b = true} e = eq-eqb k j (sym (eqb-true j k e))
other_way_round j k {b = false} e = ne_eqb k j (λ q. eqb-false j k e (sym q))

-- an entry reserves nothing in frames that start by its time
pub reserves-later : (start k : ℕ) (call : Call) (answer : Answer) (r : Share) → start ≤ time call → reserved_by start k call answer r ≡ r
reserves-later start k (ask c t j b) answer r h = refl
reserves-later start k (off t j) answer r h = refl
reserves-later start k (until t) answer r h = refl
reserves-later start k (step t) answer r h = refl
reserves-later start k (reserve t j n b) (refused m) r h = refl
reserves-later start k (reserve t j n b) (grant s i c end moves) r h = refl
reserves-later start k (reserve t j n b) (rest s moves) r h = refl
reserves-later start k (reserve t j n b) quiet r h = refl
reserves-later start k (reserve t j n b) taken r h = go (which (eqb j k))
  where
    go : Which (eqb j k) → (if eqb j k && ltb t start then record { packets = n; bits = b } else r) ≡ r
    go (yes' e) = rw (e, le-ltb t start h)
    go (no' e) = rw e

-- a refused call reserves, asks for and grants nothing
pub refused-reserves : (start k : ℕ) (call : Call) (n : ℕ) (r : Share) → reserved_by start k call (refused n) r ≡ r
refused-reserves start k (ask c t j b) n r = refl
refused-reserves start k (off t j) n r = refl
refused-reserves start k (reserve t j m b) n r = refl
refused-reserves start k (until t) n r = refl
refused-reserves start k (step t) n r = refl

refused_asks : (k : ℕ) (call : Call) (n : ℕ) (a : Asked) → asked_by k call (refused n) a ≡ a
refused_asks k (ask c t j b) n a = refl
refused_asks k (off t j) n a = refl
refused_asks k (reserve t j m b) n a = refl
refused_asks k (until t) n a = refl
refused_asks k (step t) n a = refl

pub refused_ends : (p : Plan) (k f : ℕ) (call : Call) (n : ℕ) (ends : List ℕ) → ends_by p k f call (refused n) ends ≡ ends
refused_ends p k f (ask c t j b) n ends = refl
refused_ends p k f (off t j) n ends = refl
refused_ends p k f (reserve t j m b) n ends = refl
refused_ends p k f (until t) n ends = refl
refused_ends p k f (step t) n ends = refl

-- an event grants nothing
pub event_ends : (p : Plan) (k f : ℕ) {call : Call} (answer : Answer) (ends : List ℕ) → Event call → ends_by p k f call answer ends ≡ ends
event_ends p k f answer ends (asking c t j b) = refl
event_ends p k f answer ends (leaving t j) = refl
event_ends p k f answer ends (reserving t j m b) = refl
event_ends p k f answer ends (waiting t) = refl

-- a grant adds no high grant to another frame, and one of its node to its own if its class is high
module _ (p : Plan) (t d k end m j f : ℕ) where
  pub grant_elsewhere : (c : Class) (ends : List ℕ) → (frame_of p d ≡ f → ⊥) → ends_by p j f (step t) (grant d k c end m) ends ≡ ends
  grant_elsewhere normal ends h = refl
  grant_elsewhere high ends h = go (which (eqb k j))
    where
      go : Which (eqb k j) → (if eqb k j && eqb (frame_of p d) f then end ∷ ends else ends) ≡ ends
      go (yes' e) = rw (e, ne_eqb (frame_of p d) f h)
      go (no' e) = rw e

  grant_counted : (c : Class) (ends : List ℕ) (g : ℕ → ℕ) → frame_of p d ≡ f → length ends ≡ g j
      → length (ends_by p j f (step t) (grant d k c end m) ends) ≡ put g k (one_more c (g k)) j
  grant_counted normal ends g h l = go (which (eqb j k))
    where
      go : Which (eqb j k) → length ends ≡ (if eqb j k then g k else g j)
      go (yes' e) = rw e (l ∙ ap g (eqb-true j k e))
      go (no' e) = rw e l
  grant_counted high ends g h l = go (which (eqb j k))
    where
      go : Which (eqb j k) → length (if eqb k j && eqb (frame_of p d) f then end ∷ ends else ends) ≡ (if eqb j k then g k + 1 else g j)
      go (yes' e) = rw (other_way_round j k e, e, eq-eqb (frame_of p d) f h) (ap suc (l ∙ ap g (eqb-true j k e)) ∙ sym (add-one (g k)))
      go (no' e) = rw (other_way_round j k e, e) l

module _ (p : Plan) (past : List Entry) where
  -- an entry that changes no word
  unchanged : (on : List Entry) (s : Core) → ((k f : ℕ) → reserved p k f on ≡ reserved p k f past) → ((k : ℕ) → request_at k on ≡ request_at k past)
      → ((k f : ℕ) → high_grants p k f on ≡ high_grants p k f past) → Reads p past s → Reads p on s
  unchanged on s r a g was =
      record {
        force = λ k. r k _ ∙ was.force k;
        latest = λ k f l. r k f ∙ was.latest k f l;
        request = λ k. rw (a k) (tells_on p k (λ f l. r k f) (was.request k));
        granted = λ k. ap length (g k _) ∙ was.granted k;
        none-later = λ k f l. g k f ∙ was.none-later k f l;
      }

  pub refused-reads : (call : Call) (n : ℕ) (s : Core) → Reads p past s → Reads p (record { call = call; answer = refused n } ∷ past) s
  unfolding reserved request_at high_grants
  refused-reads call n s was =
      unchanged (record { call = call; answer = refused n } ∷ past) s (λ k f. refused-reserves (f * p.frame) k call n (reserved p k f past))
      (λ k. refused_asks k call n (request_at k past)) (λ k f. refused_ends p k f call n (high_grants p k f past)) was

  pub quiet-reads : (t : ℕ) (s : Core) → Reads p past s → Reads p (record { call = step t; answer = quiet } ∷ past) s
  unfolding reserved request_at high_grants
  quiet-reads t s was = unchanged (record { call = step t; answer = quiet } ∷ past) s (λ k f. refl) (λ k. refl) (λ k f. refl) was

  pub rest-reads : (t d m : ℕ) (s : Core) → Reads p past s → Reads p (record { call = step t; answer = rest d m } ∷ past) (restful s)
  unfolding reserved request_at high_grants
  rest-reads t d m s was =
      let r = unchanged (record { call = step t; answer = rest d m } ∷ past) s (λ k f. refl) (λ k. refl) (λ k f. refl) was in
      record { force = r.force; latest = r.latest; request = r.request; granted = r.granted; none-later = r.none-later }

  -- a new request, or none, of node k
  module _ (on : List Entry) (s : Core) (same : (k f : ℕ) → f ≤ frame_of p s.clock → reserved p k f on ≡ reserved p k f past) (was : Reads p past s) where
    put-tells : (k : ℕ) (a : Asked) (q : Request) → Tells p k on (frame_of p s.clock) a q
        → (j : ℕ) → Tells p j on (frame_of p s.clock) (if eqb k j then a else request_at j past) (put s.request k q j)
    put-tells k a q new j = go (which (eqb j k))
      where
        go : Which (eqb j k) → Tells p j on (frame_of p s.clock) (if eqb k j then a else request_at j past) (if eqb j k then q else s.request j)
        go (yes' e) = rw (other_way_round j k e, e) (subst (λ (i : ℕ). Tells p i on (frame_of p s.clock) a q) (sym (eqb-true j k e)) new)
        go (no' e) = rw (other_way_round j k e, e) (tells_on p j (same j) (was.request j))

  module _ (s : Core) (was : Reads p past s) where
    pub ask-reads : (c : Class) (t k b : ℕ) → s.clock ≡ t
        → Reads p (record { call = ask c t k b; answer = taken } ∷ past) (with_request k (standing (put_up (s.force k) c) b) s)
    unfolding reserved request_at high_grants
    ask-reads c t k b now =
        record {
          force = was.force;
          latest = was.latest;
          request =
              put-tells (record { call = ask c t k b; answer = taken } ∷ past) s (λ k f l. refl) was k (asked c t b) (standing (put_up (s.force k) c) b) (new c);
          granted = was.granted;
          none-later = was.none-later;
        }
      where
        same : frame_of p s.clock ≡ frame_of p t
        same = ap (λ (u : ℕ). frame_of p u) now

        there : (reserved p k (frame_of p t) past).packets ≡ (s.force k).packets
        there = ap (λ (f : ℕ). (reserved p k f past).packets) (sym same) ∙ ap (λ (r : Share). r.packets) (was.force k)

        new : (c : Class) → Tells p k (record { call = ask c t k b; answer = taken } ∷ past) (frame_of p s.clock) (asked c t b) (standing (put_up (s.force k) c) b)
        new normal = plain t b
        new high = go (which (eqb (s.force k).packets 0))
          where
            go : Which (eqb (s.force k).packets 0)
                → Tells p k (record { call = ask high t k b; answer = taken } ∷ past) (frame_of p s.clock) (asked high t b) (standing (put_up (s.force k) high) b)
            go (yes' z) = rw z (taken_normal t b (omega (arith, same)) (there ∙ eqb-true (s.force k).packets 0 z))
            go (no' z) =
                rw z (kept t b (omega (arith, same)) (omega (arith, there, eqb-false (s.force k).packets 0 z)) (λ f m u. absurd (omega (arith, same))))

    pub off-reads : (t k : ℕ) → Reads p (record { call = off t k; answer = taken } ∷ past) (with_request k Request.none s)
    unfolding reserved request_at high_grants
    off-reads t k =
        record {
          force = was.force;
          latest = was.latest;
          request = put-tells (record { call = off t k; answer = taken } ∷ past) s (λ k f l. refl) was k Asked.none Request.none neither;
          granted = was.granted;
          none-later = was.none-later;
        }

    pub until-reads : (t : ℕ) → Reads p (record { call = until t; answer = taken } ∷ past) s
    unfolding reserved request_at high_grants
    until-reads t = unchanged (record { call = until t; answer = taken } ∷ past) s (λ k f. refl) (λ k. refl) (λ k f. refl) was

    -- a reservation: in frames that start by its time all is as it was, and in later ones it is the latest
    pub reserve-reads : Figures p → (t k n b : ℕ) → s.clock ≡ t
        → Reads p (record { call = reserve t k n b; answer = taken } ∷ past) (with_latest k (record { packets = n; bits = b }) s)
    unfolding reserved request_at high_grants
    reserve-reads fig t k n b now =
        record {
          force = λ j. earlier j (frame_of p s.clock) (omega arith) ∙ was.force j;
          latest = λ j f l. later j f l (which (eqb j k));
          request = λ j. tells_on p j (earlier j) (was.request j);
          granted = was.granted;
          none-later = was.none-later;
        }
      where
        earlier : (j f : ℕ) → f ≤ frame_of p s.clock
            → reserved_by (f * p.frame) j (reserve t k n b) taken (reserved p j f past) ≡ reserved p j f past
        earlier j f l =
            reserves-later (f * p.frame) j (reserve t k n b) taken (reserved p j f past) (omega (arith, starts p fig f s.clock l))

        later : (j f : ℕ) → frame_of p s.clock < f → Which (eqb j k)
            → (if eqb k j && ltb t (f * p.frame) then record { packets = n; bits = b } else reserved p j f past)
            ≡ (if eqb j k then record { packets = n; bits = b } else s.latest j)
        later j f l (yes' e) =
            let m : t < f * p.frame = omega (arith, starts_later p fig f s.clock l) in
            rw (other_way_round j k e, e, lt-ltb t (f * p.frame) m)
        later j f l (no' e) = rw (other_way_round j k e, e) (was.latest j f l)

    -- a grant: the request is removed, and a high one is one more in the clock's frame
    pub grant-reads : (t d k end m : ℕ) (c : Class) → s.clock ≡ d
        → Reads p (record { call = step t; answer = grant d k c end m } ∷ past) (granting k c end s)
    unfolding reserved request_at high_grants
    grant-reads t d k end m c now =
        record {
          force = was.force;
          latest = was.latest;
          request =
              put-tells (record { call = step t; answer = grant d k c end m } ∷ past) s (λ k f l. refl) was k Asked.none Request.none neither;
          granted = λ j. grant_counted p t d k end m j (frame_of p s.clock) c _ s.granted (ap (λ (u : ℕ). frame_of p u) (sym now)) (was.granted j);
          none-later = λ j f l.
              grant_elsewhere p t d k end m j f c _ (λ q. (let same = ap (λ (u : ℕ). frame_of p u) now in omega arith)) ∙ was.none-later j f l;
        }
