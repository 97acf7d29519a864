-- What is recorded is what the words tell, at every place of a run and at every grant.
use Prim.Native.Nat.{ℕ, ◌+◌, ◌≤◌}
use mathlib.Core.Path.{◌≡◌, refl, sym, ap, ◌∙◌, subst}
use mathlib.Core.Logic.{◌↔◌}
use mathlib.Core.List.{List, [], ◌∷◌, ◌++◌}
use native.Mathlib.Omega.{arith}
use Rattle.rules.specs.Plan.{Plan}
use Rattle.rules.specs.Drawn.{Drawn, Figures}
use Rattle.rules.specs.Call.{Class, normal, high, Call, step, Answer, taken, refused, grant, rest, quiet}
use Rattle.rules.specs.Core.{Request, none, standing, frame_of, advance, counts_in}
use Rattle.rules.specs.Machine.{Machine, Hub, Outcome, perform}
use Rattle.rules.specs.Control.{control}
use Rattle.rules.specs.Run.{Entry, Made, made}
use Rattle.rules.specs.Words.{clock_at, High}
use Rattle.rules.specs.WaitWords.{absent, stands, up_at, stand_at}
use Rattle.rules.specs.Waits.{come_to, watch, wait_of, Timed, watched, entries_of, stand_of, WaitTold, Waits}
use Rattle.rules.proofs.Flat.Follows.{Follows}
use Rattle.rules.proofs.Flat.Turns.{node_counts}
use Rattle.rules.proofs.Core.Requests.{counts-stands}
use Rattle.rules.proofs.Core.CallCases.{Course, refusal, event, quietly, granting, resting, course}
use Rattle.rules.proofs.Core.ClockAdvance.{advance_clock}
use Rattle.rules.proofs.Core.AlwaysSound.{Good, good, turn_counts}
use Rattle.rules.proofs.Core.WordsAndCore.{Reads}
use Rattle.rules.proofs.Core.AlwaysTold.{reads, clock_told, told}
use Rattle.rules.proofs.Core.HighExactly.{core_high}
use Rattle.rules.proofs.Laws.Clash.{clash}
use Rattle.rules.proofs.Control.FollowsFlat.{control_follows}
use Rattle.rules.proofs.Waits.SameRun.{same_hub, unaffected, timed_at}
use Rattle.rules.proofs.Waits.Marks.{Marks, neither, stand_told}
use Rattle.rules.proofs.Waits.Coming.{Recorded}
use Rattle.rules.proofs.Waits.OneStart.{one_start}
use Rattle.rules.proofs.Waits.OneCall.{instant_recorded, recorded_next}

-- what is said of an answer's wait: of a grant's, and of no other
abbrev ToldOf : Plan → ℕ → List Entry → Answer → Type 0
ToldOf p wait past taken = Unit {0}
ToldOf p wait past (refused n) = Unit {0}
ToldOf p wait past (grant s k c end moves) = WaitTold p k c s wait past
ToldOf p wait past (rest s moves) = Unit {0}
ToldOf p wait past quiet = Unit {0}

-- with the clock at t, the words tell what is recorded
told_at : (p : Plan) (past : List Entry) (clock t : ℕ) (request : ℕ → Request) (times : ℕ → ℕ) → clock ≡ t → Recorded p past clock request times
    → (k : ℕ) → stand_at p k t past ≡ stand_of (request k) (times k)
told_at p past clock t request times now was k =
    stand_told p k t past (subst (λ (x : ℕ). Marks p k past (frame_of p x) (up_at p k past) (request k) (times k)) now (was.marks k))

module _ (p : Plan) (fig : Figures p) (M : Machine) (follows : Follows p M) where
  -- the node of a grant stands in its class once the clock has come to the instant, and its time isn't behind that
  wait_told : (past : List Entry) (h : Hub M.State) (ok : Good p fig M follows h) (times : ℕ → ℕ) (told : Reads p past h.core)
      (was : Recorded p past h.core.clock h.core.request times) (wait : ℕ) {call : Call} {o : Outcome M.State} → Course p M h call o
      → wait ≡ wait_of p h.core o.answer times → ToldOf p wait past o.answer
  wait_told past h ok times told was wait (refusal call n e) q = tt
  wait_told past h ok times told was wait (event call e a) q = tt
  wait_told past h ok times told was wait (quietly t i n) q = tt
  wait_told past h ok times told was wait (resting t d i e l n) q = tt
  wait_told past h ok times told was wait (granting t d c i e l n) q =
      let core = advance p d h.core in
      let f = counts_in c core in
      let k = (M.choose c f h.turn).node in
      let now = advance_clock p d h.core in
      let after = come_to p d h.core times in
      let came = instant_recorded p fig M follows past h ok times told was d e in
      let stood = counts-stands c core k (node_counts p M follows h.turn ok.pointed c f (turn_counts p fig M follows h ok d c n)).holds in
      record {
        since = after k;
        stood = told_at p past core.clock d core.request after now came k ∙ ap (λ (r : Request). stand_of r (after k)) stood.1;
        waited = omega (arith, came.early k);
      }

  module _ (some : 1 ≤ p.nodes) where
    always_recorded : (calls : List Call)
        → Recorded p (made p M calls).past (made p M calls).hub.core.clock (made p M calls).hub.core.request (watched p M calls).left.times
    unfolding made watched up_at
    always_recorded [] = record { marks = λ k. neither 0; early = λ k. omega arith }
    always_recorded (call ∷ earlier) =
        let past = (made p M earlier).past in
        let h = (made p M earlier).hub in
        let times = (watched p M earlier).left.times in
        let m = made p M (call ∷ earlier) in
        subst
        (λ (g : Hub M.State).
        Recorded p m.past m.hub.core.clock m.hub.core.request (watch p g.core call (perform p M call g).answer times))
        (sym (same_hub p M earlier))
        (recorded_next p fig M follows past h (good p fig M follows some earlier) times (reads p fig M follows some earlier)
        (always_recorded earlier) (course p M h call))

    module _ (calls : List Call) where
      recorded_told : (k : ℕ) → stand_at p k (clock_at (made p M calls).past) (made p M calls).past
          ≡ stand_of ((made p M calls).hub.core.request k) ((watched p M calls).left.times k)
      recorded_told =
          told_at p (made p M calls).past (made p M calls).hub.core.clock (clock_at (made p M calls).past) (made p M calls).hub.core.request
          (watched p M calls).left.times (sym (clock_told p fig M follows some calls)) (always_recorded calls)

      waits_told_lem : (later : List Timed) (t s k : ℕ) (c : Class) (end moves wait : ℕ) (before : List Timed)
          → (watched p M calls).past ≡ later ++ (record { entry = record { call = step t; answer = grant s k c end moves }; wait = wait } ∷ before)
          → WaitTold p k c s wait (entries_of before)
      waits_told_lem later t s k c end moves wait before e =
          let m = timed_at p M calls later (record { entry = record { call = step t; answer = grant s k c end moves }; wait = wait }) before e in
          let earlier = m.earlier in
          let past = (made p M earlier).past in
          let h = (made p M earlier).hub in
          let times = (watched p M earlier).left.times in
          let same = same_hub p M earlier in
          let answer : grant s k c end moves ≡ (perform p M (step t) h).answer =
          m.answer ∙ ap (λ (g : Hub M.State). (perform p M (step t) g).answer) same in
          let waited : wait ≡ wait_of p h.core (perform p M (step t) h).answer times =
          m.wait ∙ ap (λ (g : Hub M.State). wait_of p g.core (perform p M (step t) g).answer times) same in
          subst (λ (l : List Entry). WaitTold p k c s wait l) (sym (ap entries_of m.past ∙ unaffected p M earlier))
          (subst (ToldOf p wait past) (sym answer)
          (wait_told past h (good p fig M follows some earlier) times (reads p fig M follows some earlier) (always_recorded earlier) wait
          (course p M h (step t)) waited))

    high_told : (calls : List Call) (k : ℕ)
        → ((since : ℕ) × (stand_at p k (clock_at (made p M calls).past) (made p M calls).past ≡ stands high since)) ↔ High p k (made p M calls).past
    high_told calls k = (λ w. go (m.hub.core.request k) refl (sym (recorded_told calls k) ∙ w.1), λ h. (time, recorded_told calls k ∙ ap (λ (q : Request). stand_of q time) ((told p fig M follows some calls).high k h)))
      where
        m : Made M.State
        m = made p M calls

        time : ℕ
        time = (watched p M calls).left.times k

        go : (q : Request) → m.hub.core.request k ≡ q → {u : ℕ} → stand_of (m.hub.core.request k) time ≡ stands high u → High p k m.past
        go none e s = let f : absent ≡ stands high _ = sym (ap (λ (q : Request). stand_of q time) e) ∙ s in clash (cc)
        go (standing normal b) e s = let f : stands normal time ≡ stands high _ = sym (ap (λ (q : Request). stand_of q time) e) ∙ s in clash (cc)
        go (standing high b) e s = (core_high p fig M follows some calls k b e).0

    one_start_more : (calls : List Call) (call : Call) (k b : ℕ) (c : Class) → (made p M calls).hub.core.request k ≡ standing c b
        → frame_of p (made p M (call ∷ calls)).hub.core.clock ≤ frame_of p (made p M calls).hub.core.clock + 1
    unfolding made
    one_start_more calls call = one_start p fig M follows (made p M calls).hub (good p fig M follows some calls) (course p M (made p M calls).hub call)

pub waits : (p : Plan) → Drawn p → (calls : List Call) → Waits p calls
waits p drawn calls =
    let follows = control_follows p drawn in
    record {
      unaffected = unaffected p (control p) calls;
      same_hub = same_hub p (control p) calls;
      recorded_told = recorded_told p drawn.figures (control p) follows drawn.some_node calls;
      waits_told = waits_told_lem p drawn.figures (control p) follows drawn.some_node calls;
      high_told = high_told p drawn.figures (control p) follows drawn.some_node calls;
      one_start = one_start_more p drawn.figures (control p) follows drawn.some_node calls;
    }
