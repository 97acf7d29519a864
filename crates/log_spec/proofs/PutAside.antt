-- Bytes put aside for lines to come: 92 for each standing request, which are 66 of its grant and 26 of the rest that may follow,
-- and 26 while the line is busy. A grant and a rest are paid for by what is aside, and only a taken event puts 92 more there.
use Prim.Native.Nat.{ℕ, ◌+◌, ◌*◌, ◌≤◌, ◌<◌}
use mathlib.Core.Path.{◌≡◌, refl, ap}
use mathlib.Core.List.{List, [], flatten}
use native.Mathlib.Omega.{arith}
use lib.ListN.{length, length-append}
use Rattle.rules.specs.Plan.{Plan}
use Rattle.rules.specs.Drawn.{Drawn}
use Rattle.rules.specs.Call.{Class, Call, step, rest, time}
use Rattle.rules.specs.Core.{Core, none, standing, bits_of, advance, counts_in, at, due, class, sought}
use Rattle.rules.specs.Rows.{put_up, change}
use Rattle.rules.specs.Machine.{Hub, Outcome, restful, grant_to, perform}
use Rattle.rules.specs.Control.{Control, control}
use Rattle.rules.specs.Run.{made}
use Rattle.rules.specs.Promises.{Acceptable, asks, leaves, reserves, waits}
use Rattle.rules.proofs.Laws.Lengths.{longest-up}
use Rattle.rules.proofs.Core.RowsPassed.{InTime}
use Rattle.rules.proofs.Core.RefusalNumbers.{row_number}
use Rattle.rules.proofs.Core.Acceptance.{acceptable}
use Rattle.rules.proofs.Core.Requests.{counts-stands}
use Rattle.rules.proofs.Core.CallCases as course
use Rattle.rules.proofs.Core.CallCases.{Course, refusal, event, quietly}
use Rattle.rules.proofs.Core.ClockAdvance.{advance-line}
use Rattle.rules.proofs.Flat.Turns.{node_counts}
use Rattle.rules.proofs.Core.AlwaysSound.{Good, good, turn_counts, instant_sound}
use Rattle.rules.proofs.Promised.NoTimeLost.{no_time_lost}
use Rattle.rules.proofs.Control.Levels.{levels-up}
use Rattle.rules.proofs.Control.FollowsFlat.{control_follows, control_costs}
use Rattle.log_lines.specs.FirstLine.{refused_line}
use Rattle.log_lines.specs.Lines.{answer_line}
use Rattle.log_spec.specs.Log.{event_line, runs}
use Rattle.log_spec.proofs.NoStepLeft.{standings, advance-stands, put-stands, one_fewer}
use Rattle.log_spec.proofs.LineLengths.{grant_length, rest_length, refused-length}

module _ (p : Plan) where
  abbrev pub aside : Core → ℕ
  aside s = 92 * standings p s + 26 * runs s.line

  -- what an accepted event adds
  event_aside : (s : Core) {call : Call} → Acceptable p s call → aside (change call (advance p (time call) s)) ≤ aside s + 92
  event_aside s (asks c t k b a) =
      omega (arith, put-stands p (advance p t s) k a.node (standing (put_up ((advance p t s).force k) c) b), advance-stands p t s, ap runs (advance-line p t s))
  event_aside s (leaves t k o w) = omega (arith, put-stands p (advance p t s) k w none, advance-stands p t s, ap runs (advance-line p t s))
  event_aside s (reserves t k n b a) = omega (arith, advance-stands p t s, ap runs (advance-line p t s))
  event_aside s (waits t o) = omega (arith, advance-stands p t s, ap runs (advance-line p t s))

-- at every place of a run
module _ (p : Plan) (drawn : Drawn p) (calls : List Call) where
  abbrev here : Hub Control
  here = (made p (control p) calls).hub

  -- the core as the clock comes to d
  abbrev come : ℕ → Core
  come d = advance p d here.core

  fine : Good p drawn.figures (control p) (control_follows p drawn) here
  fine = good p drawn.figures (control p) (control_follows p drawn) drawn.some_node calls

  module _ (t d : ℕ) (i : InTime here.core t) (e : due p here.core ≡ at d) (l : d < t) where
    -- a grant with its line takes no more than was aside: s is below 10^15, k at most
    -- 256, end at most s + the longest packet + 50,000, moves at most 4 × 4, wait at most s
    module _ (c : Class) (n : sought p (come d) ≡ class c) where
      abbrev granted : Outcome Control
      granted = grant_to p (control p) d c (come d) ((control p).choose c (counts_in c (come d)) here.turn)

      pub grant_pays : (wait : ℕ) → wait ≤ d → length (answer_line 0 granted.answer wait) + aside p granted.hub.core ≤ aside p here.core
      unfolding answer_line
      grant_pays wait w =
          let f = counts_in c (come d) in
          let some = turn_counts p drawn.figures (control p) (control_follows p drawn) here fine d c n in
          let turn = node_counts p (control p) (control_follows p drawn) here.turn fine.pointed c f some in
          let k = ((control p).choose c f here.turn).node in
          let stood = counts-stands c (come d) k turn.holds in
          let long = (instant_sound p drawn.figures (control p) (control_follows p drawn) here fine d e).long k stood.0 c stood.1 in
          let moves = (control_costs p drawn).choose c f here.turn fine.pointed.pointers some fine.pointed.like in
          let end : bits_of ((come d).request k) ≡ stood.0 = ap bits_of stood.1 in
          omega (
            arith,
            grant_length d k c (d + bits_of ((come d).request k) + p.overhead) ((control p).choose c f here.turn).moves wait
                (omega (arith, i.soon))
                (omega (arith, turn.within.up, drawn.few_nodes))
                (omega (arith, i.soon, drawn.figures.overhead_up, longest-up p.framing))
                (omega (arith, levels-up p drawn))
                w,
            one_fewer p (come d) k turn.within c stood.0 stood.1,
            advance-stands p d here.core,
          )

    -- and so does a rest
    abbrev moves : ℕ
    moves = ((control p).rested here.turn).moves

    pub rest_pays : (perform p (control p) (step t) here).answer ≡ rest d moves → (wait : ℕ)
        → length (answer_line 0 (rest d moves) wait) + aside p (restful (come d)) ≤ aside p here.core
    unfolding answer_line
    rest_pays q wait =
        let lost = no_time_lost p drawn.figures (control p) (control_follows p drawn) drawn.some_node calls in
        let ran : runs here.core.line ≡ 1 = ap runs (lost.rest_only t d moves q).0 in
        let few = (control_costs p drawn).rests here.turn fine.pointed.pointers fine.pointed.like in
        omega (
          arith,
          rest_length d moves (omega (arith, i.soon)) (omega (arith, levels-up p drawn)),
          advance-stands p d here.core,
        )

  -- any call with the line that it has as an event: a refusal has one, and only a taken event puts bytes aside
  module _ (number : ℕ) (few : number < 100000) where
    by_course : {call : Call} {o : Outcome Control} → Course p (control p) here call o → perform p (control p) call here ≡ o
        → length (flatten (event_line number o.answer)) + aside p o.hub.core ≤ aside p here.core + 92
    unfolding flatten
    by_course (refusal call n e) q =
        omega (arith, length-append (refused_line number n) [], refused-length number n few (omega (arith, (row_number p here.core call n e).up)))
    by_course (event call e a) q = omega (arith, event_aside p here.core (acceptable p here.core e a))
    by_course (quietly t i n) q = omega arith
    by_course (course.granting t d c i e l n) q = omega (arith, grant_pays t d i e l c n 0 (omega arith))
    by_course (course.resting t d i e l n) q = omega (arith, rest_pays t d i e l (ap (λ (o : Outcome Control). o.answer) q) 0)

    pub event_pays : (call : Call)
        → length (flatten (event_line number (perform p (control p) call here).answer)) + aside p (perform p (control p) call here).hub.core ≤ aside p here.core + 92
    event_pays call = by_course (course.course p (control p) here call) refl
