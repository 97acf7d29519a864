-- Event lines pay for the log behind the plan's line: the steps before an event are paid for by what is aside (PutAside),
-- and 18 bytes for each byte of an event's line, with its LF, pay for its refusal or for what it puts aside.
use Prim.Native.Nat.{ℕ, zero, suc, ◌+◌, ◌*◌, ◌≤◌, ◌<◌}
use mathlib.Core.Path.{◌≡◌, refl, subst, ap}
use mathlib.Core.Bool.{Bool, true, false}
use mathlib.Core.List.{List, [], ◌∷◌, ◌++◌, flatten}
use mathlib.Core.Option.{Option, none, some}
use native.Mathlib.Nat.{sub-le}
use native.Mathlib.Omega.{arith}
use lib.ListN.{length, length-append}
use Rattle.std.specs.Prelude.{if◌then◌else◌}
use Rattle.rules.specs.Plan.{Plan}
use Rattle.rules.specs.Drawn.{Drawn}
use Rattle.rules.specs.Call.{Call, step, time}
use Rattle.rules.specs.Rows.{row11}
use Rattle.rules.specs.Machine.{Hub, Outcome, perform}
use Rattle.rules.specs.Control.{Control, control}
use Rattle.rules.specs.Run.{made}
use Rattle.rules.specs.Waits.{Watched, perform_watched}
use Rattle.rules.proofs.Core.CallCases as course
use Rattle.rules.proofs.Core.CallCases.{Course, refusal, quietly}
use Rattle.text.specs.Line.{Lines, nothing, unended, ended, draw_lines, next_number}
use Rattle.log_lines.specs.FirstLine.{refused_line}
use Rattle.event_lines.specs.Event.{event_of, call_on}
use Rattle.log_spec.specs.Log.{Logged, event_line, budget, steps, steps_before, event_log, events_log}
use Rattle.log_spec.proofs.NoStepLeft.{behind}
use Rattle.log_spec.proofs.LineLengths.{no_form_length, Long, call_long}
use Rattle.log_spec.proofs.PutAside.{aside, grant_pays, rest_pays, event_pays}

-- how many bytes lines have
abbrev pub bytes : List (List ℕ) → ℕ
bytes ls = length (flatten ls)

bytes-append : (ls ms : List (List ℕ)) → bytes (ls ++ ms) ≡ bytes ls + bytes ms
unfolding flatten
bytes-append [] ms = omega arith
bytes-append (l ∷ ls) ms =
    omega (arith, length-append l (flatten (ls ++ ms)), length-append l (flatten ls), bytes-append ls ms)

module _ (p : Plan) (drawn : Drawn p) where
  abbrev pub reached : List Call → Hub Control
  reached calls = (made p (control p) calls).hub

  -- what was logged from hub h on: paid for by what was aside and by `more` bytes; and the hub that is left is reached too
  record Paid (more : ℕ) (h : Hub Control) (log : Logged) : Type 0 where
    pays : bytes log.written + aside p log.left.hub.core ≤ aside p h.core + more
    calls : List Call
    left : reached calls ≡ log.left.hub

  -- a hub that is reached, with any times beside it
  abbrev with_times : List Call → (ℕ → ℕ) → Watched Control
  with_times calls times = record { hub = reached calls; times = times }

  nothing_logged : (calls : List Call) (times : ℕ → ℕ) → Paid 0 (reached calls) (record { written = []; left = with_times calls times })
  unfolding flatten
  nothing_logged calls times = record { pays = omega arith; calls = calls; left = refl }

  -- steps
  module _ (t : ℕ) where
    abbrev StepsPaid : ℕ → Type 0
    StepsPaid n = (calls : List Call) (times : ℕ → ℕ) → Paid 0 (reached calls) (steps p n t (with_times calls times))

    module _ (n : ℕ) (again : StepsPaid n) (calls : List Call) (times : ℕ → ℕ) where
      onward : (o : Outcome Control) → perform p (control p) (step t) (reached calls) ≡ o → (later : ℕ → ℕ)
          → Paid 0 o.hub (steps p n t (record { hub = o.hub; times = later }))
      unfolding made
      onward o e later =
          subst (λ (x : Outcome Control). Paid 0 x.hub (steps p n t (record { hub = x.hub; times = later }))) e (again (step t ∷ calls) later)

      -- a line in front of what is paid for
      one_line : (l : List ℕ) (g : Hub Control) (log : Logged) → length l + aside p g.core ≤ aside p (reached calls).core → Paid 0 g log
          → Paid 0 (reached calls) (record { written = l ∷ log.written; left = log.left })
      unfolding flatten
      one_line l g log h m =
          record { pays = omega (arith, m.pays, length-append l (flatten log.written)); calls = m.calls; left = m.left }

      by_course : {o : Outcome Control} → Course p (control p) (reached calls) (step t) o → perform p (control p) (step t) (reached calls) ≡ o
          → Paid 0 (reached calls) (behind p n t (with_times calls times) o)
      by_course (refusal c m a) q = nothing_logged calls times
      by_course (course.event u v a) q = elim v [ ]
      by_course (quietly u j a) q = nothing_logged calls times
      by_course (course.granting u d c i e l b) q = one_line _ _ _ (grant_pays p drawn calls t d i e l c b _ (sub-le d _)) (onward _ q _)
      by_course (course.resting u d i e l b) q =
          one_line _ _ _ (rest_pays p drawn calls t d i e l (ap (λ (o : Outcome Control). o.answer) q) 0) (onward _ q _)

      one_step_more : Paid 0 (reached calls) (steps p (suc n) t (with_times calls times))
      unfolding steps
      one_step_more = by_course (course.course p (control p) (reached calls) (step t)) refl

    steps_paid : (n : ℕ) → StepsPaid n
    unfolding steps
    steps_paid zero = nothing_logged
    steps_paid (suc n) = one_step_more n (steps_paid n)

  before_paid : (t : ℕ) (calls : List Call) (times : ℕ → ℕ) → Paid 0 (reached calls) (steps_before p t (with_times calls times))
  unfolding steps_before
  before_paid t calls times = go (row11 (reached calls).core t).applies
    where
      go : (b : Bool)
          → Paid 0 (reached calls)
          (if b then record { written = []; left = with_times calls times } else steps p (budget p (reached calls).core) t (with_times calls times))
      go true = nothing_logged calls times
      go false = steps_paid t (budget p (reached calls).core) calls times

  -- an event's line of l bytes and its LF, with the steps before it
  module _ (number : ℕ) (few : number < 100000) (l : List ℕ) (calls : List Call) (times : ℕ → ℕ) where
    abbrev room : ℕ
    room = 18 * (length l + 1)

    -- behind what was logged before the call
    abbrev and_then : Logged → Call → Hub Control → Logged
    and_then log call h =
        let o = perform_watched p (control p) call (record { hub = h; times = log.left.times }) in
        record { written = log.written ++ event_line number o.answer; left = o.left }

    call_paid : (call : Call) → 5 ≤ length l → (log : Logged) → Paid 0 (reached calls) log → Paid room (reached calls) (and_then log call log.left.hub)
    unfolding made
    call_paid call long log m =
        let same : aside p (reached m.calls).core ≡ aside p log.left.hub.core = ap (λ (h : Hub Control). aside p h.core) m.left in
        subst (λ (h : Hub Control). Paid room (reached calls) (and_then log call h)) m.left
        (record {
          pays =
              omega (
                arith,
                m.pays,
                bytes-append log.written (event_line number (perform p (control p) call (reached m.calls)).answer),
                event_pays p drawn m.calls number few call,
              );
          calls = call ∷ m.calls;
          left = refl;
        })

    event_paid : Paid room (reached calls) (event_log p number (call_on (event_of l)) (with_times calls times))
    unfolding event_log flatten
    event_paid = go (call_on (event_of l)) (call_long l)
      where
        go : (call : Option Call) → Long l call → Paid room (reached calls) (event_log p number call (with_times calls times))
        go none h =
            record { pays = omega (arith, length-append (refused_line number 1) [], no_form_length number 1 few (omega arith)); calls = calls; left = refl }
        go (some call) h = call_paid call h (steps_before p (time call) (with_times calls times)) (before_paid (time call) calls times)

  -- all event lines, where line numbers have at most 5 digits; 18 bytes more for a last line without LF
  abbrev pub EventsPaid : Lines → Type 0
  EventsPaid ls =
      (number : ℕ) → number + length (draw_lines ls) < 100000 → (calls : List Call) (times : ℕ → ℕ)
      → bytes (events_log p number (with_times calls times) ls) ≤ aside p (reached calls).core + 18 * length (draw_lines ls) + 18

  one_event_more : (l : List ℕ) (rest : Lines) → EventsPaid rest → EventsPaid (ended l rest)
  unfolding events_log draw_lines
  one_event_more l rest again number few calls times =
      let n = length-append l (10 ∷ draw_lines rest) in
      let m = event_paid number (omega arith) l calls times in
      let log = event_log p number (call_on (event_of l)) (with_times calls times) in
      let more =
      subst
      (λ (h : Hub Control).
      bytes (events_log p (next_number number) (record { hub = h; times = log.left.times }) rest) ≤ aside p h.core + 18 * length (draw_lines rest) + 18)
      m.left (again (next_number number) (omega arith) m.calls log.left.times) in
      omega (arith, m.pays, bytes-append log.written (events_log p (next_number number) log.left rest))

  pub events_paid : (ls : Lines) → EventsPaid ls
  unfolding events_log flatten
  events_paid nothing number few calls times = omega arith
  events_paid (unended l) number few calls times =
      omega (arith, length-append (refused_line number 1) [], no_form_length number 1 (omega arith) (omega arith))
  events_paid (ended l rest) number few calls times = one_event_more l rest (events_paid rest) number few calls times
