-- No event of any text meets 12. Every hub of the log is reached by a list of calls (Reached), so behind the steps before an event
-- nothing is due before its time (NoStepLeft); row 12 then lets it pass, and a refusal has one of the other numbers.
use Prim.Native.Nat.{ℕ}
use mathlib.Core.Path.{◌≡◌, refl, sym, ap, subst}
use mathlib.Core.Bool.{true, false}
use mathlib.Core.List.{List, [], ◌∷◌, ◌++◌, map, flatten}
use mathlib.Core.Option.{Option, none, some}
use native.Mathlib.Omega.{arith}
use lib.ListN.{drop}
use Rattle.rules.specs.Plan.{Plan}
use Rattle.rules.specs.Drawn.{Drawn}
use Rattle.rules.specs.Call.{Call, ask, off, reserve, until, step, time, quiet}
use Rattle.rules.specs.Core.{Core, due, before}
use Rattle.rules.specs.Rows.{Row, refuse, first_row, rows, row11, row12, row13, row14, row15, row15r, row16, row17}
use Rattle.rules.specs.Machine.{Hub, Outcome, perform}
use Rattle.rules.specs.Control.{Control, control}
use Rattle.rules.specs.Waits.{Watched, fresh_watched}
use Rattle.rules.proofs.Laws.Passes.{Which, which, yes', no', true-false}
use Rattle.rules.proofs.Core.RowsPassed.{passed12}
use Rattle.rules.proofs.Core.RefusalNumbers.{All, first-has}
use Rattle.rules.proofs.Core.CallCases as course
use Rattle.rules.proofs.Core.CallCases.{Course, refusal, quietly}
use Rattle.rules.proofs.Promised.NoTimeLost.{no_time_lost}
use Rattle.rules.proofs.Control.FollowsFlat.{control_follows}
use Rattle.text.specs.Line.{Lines, nothing, unended, ended, lines, next_number}
use Rattle.plan.specs.Answer as plan
use Rattle.plan.specs.Answer.{Taken, Refused}
use Rattle.plan.specs.Tables.{plan_of}
use Rattle.plan.specs.Reading.{reading}
use Rattle.plan_theory.proofs.TakenPlan.{taken_plan}
use Rattle.log_lines.specs.Handed.{handed}
use Rattle.log_lines.specs.FirstLine.{refused_line, nodes_line, first_line}
use Rattle.log_lines.specs.Lines.{class_number}
use Rattle.event_lines.specs.Event.{event_of, call_on}
use Rattle.log_spec.specs.Log.{event_line, budget, steps, steps_before, event_log, events_log, plan_log, log_of}
use Rattle.log_spec.specs.NeverTwelve.{Act, act, acts, writes, NothingDue, plan_acts, acts_of, plan_read, event_lines, Every, event_number, NeverTwelve}
use Rattle.log_spec.specs.LogWaits.{StepsTold, no_more, granted, rested}
use Rattle.log_spec.proofs.NoStepLeft.{no_step_left}
use Rattle.log_spec.proofs.Reached.{Reached, hub_there, fresh_reached, steps_told, before_told, event_reached}
use Rattle.log_spec.proofs.RefusedPlan.{Named, answer_named}
use Rattle.log_spec.proofs.RefusedLines.{same-refusal, grant_no_refusal, rest_no_refusal, nodes_no_refusal}

every_append : {A : Type 0} (P : A → Type 0) (xs ys : List A) → Every P xs → Every P ys → Every P (xs ++ ys)
every_append P [] ys a b = b
every_append P (x ∷ xs) ys a b = (a.0, every_append P xs ys a.1 b)

every_weaker : {A : Type 0} (P Q : A → Type 0) → ((x : A) → P x → Q x) → (xs : List A) → Every P xs → Every Q xs
every_weaker P Q weaker [] all = tt
every_weaker P Q weaker (x ∷ xs) all = (weaker x all.0, every_weaker P Q weaker xs all.1)

every_flat : {A : Type 0} (P : List ℕ → Type 0) (Q : A → Type 0) (f : A → List (List ℕ)) → ((x : A) → Q x → Every P (f x))
    → (xs : List A) → Every Q xs → Every P (flatten (map f xs))
unfolding flatten
every_flat P Q f each [] all = tt
every_flat P Q f each (x ∷ xs) all = every_append P (f x) (flatten (map f xs)) (each x all.0) (every_flat P Q f each xs all.1)

-- if this line is a refusal, its number is one of an event line
abbrev Told : List ℕ → Type 0
Told line = (l n : ℕ) → line ≡ refused_line l n → event_number n ≡ true

refusal_told : (number n : ℕ) → event_number n ≡ true → Told (refused_line number n)
refusal_told number n h l m e = subst (λ (x : ℕ). event_number x ≡ true) (same-refusal number n l m e).1 h

module _ (p : Plan) where
  -- the lines of steps are no refusals
  steps_no_refusal : {t : ℕ} {calls after : List Call} {ls : List (List ℕ)} → StepsTold p t calls ls after → Every Told ls
  steps_no_refusal (no_more calls) = tt
  steps_no_refusal (granted s k c end moves wait e w more) =
      (λ l m x. absurd (grant_no_refusal s k (class_number c) end moves wait l m x), steps_no_refusal more)
  steps_no_refusal (rested s moves e more) = (λ l m x. absurd (rest_no_refusal s moves l m x), steps_no_refusal more)

  -- the numbers of refusals, where nothing is due before the time of a call that row 11 allows
  abbrev Passes12 : Core → ℕ → Type 0
  Passes12 s t = (row11 s t).applies ≡ false → before (due p s) t ≡ false

  abbrev Good : ℕ → Type 0
  Good n = event_number n ≡ true

  past_twelve : (s : Core) (t : ℕ) → Passes12 s t → (more : List Row) → All Good more → (n : ℕ) → first_row (row11 s t ∷ row12 p s t ∷ more) ≡ refuse n → Good n
  past_twelve s t free more all n = go (which (row11 s t).applies)
    where
      go : Which (row11 s t).applies → first_row (row11 s t ∷ row12 p s t ∷ more) ≡ refuse n → Good n
      go (yes' a) e =
          let f : refuse 11 ≡ refuse n = rw a at e in
          let same : 11 ≡ n = cc in
          subst Good same refl
      go (no' a) e = first-has Good more all n (rw (a, free a) at e)

  row_good : (s : Core) (call : Call) → Passes12 s (time call) → (n : ℕ) → first_row (rows p s call) ≡ refuse n → Good n
  row_good s (ask c t k b) free n e = past_twelve s t free (row13 p k ∷ row15 p b ∷ row16 p s c t k b ∷ []) (refl, (refl, (refl, tt))) n e
  row_good s (off t k) free n e = past_twelve s t free (row13 p k ∷ []) (refl, tt) n e
  row_good s (reserve t k m b) free n e =
      past_twelve s t free (row13 p k ∷ row14 m ∷ row15r p m b ∷ row17 p s k (record { packets = m; bits = b }) ∷ []) (refl, (refl, (refl, (refl, tt)))) n e
  row_good s (until t) free n e = past_twelve s t free [] tt n e
  row_good s (step t) free n e = first-has Good (rows p s (step t)) (refl, tt) n e

  -- the line of an event's answer
  answer_told : (number : ℕ) (call : Call) (h : Hub Control) → Passes12 h.core (time call) → Every Told (event_line number (perform p (control p) call h).answer)
  answer_told number call h free = go (course.course p (control p) h call) free
    where
      go : {x : Call} {o : Outcome Control} → Course p (control p) h x o → Passes12 h.core (time x) → Every Told (event_line number o.answer)
      go (refusal x n e) f = (refusal_told number n (row_good h.core x f n e), tt)
      go (course.event x e a) f = tt
      go (quietly t i b) f = tt
      go (course.granting t d c i e l b) f = tt
      go (course.resting t d i e l b) f = tt

  -- what is shown of each act
  record Shown (a : Act) : Type 0 where
    free : NothingDue p a
    told : Every Told (writes p a)

  module _ (drawn : Drawn p) where
    -- where row 11 allows the time, one more step behind those before it is quiet (NoStepLeft), so nothing is due before it
    quiet_there : (t : ℕ) (w : Watched Control) → Reached p w → (row11 w.hub.core t).applies ≡ false
        → (perform p (control p) (step t) (steps p (budget p w.hub.core) t w).left.hub).answer ≡ quiet
    quiet_there t w r =
        subst
        (λ (x : Hub Control).
        (row11 x.core t).applies ≡ false
        → (perform p (control p) (step t) (steps p (budget p x.core) t (record { hub = x; times = w.times })).left.hub).answer ≡ quiet)
        (hub_there p w r) (no_step_left p drawn r.calls w.times t)

    quiet_free : (t : ℕ) (w : Watched Control) → Reached p w → (perform p (control p) (step t) w.hub).answer ≡ quiet → before (due p w.hub.core) t ≡ false
    quiet_free t w r =
        subst (λ (x : Hub Control). (perform p (control p) (step t) x).answer ≡ quiet → before (due p x.core) t ≡ false) (hub_there p w r)
        ((no_time_lost p drawn.figures (control p) (control_follows p drawn) drawn.some_node r.calls).quiet_only t)

    before_free : (t : ℕ) (w : Watched Control) → Reached p w → Passes12 (steps_before p t w).left.hub.core t
    unfolding steps_before
    before_free t w r = go (which (row11 w.hub.core t).applies)
      where
        go : Which (row11 w.hub.core t).applies → Passes12 (steps_before p t w).left.hub.core t
        go (yes' late) = rw late (λ allowed. absurd (true-false late allowed))
        go (no' allowed) =
            rw allowed (λ still. quiet_free t _ (steps_told p drawn t (budget p w.hub.core) w r).reached (quiet_there t w r allowed))

    act_shown : (number : ℕ) (call : Option Call) (w : Watched Control) → Reached p w → Shown (act p number call w)
    unfolding act
    act_shown number none w r = record { free = tt; told = (refusal_told number 1 refl, tt) }
    act_shown number (some call) w r =
        let before = steps_before p (time call) w in
        let free = before_free (time call) w r in
        record {
          free = λ allowed. (passed12 p _ _).1 (λ d e. omega (arith, (passed12 p before.left.hub.core (time call)).0 (free allowed) d e));
          told =
              every_append Told before.written (event_line number (perform p (control p) call before.left.hub).answer)
              (steps_no_refusal (before_told p drawn (time call) w r).told) (answer_told number call before.left.hub free);
        }

    acts_shown : (ls : Lines) (number : ℕ) (w : Watched Control) → Reached p w → Every Shown (acts p number w ls)
    unfolding acts
    acts_shown nothing number w r = tt
    acts_shown (unended l) number w r = (record { free = tt; told = (refusal_told number 1 refl, tt) }, tt)
    acts_shown (ended l more) number w r =
        let call = call_on (event_of l) in
        (act_shown number call w r, acts_shown more (next_number number) (event_log p number call w).left (event_reached p drawn number call w r))

  -- the lines of the log are those of the acts
  act_written : (number : ℕ) (call : Option Call) (w : Watched Control) → (event_log p number call w).written ≡ writes p (act p number call w)
  unfolding event_log act
  act_written number none w = refl
  act_written number (some call) w = refl

  pub acts_written : (ls : Lines) (number : ℕ) (w : Watched Control) → events_log p number w ls ≡ flatten (map (writes p) (acts p number w ls))
  unfolding events_log acts flatten
  acts_written nothing number w = refl
  acts_written (unended l) number w = refl
  acts_written (ended l more) number w =
      let call = call_on (event_of l) in
      rw (act_written number call w, acts_written more (next_number number) (event_log p number call w).left)

-- a text, by the answer to its plan
module _ (text : List ℕ) where
  abbrev p : Plan
  p = plan_of (reading text).tables

  plan_written : (a : plan.Answer) → plan_log text a (reading text).tables ≡ first_line a ∷ flatten (map (writes p) (plan_acts text a (reading text).tables))
  unfolding plan_log plan_acts first_line flatten
  plan_written (Refused line number) = refl
  plan_written (Taken nodes hubs at line) =
      ap (λ (x : List (List ℕ)). nodes_line nodes hubs ∷ x) (acts_written p (lines (drop at text)) line (fresh_watched p (control p)))

  plan_shown : (a : plan.Answer) → (reading text).answer ≡ a → Every (Shown p) (plan_acts text a (reading text).tables)
  unfolding plan_acts
  plan_shown (Refused line number) e = tt
  plan_shown (Taken nodes hubs at line) e =
      acts_shown p (taken_plan text nodes hubs at line e).plan (lines (drop at text)) line (fresh_watched p (control p)) (fresh_reached p)

-- a line that isn't `(refused l 12)`
abbrev NotTwelve : List ℕ → Type 0
NotTwelve line = (l : ℕ) → line ≡ refused_line l 12 → ⊥

-- the plan's own line: a refused plan's number is below 10
first-not : (a : plan.Answer) → Named a → NotTwelve (first_line a)
unfolding first_line
first-not (Taken nodes hubs at line) h l e = nodes_no_refusal nodes hubs l 12 e
first-not (Refused line number) h l e = omega (arith, (same-refusal line number l 12 e).1, h.1)

pub never_twelve : (text : List ℕ) → NeverTwelve text
unfolding log_of acts_of
never_twelve text =
    let a = (reading (handed text)).answer in
    let shown = plan_shown (handed text) a refl in
    let written = plan_written (handed text) a in
    let told = every_flat Told (Shown (plan_read text)) (writes (plan_read text)) (λ x s. s.told) (acts_of text) shown in
    let others = every_weaker Told NotTwelve (λ x t l e. true-false (t l 12 e) refl) (event_lines text) told in
    record {
      the_log = written;
      nothing_due = every_weaker (Shown (plan_read text)) (NothingDue (plan_read text)) (λ x s. s.free) (acts_of text) shown;
      event_numbers = told;
      no_twelve = subst (Every NotTwelve) (sym written) (first-not a (answer_named (handed text)), others);
    }
