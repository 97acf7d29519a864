-- Every hub of the log, its recorded times with it, is left by a list of calls: the text's events with the steps before them that wrote
-- a line. So each of those lines is told by the calls before it, and a grant's wait too (`waits` in rules/proofs/Waits/Theorem.antt).
use Prim.Native.Nat.{ℕ, zero, suc}
use mathlib.Core.Path.{◌≡◌, refl, sym, ap, subst, ◌∙◌}
use mathlib.Core.Bool.{Bool, true, false}
use mathlib.Core.List.{List, [], ◌∷◌}
use mathlib.Core.Option.{Option, none, some}
use Rattle.std.specs.Prelude.{if◌then◌else◌}
use Rattle.rules.specs.Plan.{Plan}
use Rattle.rules.specs.Drawn.{Drawn}
use Rattle.rules.specs.Call.{Class, Call, step, time, grant}
use Rattle.rules.specs.Rows.{row11}
use Rattle.rules.specs.Machine.{Hub, Outcome, perform}
use Rattle.rules.specs.Control.{Control, control}
use Rattle.rules.specs.Run.{Entry, made}
use Rattle.rules.specs.Waits.{Watched, fresh_watched, perform_watched, watched, wait_of, watch, WaitTold}
use Rattle.rules.proofs.Waits.SameRun.{same_hub, unaffected}
use Rattle.rules.proofs.Waits.Theorem.{waits}
use Rattle.rules.proofs.Core.CallCases as course
use Rattle.rules.proofs.Core.CallCases.{Course, refusal, quietly}
use Rattle.log_lines.specs.Lines.{answer_line}
use Rattle.log_spec.specs.Log.{Logged, budget, steps, steps_before, event_log}
use Rattle.log_spec.specs.LogWaits.{answer_behind, StepsTold, no_more, granted, rested}
use Rattle.log_spec.proofs.NoStepLeft.{behind}

module _ (p : Plan) where
  -- the watched hubs that a list of calls reaches
  pub record Reached (w : Watched Control) : Type 0 where
    pub calls : List Call
    pub there : (watched p (control p) calls).left ≡ w

  pub hub_there : (w : Watched Control) (r : Reached w) → (made p (control p) r.calls).hub ≡ w.hub
  hub_there w r = sym (same_hub p (control p) r.calls) ∙ ap (λ (x : Watched Control). x.hub) r.there

  unfoldable pub reach : (call : Call) (w : Watched Control) → Reached w → Reached (perform_watched p (control p) call w).left
  unfolding watched
  reach call w r =
      record { calls = call ∷ r.calls; there = ap (λ (x : Watched Control). (perform_watched p (control p) call x).left) r.there }

  unfoldable pub fresh_reached : Reached (fresh_watched p (control p))
  unfolding watched
  fresh_reached = record { calls = []; there = refl }

  -- what steps from a hub that is reached leave and write: a hub that is reached, and lines that the calls up to there tell
  pub record Stepped (t : ℕ) (calls : List Call) (log : Logged) : Type 0 where
    pub reached : Reached log.left
    pub told : StepsTold p t calls log.written reached.calls

  module _ (drawn : Drawn p) where
    -- the wait that a grant's step gets is told by the calls and answers before it
    grant_told : (calls : List Call) (t s k : ℕ) (c : Class) (end moves wait : ℕ)
        → (perform_watched p (control p) (step t) (watched p (control p) calls).left).answer ≡ grant s k c end moves
        → (perform_watched p (control p) (step t) (watched p (control p) calls).left).wait ≡ wait
        → WaitTold p k c s wait (made p (control p) calls).past
    unfolding watched
    grant_told calls t s k c end moves wait a b =
        subst (λ (l : List Entry). WaitTold p k c s wait l) (unaffected p (control p) calls)
        ((waits p drawn (step t ∷ calls)).waits_told [] t s k c end moves wait (watched p (control p) calls).past
        (λ i. record { entry = record { call = step t; answer = a i }; wait = b i } ∷ (watched p (control p) calls).past))

    module _ (t : ℕ) where
      abbrev StepsGood : ℕ → Type 0
      StepsGood n = (calls : List Call) → Stepped t calls (steps p n t (watched p (control p) calls).left)

      nothing_more : (calls : List Call) → Stepped t calls (record { written = []; left = (watched p (control p) calls).left })
      nothing_more calls = record { reached = record { calls = calls; there = refl }; told = no_more calls }

      module _ (n : ℕ) (again : StepsGood n) (calls : List Call) where
        abbrev w : Watched Control
        w = (watched p (control p) calls).left

        same_answer : (o : Outcome Control) → perform p (control p) (step t) w.hub ≡ o → answer_behind p calls (step t) ≡ o.answer
        same_answer o q =
            ap (λ (h : Hub Control). (perform p (control p) (step t) h).answer) (sym (same_hub p (control p) calls))
            ∙ ap (λ (x : Outcome Control). x.answer) q

        onward : (o : Outcome Control) → perform p (control p) (step t) w.hub ≡ o
            → Stepped t (step t ∷ calls)
            (steps p n t (record { hub = o.hub; times = watch p w.hub.core (step t) o.answer w.times }))
        unfolding watched
        onward o q =
            subst
            (λ (x : Outcome Control).
            Stepped t (step t ∷ calls) (steps p n t (record { hub = x.hub; times = watch p w.hub.core (step t) x.answer w.times })))
            q (again (step t ∷ calls))

        by_course : {o : Outcome Control} → Course p (control p) w.hub (step t) o → perform p (control p) (step t) w.hub ≡ o
            → Stepped t calls (behind p n t w o)
        unfolding answer_line
        by_course (refusal x m a) q = nothing_more calls
        by_course (course.event u v a) q = elim v [ ]
        by_course (quietly u j a) q = nothing_more calls
        by_course (course.granting u d c i e l b) q =
            let more = onward _ q in
            record {
              reached = more.reached;
              told =
                  granted _ _ c _ _ _ (same_answer _ q)
                  (grant_told calls t _ _ c _ _ _ (ap (λ (x : Outcome Control). x.answer) q)
                  (ap (λ (x : Outcome Control). wait_of p w.hub.core x.answer w.times) q))
                  more.told;
            }
        by_course (course.resting u d i e l b) q =
            let more = onward _ q in
            record { reached = more.reached; told = rested _ _ (same_answer _ q) more.told }

        one_step_more : Stepped t calls (steps p (suc n) t w)
        unfolding steps
        one_step_more = by_course (course.course p (control p) w.hub (step t)) refl

      steps_good : (n : ℕ) → StepsGood n
      unfolding steps
      steps_good zero = nothing_more
      steps_good (suc n) = one_step_more n (steps_good n)

    pub steps_told : (t n : ℕ) (w : Watched Control) (r : Reached w) → Stepped t r.calls (steps p n t w)
    steps_told t n w r = subst (λ (x : Watched Control). Stepped t r.calls (steps p n t x)) r.there (steps_good t n r.calls)

    pub before_told : (t : ℕ) (w : Watched Control) (r : Reached w) → Stepped t r.calls (steps_before p t w)
    unfolding steps_before
    before_told t w r = go (row11 w.hub.core t).applies
      where
        go : (b : Bool) → Stepped t r.calls (if b then record { written = []; left = w } else steps p (budget p w.hub.core) t w)
        go true = record { reached = r; told = no_more r.calls }
        go false = steps_told t (budget p w.hub.core) w r

    -- behind the event too
    unfoldable pub event_reached : (number : ℕ) (call : Option Call) (w : Watched Control) → Reached w → Reached (event_log p number call w).left
    unfolding event_log
    event_reached number none w r = r
    event_reached number (some call) w r = reach call (steps_before p (time call) w).left (before_told (time call) w r).reached
