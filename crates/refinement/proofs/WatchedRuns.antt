-- The run over the cells is the watched run of `rules`: its recorded times, and each call's wait.
use Prim.Native.Nat.{ℕ}
use mathlib.Core.Path.{◌≡◌, sym, ap, ◌∙◌}
use mathlib.Core.List.{List, [], ◌∷◌}
use Rattle.rules.specs.Plan.{Plan}
use Rattle.rules.specs.Call.{Call}
use Rattle.rules.specs.Machine.{Machine, Hub, perform}
use Rattle.rules.specs.Control.{Control, control}
use Rattle.rules.specs.Waits.{watch, wait_of, Timed, WatchedRun, watched}
use Rattle.rules.proofs.Waits.SameRun.{same_hub}
use Rattle.cells.specs.Decode.{plan_in, hub_of}
use Rattle.cells.specs.Waits.{times_of}
use Rattle.cells.specs.Calls.{perform_by}
use Rattle.cells.specs.Run.{made_by}
use Rattle.refinement.specs.Kept.{Ready}
use Rattle.refinement.proofs.Performed.{performed}
use Rattle.refinement.proofs.Runs.{run_tied, run_good}
use Rattle.refinement.proofs.Recorded.{TimedAgrees, timed, fresh-times}

-- a call's entry with its wait, over the cells
abbrev pub entry_by : List ℕ → Call → List ℕ → Timed
entry_by P call s = record { entry = record { call = call; answer = (perform_by P call s).answer }; wait = (perform_by P call s).wait }

module _ (P : List ℕ) (R : Ready P) where
  abbrev p : Plan
  p = plan_in P

  abbrev M : Machine
  M = control p

  abbrev run : List Call → WatchedRun Control
  run = watched p M

  watched_hub : (calls : List Call) → hub_of p (made_by P calls).cells ≡ (run calls).left.hub
  watched_hub calls = (run_tied P R calls).hub ∙ sym (same_hub p M calls)

  -- one more call
  next_timed : (call : Call) (calls : List Call) → TimedAgrees P call (made_by P calls).cells
  next_timed call calls =
      let t = run_tied P R calls in
      timed P R (made_by P calls).cells t.kept (run_good P R calls t) call

  pub run_times : (calls : List Call) → times_of p (made_by P calls).cells ≡ (run calls).left.times
  unfolding made_by watched
  run_times [] = fresh-times p
  run_times (call ∷ earlier) =
      (next_timed call earlier).times
      ∙ (λ i. watch p (watched_hub earlier i).core call (perform p M call (watched_hub earlier i)).answer (run_times earlier i))

  pub next-entry : (call : Call) (calls : List Call) → (run (call ∷ calls)).past
      ≡ entry_by P call (made_by P calls).cells ∷ (run calls).past
  unfolding watched
  next-entry call calls =
      sym (λ i. record { entry = record { call = call; answer = answer i }; wait = wait i } ∷ (run calls).past)
    where
      h : hub_of p (made_by P calls).cells ≡ (run calls).left.hub
      h = watched_hub calls

      answer : (perform_by P call (made_by P calls).cells).answer ≡ (perform p M call (run calls).left.hub).answer
      answer =
          let t = run_tied P R calls in
          (performed P R (made_by P calls).cells t.kept (run_good P R calls t) call).answer
          ∙ ap (λ (x : Hub Control). (perform p M call x).answer) h

      wait : (perform_by P call (made_by P calls).cells).wait
          ≡ wait_of p (run calls).left.hub.core (perform p M call (run calls).left.hub).answer (run calls).left.times
      wait =
          (next_timed call calls).wait
          ∙ (λ i. wait_of p (h i).core (perform p M call (h i)).answer (run_times calls i))
