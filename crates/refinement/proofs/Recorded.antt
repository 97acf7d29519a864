-- Each call over the cells leaves the recorded times that `rules` has beside its core, and a grant's wait is that of `rules`.
-- Whatever else a call stores spares these times (Spared). They come to the call's time with the clock (Turned), and then a
-- request is put up (Asked); so each event's change and each turn follow from there (Came).
pub mod Spared
pub mod Turned
pub mod Asked
pub mod Came
use Prim.Native.Nat.{ℕ, ◌-◌}
use mathlib.Core.Path.{◌≡◌, refl, sym, ap₂, subst, ◌∙◌}
use mathlib.Core.Bool.{Bool, true, false}
use mathlib.Core.List.{List}
use native.Mathlib.Omega.{arith}
use lib.Dec.{eqb, ltb}
use Rattle.std.specs.Prelude.{if◌then◌else◌, Option, Some, None}
use Rattle.rules.specs.Plan.{Plan}
use Rattle.rules.specs.Call.{Class, Call, ask, off, reserve, until, step, time, Answer, taken}
use Rattle.rules.specs.Core.{Core, advance}
use Rattle.rules.specs.Machine.{Hub, perform}
use Rattle.rules.specs.Control.{Control, control}
use Rattle.rules.specs.Waits.{recorded, watch, wait_of}
use Rattle.rules.specs.Promises.{Acceptable}
use Rattle.rules.proofs.Laws.Passes.{Which, which, yes', no'}
use Rattle.rules.proofs.Core.Acceptance.{taken_acceptable}
use Rattle.rules.proofs.Core.AlwaysSound.{Good}
use Rattle.rules.proofs.Control.FollowsFlat.{control_follows}
use Rattle.cells.specs.Sought.{Sought}
use Rattle.cells.specs.Sought as seek
use Rattle.cells.specs.Decode.{plan_in, is_node, core_of, control_of, hub_of}
use Rattle.cells.specs.Waits.{since_at, times_of}
use Rattle.cells.specs.Frames.{advance_by}
use Rattle.cells.specs.Fresh.{fresh_cells}
use Rattle.cells.specs.Instants.{due_by, sought_by}
use Rattle.cells.specs.Turns.{choose_by}
use Rattle.cells.specs.Calls.{row_by, event_by, grant_by, rest_by, handled_by, step_due, step_by, event_answer, step_answer, step_wait, Performed, event_left, perform_by}
use Rattle.refinement.specs.Kept.{Ready, Kept}
use Rattle.refinement.proofs.Requested.{Left}
use Rattle.refinement.proofs.Started.{advance_left}
use Rattle.refinement.proofs.FreshTied.{fresh_node}
use Rattle.refinement.proofs.Rested.{rested_tied}
use Rattle.refinement.proofs.Performed.{stepped, performed}
use Rattle.refinement.proofs.Written.Told.{Tells, tells}
use Rattle.refinement.proofs.Recorded.Spared.{spares_then, times-same, busy_spares}
use Rattle.refinement.proofs.Recorded.Turned.{come_tied}
use Rattle.refinement.proofs.Recorded.Came.{change_timed, turn_spares, wait_tied}

-- a call over the cells, and the watched call on the hub
pub record TimedAgrees (P : List ℕ) (call : Call) (s : List ℕ) : Type 0 where
  pub wait : (perform_by P call s).wait
      ≡ wait_of (plan_in P) (core_of (plan_in P) s) (perform (plan_in P) (control (plan_in P)) call (hub_of (plan_in P) s)).answer (times_of (plan_in P) s)
  pub times : times_of (plan_in P) (perform_by P call s).cells
      ≡ watch (plan_in P) (core_of (plan_in P) s) call (perform (plan_in P) (control (plan_in P)) call (hub_of (plan_in P) s)).answer (times_of (plan_in P) s)

pub fresh-times : (p : Plan) → times_of p fresh_cells ≡ (λ k. 0)
unfolding times_of
fresh-times p i k = go (is_node p k) i
  where
    go : (b : Bool) → (if b then since_at k fresh_cells else 0) ≡ 0
    go true = rw (fresh_node k 4, fresh_node k 5)
    go false = refl

module _ (P : List ℕ) (R : Ready P) (s : List ℕ) (K : Kept (plan_in P) s) where
  -- of a call that got this answer
  record Timed (call : Call) (o : Performed) : Type 0 where
    wait : o.wait ≡ wait_of (plan_in P) (core_of (plan_in P) s) o.answer (times_of (plan_in P) s)
    times : times_of (plan_in P) o.cells ≡ watch (plan_in P) (core_of (plan_in P) s) call o.answer (times_of (plan_in P) s)

  came : (t : ℕ) → Left (plan_in P) (advance_by P t s) (advance (plan_in P) t (core_of (plan_in P) s)) (control_of (plan_in P) s)
  came t = advance_left P R t s K

  event_timed : (call : Call) → (event_answer (row_by P call s) ≡ taken → Acceptable (plan_in P) (core_of (plan_in P) s) call) → Timed call (event_left P call s)
  unfolding event_left event_by
  event_timed call fits = go (which (eqb (row_by P call s) 0))
    where
      go : Which (eqb (row_by P call s) 0) → Timed call (event_left P call s)
      go (yes' e) =
          rw e
          (record {
            wait = refl;
            times =
                change_timed P R (advance_by P (time call) s) (came (time call)).kept (fits (rw e refl))
                ∙ ap₂ (λ (c : Core) (f : ℕ → ℕ). recorded (plan_in P) call c f) (came (time call)).core (come_tied P s K.size (time call));
          })
      go (no' e) = rw e (record { wait = refl; times = refl })

  -- of a step
  module _ (t now : ℕ) where
    handled_timed : (d : ℕ) (x : Sought) → Tells (plan_in P) (step t) (step_answer (handled_by P d x (advance_by P d s)).answer) now
        → Timed (step t) (stepped (handled_by P d x (advance_by P d s)))
    unfolding handled_by grant_by rest_by step_answer step_wait
    handled_timed d (seek.Class is_high) (w, e) =
        let r = advance_by P d s in
        let came_to = come_tied P s K.size d in
        let node = (choose_by P is_high r).turn.node in
        record {
          wait = wait_tied P R r (came d).kept d node is_high w ∙ (λ i. d - came_to i node);
          times = times-same (plan_in P) (spares_then (turn_spares P R r (came d).kept is_high) (busy_spares P is_high node _ _)) ∙ came_to;
        }
    handled_timed d seek.Nothing e =
        let r = advance_by P d s in
        record {
          wait = refl;
          times =
              times-same (plan_in P) (record { same = λ i l. (rested_tied P R d r (came d).kept).same i (λ q. omega arith) (λ q. omega arith) })
              ∙ come_tied P s K.size d;
        }

    due_timed : (x : Option ℕ) → Tells (plan_in P) (step t) (step_answer (step_due P x t s).answer) now → Timed (step t) (stepped (step_due P x t s))
    unfolding step_due step_answer step_wait
    due_timed None told = record { wait = refl; times = refl }
    due_timed (Some d) told = go (which (ltb d t))
      where
        go : Which (ltb d t) → Timed (step t) (stepped (step_due P (Some d) t s))
        go (yes' l) = rw l (handled_timed d (sought_by (advance_by P d s)) (rw l at told))
        go (no' l) = rw l (record { wait = refl; times = refl })

    step_timed : Tells (plan_in P) (step t) (step_answer (step_by P t s).answer) now → Timed (step t) (stepped (step_by P t s))
    unfolding step_by step_answer step_wait
    step_timed told = go (which (eqb (row_by P (step t) s) 0))
      where
        go : Which (eqb (row_by P (step t) s) 0) → Timed (step t) (stepped (step_by P t s))
        go (yes' e) = rw e (due_timed (due_by (plan_in P) s) (rw e at told))
        go (no' e) = rw e (record { wait = refl; times = refl })

  call_timed : (call : Call) (now : ℕ) → Tells (plan_in P) call (perform_by P call s).answer now
      → ((perform_by P call s).answer ≡ taken → Acceptable (plan_in P) (core_of (plan_in P) s) call) → Timed call (perform_by P call s)
  unfolding perform_by event_left
  call_timed (ask c t k b) now told fits = event_timed (ask c t k b) fits
  call_timed (off t k) now told fits = event_timed (off t k) fits
  call_timed (reserve t k n b) now told fits = event_timed (reserve t k n b) fits
  call_timed (until t) now told fits = event_timed (until t) fits
  call_timed (step t) now told fits = step_timed t now told

pub timed : (P : List ℕ) (R : Ready P) (s : List ℕ) (K : Kept (plan_in P) s)
    (G : Good (plan_in P) R.drawn.figures (control (plan_in P)) (control_follows (plan_in P) R.drawn) (hub_of (plan_in P) s))
    (call : Call) → TimedAgrees P call s
timed P R s K G call = record { wait = t.wait ∙ λ i. wait_of p c (e i) (times_of p s); times = t.times ∙ λ i. watch p c call (e i) (times_of p s) }
  where
    p : Plan
    p = plan_in P

    c : Core
    c = core_of p s

    h : Hub Control
    h = hub_of p s

    -- both answer the same
    e : (perform_by P call s).answer ≡ (perform p (control p) call h).answer
    e = (performed P R s K G call).answer

    t : Timed P R s K call (perform_by P call s)
    t =
        call_timed P R s K call (perform p (control p) call h).hub.core.clock
        (subst (λ (a : Answer). Tells p call a (perform p (control p) call h).hub.core.clock) (sym e) (tells p R.drawn.figures (control p) (control_follows p R.drawn) h G call))
        (λ q. taken_acceptable p (control p) call h (sym e ∙ q))
