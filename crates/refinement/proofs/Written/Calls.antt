-- Of one call on cells of a plan that is taken: within a frame it writes at most L mask cells in each class that it concerns, and over a
-- frame's start few more.
use Rattle.std.specs.Prelude.{Option, Some, None}
use Prim.Native.Nat.{ℕ, ◌+◌, ◌≤◌}
use mathlib.Core.Path.{◌≡◌}
use mathlib.Core.List.{List}
use native.Mathlib.Omega.{arith}
use lib.Dec.{ltb, eqb}
use borrow.Author.Tests.{le-ltb}
use Rattle.rules.specs.Plan.{Plan}
use Rattle.rules.specs.Call.{Call, ask, off, reserve, until, step, time}
use Rattle.rules.specs.Core.{frame_of}
use Rattle.rules.proofs.Laws.Passes.{Which, which, yes', no'}
use Rattle.cells.specs.Sought.{Sought}
use Rattle.cells.specs.Sought as seek
use Rattle.cells.specs.Layout.{clock_cell, time_at}
use Rattle.cells.specs.Decode.{plan_in}
use Rattle.cells.specs.Waits.{record_since}
use Rattle.cells.specs.Frames.{new_frame, advance_by}
use Rattle.cells.specs.Instants.{due_by, sought_by}
use Rattle.cells.specs.Turns.{choose_by}
use Rattle.cells.specs.Calls.{row_by, put_up_code, grant_by, rest_by, handled_by, step_due, step_by, event_answer, step_answer, event_left, perform_by}
use Rattle.cells.specs.Written.{advance_writes, change_writes, event_writes, grant_writes, handled_writes, step_due_writes, step_writes, call_writes}
use Rattle.refinement.specs.Kept.{Ready}
use Rattle.refinement.specs.Written.{most_by, most_at_start, frame_in, FewWrites}
use Rattle.refinement.proofs.Written.Counts.{request_few, removal_few, grant_few, build_few}
use Rattle.refinement.proofs.Written.Told.{Named, Tells}
use Rattle.refinement.proofs.Written.Counted.{call_counted}

module _ (P : List ℕ) (R : Ready P) (s : List ℕ) where
  abbrev p : Plan
  p = plan_in P

  -- n writes of a call that leaves the clock at `now`
  record Few (call : Call) (n now : ℕ) : Type 0 where
    within : frame_of p now ≡ frame_in p s → n ≤ most_by p call
    over_start : n ≤ most_by p call + most_at_start p

  none : (call : Call) (now : ℕ) → Few call 0 now
  none call now = record { within = λ e. omega arith; over_start = omega arith }

  -- a frame's start, where the clock comes to t
  start_few : (t : ℕ) → advance_writes P t s ≤ most_at_start p
  unfolding advance_writes
  start_few t = go (which (new_frame p t s))
    where
      go : Which (new_frame p t s) → advance_writes P t s ≤ most_at_start p
      go (yes' e) = rw e (build_few P R)
      go (no' e) = rw e (omega arith)

  no_start : (t : ℕ) → frame_of p t ≡ frame_in p s → advance_writes P t s ≡ 0
  unfolding advance_writes
  no_start t e = rw (le-ltb (frame_in p s) (frame_of p t) (omega arith))

  -- so a change behind it
  behind : (call : Call) (n t now : ℕ) → n ≤ most_by p call → now ≡ t → Few call (n + advance_writes P t s) now
  behind call n t now l e =
      record {
        within = λ f. omega (arith, no_start t (rw e at f));
        over_start = omega (arith, start_few t);
      }

  change_few : (call : Call) (r : List ℕ) → Named p call → change_writes P call r ≤ most_by p call
  unfolding change_writes
  change_few (ask c t k b) r w = omega (arith, request_few P R k w (put_up_code c k b r) (record_since k (put_up_code c k b r) t r))
  change_few (off t k) r w = omega (arith, removal_few P R k w r)
  change_few (reserve t k n b) r w = omega arith
  change_few (until t) r w = omega arith
  change_few (step t) r w = omega arith

  event_few : (call : Call) (now : ℕ) → Tells p call (event_answer (row_by P call s)) now → Few call (event_writes P call s) now
  unfolding event_writes
  event_few call now told = go (which (eqb (row_by P call s) 0))
    where
      go : Which (eqb (row_by P call s) 0) → Few call (event_writes P call s) now
      go (yes' e) =
          let (w, i) = rw e at told in
          rw e (behind call (change_writes P call (advance_by P (time call) s)) (time call) now (change_few call (advance_by P (time call) s) w) i)
      go (no' e) = rw e (none call now)

  -- of a step
  module _ (t now : ℕ) where
    handled_few : (d : ℕ) (x : Sought) (r : List ℕ) → Tells p (step t) (step_answer (handled_by P d x r).answer) now
        → Few (step t) (handled_writes P x r + advance_writes P d s) now
    unfolding handled_by grant_by rest_by step_answer handled_writes grant_writes
    handled_few d (seek.Class is_high) r (w, e) =
        behind (step t) (handled_writes P (seek.Class is_high) r) d now
        (omega (arith, grant_few P R (choose_by P is_high r).turn.node w is_high (choose_by P is_high r).cells)) e
    handled_few d seek.Nothing r e = behind (step t) 0 d now (omega arith) e

    due_few : (x : Option ℕ) → Tells p (step t) (step_answer (step_due P x t s).answer) now → Few (step t) (step_due_writes P x t s) now
    unfolding step_due step_due_writes
    due_few None told = none (step t) now
    due_few (Some d) told = go (which (ltb d t))
      where
        go : Which (ltb d t) → Few (step t) (step_due_writes P (Some d) t s) now
        go (yes' l) = rw l (handled_few d (sought_by (advance_by P d s)) (advance_by P d s) (rw l at told))
        go (no' l) = rw l (none (step t) now)

    step_few : Tells p (step t) (step_answer (step_by P t s).answer) now → Few (step t) (step_writes P t s) now
    unfolding step_by step_writes
    step_few told = go (which (eqb (row_by P (step t) s) 0))
      where
        go : Which (eqb (row_by P (step t) s) 0) → Few (step t) (step_writes P t s) now
        go (yes' e) = rw e (due_few (due_by p s) (rw e at told))
        go (no' e) = rw e (none (step t) now)

  call_few : (call : Call) (now : ℕ) → Tells p call (perform_by P call s).answer now → Few call (call_writes P call s) now
  unfolding perform_by event_left call_writes
  call_few (ask c t k b) now told = event_few (ask c t k b) now told
  call_few (off t k) now told = event_few (off t k) now told
  call_few (reserve t k n b) now told = event_few (reserve t k n b) now told
  call_few (until t) now told = event_few (until t) now told
  call_few (step t) now told = step_few t now told

  -- where the answers tell so much
  pub few_writes : ((call : Call) → Tells p call (perform_by P call s).answer (time_at (perform_by P call s).cells clock_cell)) → FewWrites P p s
  few_writes told =
      record {
        within = λ call e. omega (arith, (each call).within e);
        over_start = λ call. omega (arith, (each call).over_start);
        counted = λ call. (call_counted P call s).few;
      }
    where
      each : (call : Call) → Few call (call_writes P call s) (time_at (perform_by P call s).cells clock_cell)
      each call = call_few call (time_at (perform_by P call s).cells clock_cell) (told call)
