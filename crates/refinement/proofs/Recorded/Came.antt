-- The clock having come to a call's time: the recorded times behind an event's change, and the wait of a turn.
use Prim.Native.Nat.{ℕ, ◌-◌}
use mathlib.Core.Path.{◌≡◌, refl, sym, ap, ◌∙◌}
use mathlib.Core.Bool.{Bool}
use mathlib.Core.List.{List}
use native.Mathlib.Omega.{arith}
use borrow.Author.Tests.{le-ltb}
use Rattle.rules.specs.Drawn.{Within}
use Rattle.rules.specs.Call.{Call}
use Rattle.rules.specs.Core.{Core}
use Rattle.rules.specs.Waits.{recorded}
use Rattle.rules.specs.Promises.{Acceptable, asks, leaves, reserves, waits}
use Rattle.rules.proofs.Laws.Lengths.{longest-up}
use Rattle.cells.specs.Layout.{latest_cell, share_code}
use Rattle.cells.specs.Decode.{plan_in, core_of}
use Rattle.cells.specs.Waits.{times_of, record_since, wait_at}
use Rattle.cells.specs.Turns.{choose_by}
use Rattle.cells.specs.Calls.{put_up_code, change_by}
use Rattle.refinement.specs.Kept.{Ready, Kept}
use Rattle.refinement.proofs.Walked.Frame.{digit-up}
use Rattle.refinement.proofs.Walked.Chosen.{chosen_tied}
use Rattle.refinement.proofs.Recorded.Spared.{Spares, spares_set, times-same, request_spares}
use Rattle.refinement.proofs.Recorded.Asked.{time_own, record_tied}

module _ (P : List ℕ) (R : Ready P) (r : List ℕ) (K : Kept (plan_in P) r) where
  -- an event's change
  pub change_timed : {a : Core} {call : Call} → Acceptable (plan_in P) a call
      → times_of (plan_in P) (change_by P call r) ≡ recorded (plan_in P) call (core_of (plan_in P) r) (times_of (plan_in P) r)
  unfolding change_by
  change_timed (asks c t k b x) =
      times-same (plan_in P) (request_spares P k (put_up_code c k b r) (record_since k (put_up_code c k b r) t r))
      ∙ record_tied (plan_in P) R.drawn.few_nodes r K.size k x.node c b t (omega (arith, x.long, longest-up (plan_in P).framing))
  change_timed (leaves t k o w) = times-same (plan_in P) (request_spares P k 0 r)
  change_timed (reserves t k n b x) =
      times-same (plan_in P) (spares_set r (latest_cell k) (share_code n b) (omega (arith, x.node.up, R.drawn.few_nodes)))
  change_timed (waits t o) = refl

  -- a turn
  pub turn_spares : (is_high : Bool) → Spares r (choose_by P is_high r).cells
  turn_spares is_high =
      record {
        same = λ i l.
            (chosen_tied P R r K is_high).same i
            (record { pointer = λ d h w e. omega (arith, w.up, digit-up d); holder = λ e. omega arith; class = λ e. omega arith });
      }

  -- and its grant's wait
  pub wait_tied : (d k : ℕ) (is_high : Bool) → Within (plan_in P).nodes k → wait_at d k (choose_by P is_high r).cells ≡ d - times_of (plan_in P) r k
  unfolding wait_at
  wait_tied d k is_high w =
      rw (le-ltb k 1 w.low, le-ltb 256 k (omega (arith, w.up, R.drawn.few_nodes)))
      (ap (λ (n : ℕ). d - n)
      (sym (time_own (plan_in P) R.drawn.few_nodes r K.size k w (choose_by P is_high r).cells)
      ∙ (λ i. times-same (plan_in P) (turn_spares is_high) i k)))
