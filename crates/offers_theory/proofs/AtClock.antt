-- At its own clock no hub that a run reaches meets 11 or 12: the clock never passes 10^15, and nothing is due before it.
use Prim.Native.Nat.{ℕ, ◌≤◌}
use mathlib.Core.Path.{◌≡◌, refl, sym, ap, subst, ◌∙◌}
use mathlib.Core.List.{List, [], ◌∷◌}
use native.Mathlib.Omega.{arith}
use borrow.Author.Tests.{eqb-true}
use lib.Dec.{eqb}
use Rattle.rules.specs.Plan.{Plan}
use Rattle.rules.specs.Drawn.{Drawn}
use Rattle.rules.specs.Call.{Call, reserve, until, time, taken, refused}
use Rattle.rules.specs.Core.{advance}
use Rattle.rules.specs.Rows.{last_time}
use Rattle.rules.specs.Promises.{OnTime, waits}
use Rattle.rules.specs.Machine.{Machine, Hub, Outcome}
use Rattle.rules.specs.Control.{Control, control}
use Rattle.rules.specs.Run.{Entry, made}
use Rattle.rules.specs.Words.{clock_at}
use Rattle.rules.proofs.Core.CallCases.{in_time_lem, Course, refusal, event, quietly, granting, resting, course}
use Rattle.rules.proofs.Core.ClockAdvance.{advance_clock, due_late}
use Rattle.rules.proofs.Core.AlwaysTold.{event_clock, clock_told}
use Rattle.rules.proofs.Core.Sound.{Sound}
use Rattle.rules.proofs.Core.AlwaysSound.{sound}
use Rattle.rules.proofs.Laws.Passes.{Which, which, yes', no'}
use Rattle.rules.proofs.Laws.Clash.{clash}
use Rattle.rules.proofs.Control.FollowsFlat.{control_follows}
use Rattle.plan.specs.Tables.{plan_of}
use Rattle.plan.specs.Reading.{reading}
use Rattle.plan_theory.specs.Taken.{TakenAs}
use Rattle.plan_theory.proofs.TakenPlan.{taken_plan}
use Rattle.cells.specs.Decode.{core_of}
use Rattle.cells.specs.Calls.{row_by, event_answer, event_left, perform_by}
use Rattle.admission.proofs.ReserveRows.{reserve_goes_on}
use Rattle.offers.specs.Offers.{clock_of}
use Rattle.offers_theory.specs.Single.{AtClock}
use Rattle.demands.specs.Demands.{Calls, calls_of, Demands}
use Rattle.demands.proofs.Demands.{demands}

module _ (p : Plan) (M : Machine) where
  -- over one call, by the way that it goes
  soon_clock : (h : Hub M.State) → h.core.clock ≤ last_time → {call : Call} {o : Outcome M.State} → Course p M h call o
      → o.hub.core.clock ≤ last_time
  soon_clock h was (refusal call n e) = was
  soon_clock h was (event call e a) =
      rw (event_clock e (advance p (time call) h.core), advance_clock p (time call) h.core) (in_time_lem p h.core call a).soon
  soon_clock h was (quietly t i n) = was
  soon_clock h was (granting t d c i e l n) = rw (advance_clock p d h.core) (omega (arith, i.soon))
  soon_clock h was (resting t d i e l n) = rw (advance_clock p d h.core) (omega (arith, i.soon))

  -- the clock of a run is 10^15 at most
  clock_soon : (calls : List Call) → (made p M calls).hub.core.clock ≤ last_time
  unfolding made
  clock_soon [] = omega arith
  clock_soon (call ∷ earlier) = soon_clock (made p M earlier).hub (clock_soon earlier) (course p M (made p M earlier).hub call)

-- an event that is taken is refused by no row
taken_row : (n : ℕ) → event_answer n ≡ taken → n ≡ 0
taken_row n e = go (which (eqb n 0)) e
  where
    go : Which (eqb n 0) → event_answer n ≡ taken → n ≡ 0
    go (yes' z) e = eqb-true n 0 z
    go (no' z) e = let f : refused n ≡ taken = rw z at e in clash (cc)

module _ (text : List ℕ) (nodes hubs at line : ℕ) (t : TakenAs text nodes hubs at line) where
  abbrev P : List ℕ
  P = (reading text).tables

  abbrev p : Plan
  p = plan_of P

  module _ (past : List Entry) (s : List ℕ) (c : Calls P past s) where
    run : Demands P p past s
    run = demands text nodes hubs at line t past s c

    drawn : Drawn p
    drawn = (taken_plan text nodes hubs at line t).plan

    on_time : OnTime p (core_of p s) (clock_of s)
    unfolding core_of
    on_time =
        record {
          soon = subst (λ (h : Hub Control). h.core.clock ≤ last_time) (sym run.hub) (clock_soon p (control p) (calls_of past));
          late = omega arith;
          not_due = due_late p drawn.figures (core_of p s)
              (subst (λ (h : Hub Control). Sound p h.core) (sym run.hub)
              (sound p drawn.figures (control p) (control_follows p drawn) drawn.some_node (calls_of past)));
        }

    pub at_clock : AtClock P p past s
    unfolding perform_by event_left core_of
    at_clock =
        let passed = taken_row (row_by P (until (clock_of s)) s) (run.takes (until (clock_of s)) (waits (clock_of s) on_time)) in
        record {
          clock =
              ap (λ (h : Hub Control). h.core.clock) run.hub
              ∙ sym (clock_told p drawn.figures (control p) (control_follows p drawn) drawn.some_node (calls_of past))
              ∙ ap clock_at (sym run.by_rules);
          on_time = passed;
          by_rows = λ o. sym (reserve_goes_on P s (clock_of s) o.node o.packets o.bits (sym passed) refl refl);
          by_rules = λ o. run.answers (reserve (clock_of s) o.node o.packets o.bits);
        }
