-- The cascade of `rules` meets the demands: every list of calls, with any plan text that is taken.
use Prim.Native.Nat.{ℕ, ◌≤◌}
use mathlib.Core.Path.{◌≡◌}
use mathlib.Core.List.{List}
use Rattle.rules.specs.Plan.{Plan}
use Rattle.rules.specs.Call.{Call}
use Rattle.rules.specs.Drawn.{Drawn}
use Rattle.rules.specs.Control.{control}
use Rattle.rules.specs.Run.{made}
use Rattle.rules.proofs.Control.FollowsFlat.{control_follows}
use Rattle.rules.proofs.Control.EveryList.{control_turns_agree, as_from_root, control_moves}
use Rattle.rules.proofs.Control.Saving.{control_saves}
use Rattle.rules.proofs.Travel.EveryRun.{control_travels}
use Rattle.rules.proofs.Looks.Calls.{control-looks}
use Rattle.rules.proofs.Demand3.OfControl.{control_demand3}
use Rattle.rules.proofs.AnyMoment.Theorem.{control_any_moment}
use Rattle.rules.proofs.Strict.EitherDefault.{either_default}
use Rattle.rules.proofs.Strict.TakenAsNormal.{taken_as_normal}
use Rattle.rules.proofs.Strict.StaysNormal.{stays_normal}
use Rattle.rules.proofs.Waits.Theorem.{waits}
use Rattle.rules.proofs.Promised.NoTimeLost.{no_time_lost}
use Rattle.rules.proofs.Core.Stable.{clock_grows}
use Rattle.rules.proofs.Promised.Unchanged.{refusal_changes_nothing, quiet_changes_nothing}
use Rattle.rules.proofs.Promised.Admission.{admission_holds}
use Rattle.rules.proofs.Core.Acceptance.{acceptable_taken, taken_acceptable}
use Rattle.plan.specs.Answer.{Taken}
use Rattle.plan.specs.Reading.{reading}
use Rattle.plan.specs.Tables.{plan_of}
use Rattle.plan_theory.proofs.TakenPlan.{taken_plan}
use Rattle.demands.specs.Promises.{Promises, left, cascade}

-- of any drawn plan
module _ (p : Plan) (drawn : Drawn p) (calls : List Call) where
  one_more : (call : Call) → (cascade p calls).hub.core.clock ≤ (left p calls call).core.clock
  unfolding made
  one_more call = clock_grows p drawn.figures (control p) (control_follows p drawn) drawn.some_node call calls

  pub drawn_promises : Promises p calls
  drawn_promises =
      record {
        turns_agree = control_turns_agree p drawn calls;
        few_moves = control_moves p drawn calls;
        as_from_root = as_from_root p drawn calls;
        saves = control_saves p drawn calls;
        travels = control_travels p drawn calls;
        few_looks = control-looks p drawn calls;
        demand_3 = control_demand3 p drawn calls;
        any_moment = control_any_moment p drawn calls;
        either_default = either_default p drawn;
        as_normal = taken_as_normal p calls;
        stays_normal = stays_normal p drawn calls;
        waits = waits p drawn calls;
        no_time_lost = no_time_lost p drawn.figures (control p) (control_follows p drawn) drawn.some_node calls;
        clock_grows = one_more;
        refusal_changes_nothing = λ call. refusal_changes_nothing p (control p) call (cascade p calls).hub;
        quiet_changes_nothing = λ call. quiet_changes_nothing p (control p) call (cascade p calls).hub;
        admits = admission_holds p drawn.figures (control p) (control_follows p drawn) drawn.some_node calls;
        takes = λ call. acceptable_taken p (control p) call (cascade p calls).hub;
        takes_only = λ call. taken_acceptable p (control p) call (cascade p calls).hub;
      }

-- a text that is taken draws its plan
pub promises : (text : List ℕ) (nodes hubs at line : ℕ) → (reading text).answer ≡ Taken nodes hubs at line → (calls : List Call)
    → Promises (plan_of (reading text).tables) calls
promises text nodes hubs at line e calls =
    drawn_promises (plan_of (reading text).tables) (taken_plan text nodes hubs at line e).plan calls
