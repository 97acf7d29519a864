-- "Under either default a reserved unit keeps the share and limit it had": the theorems of hub-by-hub control, for the
-- plan with the line or without it, and what they promise is the plan's own promise.
use mathlib.Core.Path.{refl, ap, ◌∙◌}
use mathlib.Core.Bool.{true}
use Rattle.rules.specs.Plan.{Plan, with_strict}
use Rattle.rules.specs.Drawn.{Drawn}
use Rattle.rules.specs.Call.{Call}
use Rattle.rules.specs.Strict.{EitherDefault, run_with, perform_with}
use Rattle.rules.proofs.Demand3.OfControl.{control_demand3}
use Rattle.rules.proofs.AnyMoment.Theorem.{control_any_moment}
use Rattle.rules.proofs.Strict.StillDrawn.{still_drawn}
use Rattle.rules.proofs.Strict.SamePromise.{same_promise_of}
use Rattle.rules.proofs.Strict.SameMoment.{same_moment_of}
use Rattle.rules.proofs.Strict.TakenAsNormal.{one_more}

-- the other direction is the same law of the changed plan: with p's own default put back it is p
pub either_default : (p : Plan) → Drawn p → EitherDefault p
either_default p drawn =
    record {
      share_and_limit = λ b calls.
          same_promise_of b p (run_with b p calls).past (control_demand3 (with_strict b p) (still_drawn b p drawn) calls);
      any_moment = λ b calls.
          same_moment_of b p (run_with b p calls).past (control_any_moment (with_strict b p) (still_drawn b p drawn) calls);
      same_promise = λ b whole. (same_promise_of b p whole, same_promise_of p.strict (with_strict b p) whole);
      same_moment = λ b whole. (same_moment_of b p whole, same_moment_of p.strict (with_strict b p) whole);
      otherwise_alike = λ h call e. one_more p call h h refl ∙ ap (λ (x : Call). perform_with true p x h) e;
    }
