-- Over every list of calls: the run without the line is, answer for answer, the run with it of the calls as they are taken.
use mathlib.Core.Path.{◌≡◌, refl, ap, ◌∙◌}
use mathlib.Core.Bool.{true, false}
use mathlib.Core.List.{List, [], ◌∷◌}
use Rattle.rules.specs.Plan.{Plan, with_strict}
use Rattle.rules.specs.Call.{Call}
use Rattle.rules.specs.Machine.{Hub, perform}
use Rattle.rules.specs.Control.{Control, control}
use Rattle.rules.specs.Run.{made}
use Rattle.rules.specs.Strict.{run_with, perform_with, as_taken, all_as_taken, TakenAsNormal}
use Rattle.rules.proofs.Strict.SameControl.{same_performed}
use Rattle.rules.proofs.Strict.OneCall.{one_call}

-- one call more, each run by its own control and from what it left
pub one_more : (p : Plan) (call : Call) (h g : Hub Control) → h ≡ g → perform_with false p call h ≡ perform_with true p (as_taken p h.core call) g
one_more p call h g e =
    one_call p (control (with_strict false p)) h call
    ∙ same_performed false (with_strict true p) (with_strict true p) (as_taken p h.core call) h
    ∙ ap (perform (with_strict true p) (control (with_strict true p)) (as_taken p h.core call)) e

pub taken_as_normal : (p : Plan) (calls : List Call) → TakenAsNormal p calls
unfolding made all_as_taken
taken_as_normal p [] = record { answers = refl; hub = refl }
taken_as_normal p (call ∷ earlier) =
    let before = taken_as_normal p earlier in
    let o = one_more p call (run_with false p earlier).hub (run_with true p (all_as_taken p earlier)).hub before.hub in
    record { answers = λ i. (o i).answer ∷ before.answers i; hub = λ i. (o i).hub }
