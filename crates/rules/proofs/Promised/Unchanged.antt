-- A refusal leaves the state as it was, and so does a quiet step.
use Prim.Native.Nat.{ℕ}
use mathlib.Core.Path.{◌≡◌, refl}
use Rattle.rules.specs.Plan.{Plan}
use Rattle.rules.specs.Call.{Call, refused, quiet}
use Rattle.rules.specs.Machine.{Machine, Hub, Outcome, perform}
use Rattle.rules.proofs.Core.CallCases.{Course, refusal, event, quietly, granting, resting, course}
use Rattle.rules.proofs.Laws.Clash.{clash}

module _ (p : Plan) (M : Machine) (call : Call) (h : Hub M.State) where
  pub refusal_changes_nothing : (n : ℕ) → (perform p M call h).answer ≡ refused n → (perform p M call h).hub ≡ h
  refusal_changes_nothing n e = go (course p M h call) e
    where
      go : {c : Call} {o : Outcome M.State} → Course p M h c o → o.answer ≡ refused n → o.hub ≡ h
      go (refusal c m a) q = refl
      go (event c v a) q = clash (cc)
      go (quietly t i b) q = refl
      go (granting t d c i a l b) q = clash (cc)
      go (resting t d i a l b) q = clash (cc)

  pub quiet_changes_nothing : (perform p M call h).answer ≡ quiet → (perform p M call h).hub ≡ h
  quiet_changes_nothing e = go (course p M h call) e
    where
      go : {c : Call} {o : Outcome M.State} → Course p M h c o → o.answer ≡ quiet → o.hub ≡ h
      go (refusal c m a) q = refl
      go (event c v a) q = clash (cc)
      go (quietly t i b) q = refl
      go (granting t d c i a l b) q = clash (cc)
      go (resting t d i a l b) q = clash (cc)
