-- "Grants and moves are unaffected" (request 1 of document 02): with any other recorded times each call answers the same
-- and leaves the same hub.
use Prim.Native.Nat.{ℕ}
use mathlib.Core.Path.{◌≡◌, sym, ap, subst, ◌∙◌}
use mathlib.Core.List.{List}
use Rattle.rules.specs.Plan.{Plan}
use Rattle.rules.specs.Call.{Call}
use Rattle.rules.specs.Machine.{Hub, perform}
use Rattle.rules.specs.Control.{Control, control}
use Rattle.rules.proofs.Core.AlwaysSound.{Good}
use Rattle.rules.proofs.Control.FollowsFlat.{control_follows}
use Rattle.cells.specs.Decode.{plan_in, hub_of}
use Rattle.cells.specs.Calls.{perform_by}
use Rattle.refinement.specs.Kept.{Ready, Kept}
use Rattle.refinement.specs.Waits.{OtherTimes}
use Rattle.refinement.proofs.OtherTimes.{other_hub, other_left}
use Rattle.refinement.proofs.Performed.{Agrees, agreed_hub, performed}

module _ (P : List ℕ) (R : Ready P) (s : List ℕ) (K : Kept (plan_in P) s)
    (G : Good (plan_in P) R.drawn.figures (control (plan_in P)) (control_follows (plan_in P) R.drawn) (hub_of (plan_in P) s)) where
  pub unaffected : (r : List ℕ) → OtherTimes s r → (call : Call)
      → ((perform_by P call r).answer ≡ (perform_by P call s).answer)
      × (hub_of (plan_in P) (perform_by P call r).cells ≡ hub_of (plan_in P) (perform_by P call s).cells)
  unaffected r o call = (
    b.answer ∙ ap (λ (h : Hub Control). (perform p (control p) call h).answer) same ∙ sym a.answer,
    agreed_hub b ∙ ap (λ (h : Hub Control). (perform p (control p) call h).hub) same ∙ sym (agreed_hub a),
  )
    where
      p : Plan
      p = plan_in P

      same : hub_of p r ≡ hub_of p s
      same = other_hub p R.drawn s r o

      a : Agrees p (perform_by P call s) (perform p (control p) call (hub_of p s))
      a = performed P R s K G call

      b : Agrees p (perform_by P call r) (perform p (control p) call (hub_of p r))
      b =
          performed P R r (other_left p R.drawn s r o K).kept
          (subst (Good p R.drawn.figures (control p) (control_follows p R.drawn)) (sym same) G) call
