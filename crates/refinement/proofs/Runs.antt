-- The run of a list of calls over the cells is the run of `rules`: the same answers, and cells that are the hub that it leaves.
use Prim.Native.Nat.{ℕ}
use mathlib.Core.Path.{◌≡◌, refl, sym, ap, ap₂, subst, ◌∙◌}
use mathlib.Core.List.{List, [], ◌∷◌}
use Rattle.rules.specs.Call.{Call, Answer}
use Rattle.rules.specs.Machine.{Hub, perform}
use Rattle.rules.specs.Control.{Control, control}
use Rattle.rules.specs.Run.{Entry, made}
use Rattle.rules.proofs.Core.AlwaysSound.{Good, good}
use Rattle.rules.proofs.Control.FollowsFlat.{control_follows}
use Rattle.cells.specs.Decode.{plan_in, hub_of}
use Rattle.cells.specs.Calls.{perform_by}
use Rattle.cells.specs.Run.{made_by}
use Rattle.refinement.specs.Kept.{Ready, Kept}
use Rattle.refinement.proofs.FreshTied.{fresh_hub_lem, fresh_kept}
use Rattle.refinement.proofs.Performed.{Agrees, agreed_hub, performed}

pub record RunTied (P : List ℕ) (calls : List Call) : Type 0 where
  pub past : (made_by P calls).past ≡ (made (plan_in P) (control (plan_in P)) calls).past
  pub kept : Kept (plan_in P) (made_by P calls).cells
  pub hub : hub_of (plan_in P) (made_by P calls).cells ≡ (made (plan_in P) (control (plan_in P)) calls).hub

module _ (P : List ℕ) (R : Ready P) where
  -- what always holds of the hub holds of the cells
  pub run_good : (calls : List Call) → RunTied P calls
      → Good (plan_in P) R.drawn.figures (control (plan_in P)) (control_follows (plan_in P) R.drawn) (hub_of (plan_in P) (made_by P calls).cells)
  run_good calls t =
      subst (Good (plan_in P) R.drawn.figures (control (plan_in P)) (control_follows (plan_in P) R.drawn)) (sym t.hub)
      (good (plan_in P) R.drawn.figures (control (plan_in P)) (control_follows (plan_in P) R.drawn) R.drawn.some_node calls)

  -- one more call
  next_tied : (call : Call) (earlier : List Call) → RunTied P earlier → RunTied P (call ∷ earlier)
  unfolding made_by made
  next_tied call earlier t =
      record {
        past =
            ap₂ (λ (x : Answer) (past : List Entry). record { call = call; answer = x } ∷ past)
            (a.answer ∙ ap (λ (h : Hub Control). (perform (plan_in P) (control (plan_in P)) call h).answer) t.hub) t.past;
        kept = a.left.kept;
        hub =
            agreed_hub a
            ∙ ap (λ (h : Hub Control). (perform (plan_in P) (control (plan_in P)) call h).hub) t.hub;
      }
    where
      a : Agrees (plan_in P) (perform_by P call (made_by P earlier).cells)
          (perform (plan_in P) (control (plan_in P)) call (hub_of (plan_in P) (made_by P earlier).cells))
      a = performed P R (made_by P earlier).cells t.kept (run_good earlier t) call

  pub run_tied : (calls : List Call) → RunTied P calls
  unfolding made_by made
  run_tied [] = record { past = refl; kept = fresh_kept P R; hub = fresh_hub_lem P R }
  run_tied (call ∷ earlier) = next_tied call earlier (run_tied earlier)
