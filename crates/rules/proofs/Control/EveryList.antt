-- Over every list of calls on a drawn plan: hub-by-hub control gives the flat hub's turns, and each turn takes at most 4 × (L - 1) moves.
use Prim.Native.Nat.{◌-◌, ◌*◌, ◌≤◌}
use mathlib.Core.Path.{◌≡◌, sym, ◌∙◌}
use mathlib.Core.List.{List, map}
use Rattle.rules.specs.Plan.{Plan, levels}
use Rattle.rules.specs.Call.{Call}
use Rattle.rules.specs.Drawn.{Drawn}
use Rattle.rules.specs.Flat.{flat}
use Rattle.rules.specs.Control.{control, from_root}
use Rattle.rules.specs.Run.{made}
use Rattle.rules.specs.Agree.{plain, moves_of, Every}
use Rattle.rules.proofs.Flat.Agree.{turns_agree, cores_agree, moves_cost}
use Rattle.rules.proofs.Control.FollowsFlat.{control_follows, control_costs, from_root_follows}

module _ (p : Plan) (D : Drawn p) (calls : List Call) where
  pub control_turns_agree : map plain (made p (control p) calls).past ≡ map plain (made p (flat p) calls).past
  control_turns_agree = turns_agree p (control p) (control_follows p D) calls

  -- the old rule 2 follows the flat rule too, so both runs are the flat hub's but for moves
  pub as_from_root : map plain (made p (control p) calls).past ≡ map plain (made p (from_root p) calls).past
  as_from_root = control_turns_agree ∙ sym (turns_agree p (from_root p) (from_root_follows p D) calls)

  -- at every place: the calls are those made so far
  pub control_cores_agree : (made p (control p) calls).hub.core ≡ (made p (flat p) calls).hub.core
  control_cores_agree = cores_agree p (control p) (control_follows p D) calls

  pub control_moves : Every (λ a. moves_of a ≤ 4 * (levels p - 1)) (made p (control p) calls).past
  control_moves = moves_cost p (control p) (control_follows p D) calls (λ n. n ≤ 4 * (levels p - 1)) (control_costs p D)
