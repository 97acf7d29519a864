-- From every state that a run reaches, by either rule 2, both grant the same node, and the new one takes at most the old one's moves.
use Prim.Native.Nat.{ℕ, ◌+◌, ◌-◌, ◌≤◌}
use mathlib.Core.Path.{◌≡◌, refl, sym, ◌∙◌}
use mathlib.Core.Bool.{Bool, true}
use mathlib.Core.List.{List}
use native.Mathlib.Omega.{arith}
use Rattle.rules.specs.Choice.{any}
use Rattle.rules.specs.Plan.{Plan}
use Rattle.rules.specs.Drawn.{Drawn}
use Rattle.rules.specs.Call.{Class, same, Call}
use Rattle.rules.specs.Core.{Core}
use Rattle.rules.specs.Machine.{Hub}
use Rattle.rules.specs.Flat.{Pointers, flat}
use Rattle.rules.specs.Control.{Control, climb, turning, most_looks, choose_by, choose_from_root, control, from_root}
use Rattle.rules.specs.Run.{made}
use Rattle.rules.specs.Saving.{SavesOn}
use Rattle.rules.proofs.Laws.Passes.{Which, which, yes', no'}
use Rattle.rules.proofs.Flat.Agree.{Pair, perform_alike, turns_like}
use Rattle.rules.proofs.Control.Pointers.{chain_within}
use Rattle.rules.proofs.Control.Nearest.{nearest_near}
use Rattle.rules.proofs.Control.FollowsFlat.{Like, landed_node, walk_grants, choose_lands, root_lands, control_follows, from_root_follows}
use Rattle.rules.proofs.Control.Fewer.{line_no_more}

module _ (p : Plan) (D : Drawn p) (σ : Control) (π : Pointers) (l : Like p D σ π) where
  module _ (c : Class) (f : ℕ → Bool) (some : any p.nodes f ≡ true) where
    pub same_node : (choose_by p c f σ).node ≡ (choose_from_root p c f σ).node
    same_node =
        landed_node p D c f σ π some l (choose_by p c f σ) (choose_lands p D c f σ π some l)
        ∙ sym (landed_node p D c f σ π some l (choose_from_root p c f σ) (root_lands p D c f σ π some l))

    pub no_more_moves : (choose_by p c f σ).moves ≤ (choose_from_root p c f σ).moves
    unfolding choose_by choose_from_root
    no_more_moves = go (which (same c σ.latest))
      where
        go : Which (same c σ.latest) → (choose_by p c f σ).moves ≤ (choose_from_root p c f σ).moves
        go (yes' e) = rw e (omega arith)
        go (no' e) =
            let t = turning p c σ in
            let n = nearest_near p D (σ.pointer c) σ.holder (chain_within p D l.chain) in
            let up : climb p σ.holder - climb p t + (p.level t - 1) ≡ climb p σ.holder = omega (arith, n.up) in
            let w =
            line_no_more p D c f σ (l.passing c) most_looks (walk_grants p D c f σ π some l) (climb p σ.holder - climb p t) n.chain (l.good c) in
            rw e (rw up at w)

  -- both rules from σ
  both : Pair p (control p) (from_root p) (λ τ υ. (τ ≡ σ) × (υ ≡ σ)) (λ τ υ. Unit {0}) ◌≤◌
  both =
      record {
        none = omega arith;
        stays = λ τ υ e. tt;
        node = λ c f τ υ some (e, i). rw (e, i) (same_node c f some);
        state = λ c f τ υ some e. tt;
        moves = λ c f τ υ some (e, i). rw (e, i) (no_more_moves c f some);
        rested = λ τ υ e. tt;
        rest_moves = λ τ υ (e, i). rw (e, i) (omega arith);
      }

  pub like_saves : (s : Core) (call : Call) → SavesOn p (record { core = s; turn = σ }) call
  like_saves s call =
      let h : Hub Control = record { core = s; turn = σ } in
      let o = perform_alike p (control p) (from_root p) (λ τ υ. (τ ≡ σ) × (υ ≡ σ)) (λ τ υ. Unit {0}) ◌≤◌ both call h h refl (refl, refl) in
      record { answer = o.answer; core = o.core; moves = o.cost }

module _ (p : Plan) (D : Drawn p) (calls : List Call) (call : Call) where
  -- at every place of a run by the new rule
  pub control_saves : SavesOn p (made p (control p) calls).hub call
  unfolding control_follows
  control_saves = like_saves p D (made p (control p) calls).hub.turn (made p (flat p) calls).hub.turn (turns_like p (control p) (control_follows p D) calls) (made p (control p) calls).hub.core call

  -- and of one by the old
  pub from_root_saves : SavesOn p (made p (from_root p) calls).hub call
  unfolding from_root_follows
  from_root_saves = like_saves p D (made p (from_root p) calls).hub.turn (made p (flat p) calls).hub.turn (turns_like p (from_root p) (from_root_follows p D) calls) (made p (from_root p) calls).hub.core call
