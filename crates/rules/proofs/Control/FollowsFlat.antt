-- Hub-by-hub control follows the flat rule: for each class the flat pointer
-- is the node behind those that the search has passed. And the move limit.
use Prim.Native.Nat.{ℕ, ◌+◌, ◌-◌, ◌*◌, ◌≤◌}
use mathlib.Core.Path.{◌≡◌, refl, sym, subst}
use mathlib.Core.Bool.{Bool, true}
use native.Mathlib.Omega.{arith}
use borrow.Author.Tests.{ne_eqb}
use Rattle.std.specs.Prelude.{if◌then◌else◌}
use Rattle.rules.specs.Choice.{any}
use Rattle.rules.specs.Plan.{Plan, levels}
use Rattle.rules.specs.Call.{Class, same}
use Rattle.rules.specs.Drawn.{Drawn}
use Rattle.rules.specs.Flat.{Pointers, in_turn, behind, passed}
use Rattle.rules.specs.Machine.{Turn}
use Rattle.rules.specs.Control.{Control, at_first, hand_to, climb, walk, most_looks, turning, choose_by, choose_from_root, control, from_root}
use Rattle.rules.proofs.Laws.Passes.{Which, which, yes', no'}
use Rattle.rules.proofs.Flat.InTurn.{chosen}
use Rattle.rules.proofs.Flat.Follows.{Follows}
use Rattle.rules.proofs.Flat.Agree.{Costs}
use Rattle.rules.proofs.Flat.Turns.{chosen_counts}
use Rattle.rules.proofs.Control.Pointers.{Chain, root, Good, stands, root_within, chain_within, chain_level, good_up, good_from_root}
use Rattle.rules.proofs.Control.Steps.{same-eq, others_none}
use Rattle.rules.proofs.Control.Choosing.{chosen_same, chosen_behind, behind_within}
use Rattle.rules.proofs.Control.Landing.{Landed, landed_on}
use Rattle.rules.proofs.Control.Levels.{level_up, levels-up}
use Rattle.rules.proofs.Control.Walk.{DownAt, down_lands}
use Rattle.rules.proofs.Control.Nearest.{Near, nearest_near}

module _ (p : Plan) (D : Drawn p) where
  pub record Like (σ : Control) (π : Pointers) : Type 0 where
    -- for each class, the search has passed the nodes up to this one
    pub passing : Class → ℕ
    pub good : (c : Class) → Good p D (σ.pointer c) (passing c) 1
    pub pointer : (c : Class) → π c ≡ behind p (passing c)
    pub chain : Chain p (σ.pointer σ.latest) σ.holder

  pub like_first : Like at_first (λ c. 1)
  like_first =
      record {
        passing = λ c. 0;
        good = λ c. stands {g = 1} 1 refl (omega arith) (omega arith) (sym D.root_first);
        pointer = λ c. rw (ne_eqb 0 p.nodes (λ e. omega (arith, D.some_node)));
        chain = root;
      }

  pub like_rests : (σ : Control) (π : Pointers) → Like σ π → Like (hand_to 1 σ) π
  like_rests σ π l = record { passing = l.passing; good = l.good; pointer = l.pointer; chain = root }

  -- a walk from a hub that is led to lands, whatever moves m were made before it
  walk_lands : (c : Class) (f : ℕ → Bool) (σ : Control) (π : Pointers) → any p.nodes f ≡ true → (l : Like σ π)
      → (g m : ℕ) → Chain p (σ.pointer c) g
      → Landed p D c f (hand_to g σ) (l.passing c) (m + (3 * levels p - p.level g - 2)) (walk p c f most_looks (hand_to g σ) m)
  unfolding DownAt
  walk_lands c f σ π some l g m ch =
      down_lands p D c f some most_looks (hand_to g σ) m (l.passing c) ch (good_from_root p D ch (l.good c)) (omega (arith, levels-up p D))

  -- so it grants a node
  pub walk_grants : (c : Class) (f : ℕ → Bool) (σ : Control) (π : Pointers) → any p.nodes f ≡ true → Like σ π
      → (g m : ℕ) → Chain p (σ.pointer c) g → (walk p c f most_looks (hand_to g σ) m).node ≡ 0 → ⊥
  walk_grants c f σ π some l g m ch e = omega (arith, (chosen_counts (omega arith) (walk_lands c f σ π some l g m ch).chosen).within.low)

  -- and where the moves before it are those up to that hub, there are at most 4 × (L - 1)
  from_lands : (c : Class) (f : ℕ → Bool) (σ : Control) (π : Pointers) → any p.nodes f ≡ true → (l : Like σ π)
      → (g m : ℕ) → Chain p (σ.pointer c) g → m + p.level g ≤ p.level σ.holder
      → Landed p D c f σ (l.passing c) (4 * (levels p - 1)) (walk p c f most_looks (hand_to g σ) m)
  from_lands c f σ π some l g m ch few =
      landed_on p D c f {τ = hand_to g σ} (λ j d. d) (others_none c σ.pointer)
      (omega (arith, few, chain_level p D ch, level_up p D σ.holder (chain_within p D l.chain)))
      (walk_lands c f σ π some l g m ch)

  -- of the same class control stays at its holder
  same_lands : (c : Class) (f : ℕ → Bool) (σ : Control) (π : Pointers) → any p.nodes f ≡ true → (l : Like σ π) → same c σ.latest ≡ true
      → Landed p D c f σ (l.passing c) (4 * (levels p - 1)) (walk p c f most_looks σ 0)
  same_lands c f σ π some l e =
      let ch = subst (λ (d : Class). Chain p (σ.pointer d) σ.holder) (sym (same-eq c σ.latest e)) l.chain in
      from_lands c f σ π some l σ.holder 0 ch (omega arith)

  -- so it does where control turns
  pub choose_lands : (c : Class) (f : ℕ → Bool) (σ : Control) (π : Pointers) → any p.nodes f ≡ true → (l : Like σ π)
      → Landed p D c f σ (l.passing c) (4 * (levels p - 1)) (choose_by p c f σ)
  unfolding choose_by
  choose_lands c f σ π some l = go (which (same c σ.latest))
    where
      near : Near p (σ.pointer c) σ.holder (turning p c σ)
      near = nearest_near p D (σ.pointer c) σ.holder (chain_within p D l.chain)

      go : Which (same c σ.latest) → Landed p D c f σ (l.passing c) (4 * (levels p - 1)) (choose_by p c f σ)
      go (yes' e) = rw e (same_lands c f σ π some l e)
      go (no' e) =
          rw e
          (from_lands c f σ π some l (turning p c σ) (climb p σ.holder - climb p (turning p c σ)) near.chain
          (omega (arith, near.up, chain_level p D near.chain)))

  -- and where it goes up to the root, as the old rule 2 has it
  pub root_lands : (c : Class) (f : ℕ → Bool) (σ : Control) (π : Pointers) → any p.nodes f ≡ true → (l : Like σ π)
      → Landed p D c f σ (l.passing c) (4 * (levels p - 1)) (choose_from_root p c f σ)
  unfolding choose_from_root
  root_lands c f σ π some l = go (which (same c σ.latest))
    where
      go : Which (same c σ.latest) → Landed p D c f σ (l.passing c) (4 * (levels p - 1)) (choose_from_root p c f σ)
      go (yes' e) = rw e (same_lands c f σ π some l e)
      go (no' e) =
          rw e
          (from_lands c f σ π some l 1 (climb p σ.holder) root (omega (arith, chain_level p D l.chain, D.root_level)))

  -- a turn that lands, whatever way control went
  module _ (c : Class) (f : ℕ → Bool) (σ : Control) (π : Pointers) (some : any p.nodes f ≡ true) (l : Like σ π) (t : Turn Control)
      (landed : Landed p D c f σ (l.passing c) (4 * (levels p - 1)) t) where
    -- the node is the flat hub's
    pub landed_node : t.node ≡ in_turn p f (π c)
    landed_node =
        let u : l.passing c ≤ p.nodes = omega (arith, good_up p D (root_within p D) (l.good c), D.root_last) in
        let w = behind_within p (l.passing c) u in
        rw (l.pointer c)
        (chosen_same (chosen_behind p f (l.passing c) t.node u landed.chosen)
        (chosen p f (behind p (l.passing c)) some w.low w.up))

    pub landed_like : Like t.state (passed p c (in_turn p f (π c)) π)
    landed_like =
        record {
          passing = λ d. (if same d c then t.node else l.passing d);
          good = λ d. good d (which (same d c));
          pointer = λ d. pointer d (which (same d c));
          chain = rw landed.latest landed.chain;
        }
      where
        good : (d : Class) → Which (same d c) → Good p D (t.state.pointer d) (if same d c then t.node else l.passing d) 1
        good d (yes' e) = rw (e, same-eq d c e) landed.good
        good d (no' e) = rw (e, landed.others.kept d e) (l.good d)

        pointer : (d : Class) → Which (same d c) → passed p c (in_turn p f (π c)) π d ≡ behind p (if same d c then t.node else l.passing d)
        pointer d (yes' e) = rw (e, landed_node)
        pointer d (no' e) = rw e (l.pointer d)

  -- the move limit of a rest
  pub rested_few : (σ : Control) (π : Pointers) → Like σ π → climb p σ.holder ≤ 4 * (levels p - 1)
  rested_few σ π l = omega (arith, level_up p D σ.holder (chain_within p D l.chain))

  -- hub-by-hub control gives the flat hub's turns
  unfoldable pub control_follows : Follows p (control p)
  control_follows =
      record {
        Like = Like;
        start = like_first;
        node = λ c f σ π some l. landed_node c f σ π some l (choose_by p c f σ) (choose_lands c f σ π some l);
        state = λ c f σ π some l. landed_like c f σ π some l (choose_by p c f σ) (choose_lands c f σ π some l);
        rests = like_rests;
      }

  -- and so does control by the old rule 2
  unfoldable pub from_root_follows : Follows p (from_root p)
  from_root_follows =
      record {
        Like = Like;
        start = like_first;
        node = λ c f σ π some l. landed_node c f σ π some l (choose_from_root p c f σ) (root_lands c f σ π some l);
        state = λ c f σ π some l. landed_like c f σ π some l (choose_from_root p c f σ) (root_lands c f σ π some l);
        rests = like_rests;
      }

  -- the move limit, once over the number of levels
  pub control_costs : Costs p (control p) control_follows (λ n. n ≤ 4 * (levels p - 1))
  unfolding control_follows
  control_costs =
      record { none = omega arith; choose = λ c f σ π some l. (choose_lands c f σ π some l).few; rests = rested_few }
