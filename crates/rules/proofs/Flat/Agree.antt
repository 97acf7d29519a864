-- One call by two machines that give the same turn: the answers are the same but for moves, and so are
-- the cores that are left. And over every list of calls, a machine that follows the flat rule gives the
-- flat hub's answers but for moves; one induction carries along what is known of its moves.
use Prim.Native.Nat.{ℕ}
use mathlib.Core.Path.{◌≡◌, refl, subst}
use mathlib.Core.Bool.{Bool, true}
use mathlib.Core.List.{List, [], ◌∷◌, map}
use native.Mathlib.Omega.{arith}
use Rattle.rules.specs.Choice.{any}
use Rattle.rules.specs.Plan.{Plan}
use Rattle.rules.specs.Call.{Class, normal, high, Call, ask, off, reserve, until, step}
use Rattle.rules.specs.Core.{Core, advance, counts_in, Due, never, at, due, before, Sought, nothing, class, sought}
use Rattle.rules.specs.Rows.{Verdict, accept, refuse, first_row, rows}
use Rattle.rules.specs.Machine.{Machine, Hub, Outcome, handled, step_at, accepted, decided, perform}
use Rattle.rules.specs.Flat.{flat, Pointers}
use Rattle.rules.specs.Run.{Made, made}
use Rattle.rules.specs.Agree.{unmoved, plain, moves_of, Every, every_none, every_more}
use Rattle.rules.proofs.Laws.Passes.{Which, which, yes', no'}
use Rattle.rules.proofs.Flat.Follows.{Follows}

-- the class sought counts at some node
pub sought-counts : (p : Plan) (s : Core) (c : Class) → sought p s ≡ class c → any p.nodes (counts_in c s) ≡ true
unfolding sought
sought-counts p s c e = go (which (any p.nodes (counts_in high s))) (which (any p.nodes (counts_in normal s)))
  where
    go : Which (any p.nodes (counts_in high s)) → Which (any p.nodes (counts_in normal s)) → any p.nodes (counts_in c s) ≡ true
    go (yes' h) n = let i : c ≡ high = cc in rw i h
    go (no' h) (yes' n) = let i : c ≡ normal = cc in rw i n
    go (no' h) (no' n) = let z : ◌≡◌ {A = ℕ} 0 1 = cc in absurd (omega arith)

-- the moves of every choice and every rest, from states like some pointers, are ones that Cost allows
pub record Costs (p : Plan) (M : Machine) (F : Follows p M) (Cost : ℕ → Type 0) : Type 0 where
  pub none : Cost 0
  pub choose : (c : Class) (f : ℕ → Bool) (σ : M.State) (π : Pointers) → any p.nodes f ≡ true → F.Like σ π → Cost (M.choose c f σ).moves
  pub rests : (σ : M.State) (π : Pointers) → F.Like σ π → Cost (M.rested σ).moves

-- two machines whose turns go to the same node, from states that are In; Out is
-- what is known of the states that are left, and Cost of the moves of both
pub record Pair (p : Plan) (M N : Machine) (In Out : M.State → N.State → Type 0) (Cost : ℕ → ℕ → Type 0) : Type 0 where
  pub none : Cost 0 0
  pub stays : (σ : M.State) (τ : N.State) → In σ τ → Out σ τ
  pub node : (c : Class) (f : ℕ → Bool) (σ : M.State) (τ : N.State) → any p.nodes f ≡ true → In σ τ → (M.choose c f σ).node ≡ (N.choose c f τ).node
  pub state : (c : Class) (f : ℕ → Bool) (σ : M.State) (τ : N.State) → any p.nodes f ≡ true → In σ τ
      → Out (M.choose c f σ).state (N.choose c f τ).state
  pub moves : (c : Class) (f : ℕ → Bool) (σ : M.State) (τ : N.State) → any p.nodes f ≡ true → In σ τ
      → Cost (M.choose c f σ).moves (N.choose c f τ).moves
  pub rested : (σ : M.State) (τ : N.State) → In σ τ → Out (M.rested σ).state (N.rested τ).state
  pub rest_moves : (σ : M.State) (τ : N.State) → In σ τ → Cost (M.rested σ).moves (N.rested τ).moves

module _ (p : Plan) (M N : Machine) (In Out : M.State → N.State → Type 0) (Cost : ℕ → ℕ → Type 0) (K : Pair p M N In Out Cost) where
  -- the outcomes of one call
  pub record Alike (o : Outcome M.State) (r : Outcome N.State) : Type 0 where
    pub answer : unmoved o.answer ≡ unmoved r.answer
    pub core : o.hub.core ≡ r.hub.core
    pub left : Out o.hub.turn r.hub.turn
    pub cost : Cost (moves_of o.answer) (moves_of r.answer)

  module _ (σ : M.State) (τ : N.State) (l : In σ τ) where
    handled_alike : (d : ℕ) (s : Core) (x : Sought) → sought p s ≡ x → Alike (handled p M d x s σ) (handled p N d x s τ)
    handled_alike d s nothing e = record { answer = refl; core = refl; left = K.rested σ τ l; cost = K.rest_moves σ τ l }
    handled_alike d s (class c) e =
        let h = sought-counts p s c e in
        let n = K.node c (counts_in c s) σ τ h l in
        record { answer = rw n; core = rw n; left = K.state c (counts_in c s) σ τ h l; cost = K.moves c (counts_in c s) σ τ h l }

    step_at_alike : (d : Due) (t : ℕ) (s : Core)
        → Alike (step_at p M d t (record { core = s; turn = σ })) (step_at p N d t (record { core = s; turn = τ }))
    step_at_alike never t s = record { answer = refl; core = refl; left = K.stays σ τ l; cost = K.none }
    step_at_alike (at d) t s = go (which (before (at d) t))
      where
        go : Which (before (at d) t)
            → Alike (step_at p M (at d) t (record { core = s; turn = σ })) (step_at p N (at d) t (record { core = s; turn = τ }))
        go (yes' e) = rw e (handled_alike d (advance p d s) (sought p (advance p d s)) refl)
        go (no' e) = rw e (record { answer = refl; core = refl; left = K.stays σ τ l; cost = K.none })

    accepted_alike : (call : Call) (s : Core)
        → Alike (accepted p M call (record { core = s; turn = σ })) (accepted p N call (record { core = s; turn = τ }))
    accepted_alike (ask c t k b) s = record { answer = refl; core = refl; left = K.stays σ τ l; cost = K.none }
    accepted_alike (off t k) s = record { answer = refl; core = refl; left = K.stays σ τ l; cost = K.none }
    accepted_alike (reserve t k n b) s = record { answer = refl; core = refl; left = K.stays σ τ l; cost = K.none }
    accepted_alike (until t) s = record { answer = refl; core = refl; left = K.stays σ τ l; cost = K.none }
    accepted_alike (step t) s = step_at_alike (due p s) t s

    decided_alike : (v : Verdict) (call : Call) (s : Core)
        → Alike (decided p M v call (record { core = s; turn = σ })) (decided p N v call (record { core = s; turn = τ }))
    decided_alike (refuse n) call s = record { answer = refl; core = refl; left = K.stays σ τ l; cost = K.none }
    decided_alike accept call s = accepted_alike call s

  pub perform_alike : (call : Call) (h : Hub M.State) (i : Hub N.State) → h.core ≡ i.core → In h.turn i.turn
      → Alike (perform p M call h) (perform p N call i)
  unfolding perform
  perform_alike call h i e l =
      subst (λ (s : Core). Alike (perform p M call h) (perform p N call (record { core = s; turn = i.turn }))) e
      (decided_alike h.turn i.turn l (first_row (rows p h.core call)) call h.core)

module _ (p : Plan) (M : Machine) (F : Follows p M) (Cost : ℕ → Type 0) (K : Costs p M F Cost) where
  with_flat : Pair p M (flat p) F.Like F.Like (λ m n. Cost m)
  with_flat =
      record {
        none = K.none;
        stays = λ σ π l. l;
        node = F.node;
        state = F.state;
        moves = K.choose;
        rested = F.rests;
        rest_moves = K.rests;
      }

  -- two runs of the same calls
  pub record Agrees (m : Made M.State) (n : Made Pointers) : Type 0 where
    pub past : map plain m.past ≡ map plain n.past
    pub core : m.hub.core ≡ n.hub.core
    pub like : F.Like m.hub.turn n.hub.turn
    pub costs : Every (λ a. Cost (moves_of a)) m.past

  pub agrees : (calls : List Call) → Agrees (made p M calls) (made p (flat p) calls)
  unfolding made
  agrees [] = record { past = refl; core = refl; like = F.start; costs = every_none }
  agrees (call ∷ earlier) =
      let a = agrees earlier in
      let o =
      perform_alike p M (flat p) F.Like F.Like (λ m n. Cost m) with_flat call (made p M earlier).hub (made p (flat p) earlier).hub a.core
      a.like in
      record { past = cc; core = o.core; like = o.left; costs = every_more o.cost a.costs }

module _ (p : Plan) (M : Machine) (F : Follows p M) (calls : List Call) where
  free : Costs p M F (λ n. Unit {0})
  free = record { none = tt; choose = λ c f σ π h l. tt; rests = λ σ π l. tt }

  -- the same turns: every entry but for its moves
  pub turns_agree : map plain (made p M calls).past ≡ map plain (made p (flat p) calls).past
  turns_agree = (agrees p M F (λ n. Unit {0}) free calls).past

  pub cores_agree : (made p M calls).hub.core ≡ (made p (flat p) calls).hub.core
  cores_agree = (agrees p M F (λ n. Unit {0}) free calls).core

  pub turns_like : F.Like (made p M calls).hub.turn (made p (flat p) calls).hub.turn
  turns_like = (agrees p M F (λ n. Unit {0}) free calls).like

  pub moves_cost : (Cost : ℕ → Type 0) → Costs p M F Cost → Every (λ a. Cost (moves_of a)) (made p M calls).past
  moves_cost Cost K = (agrees p M F Cost K calls).costs
