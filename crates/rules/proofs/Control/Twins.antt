-- Two walks of one class from one hub. Pointers off the marked line are set before they are looked at, so
-- where both have the same marked line below the hub, and are marked above it, both take as many moves.
use Prim.Native.Nat.{ℕ, zero, suc, ◌+◌, ◌≤◌, ◌<◌}
use mathlib.Core.Path.{◌≡◌, refl, ap, ◌∙◌}
use mathlib.Core.Bool.{Bool, false}
use native.Mathlib.Omega.{arith}
use lib.Dec.{eqb}
use borrow.Author.Tests.{eqb-true, eqb-false}
use Rattle.rules.specs.Choice.{put}
use Rattle.rules.specs.Plan.{Plan, Port, node, empty, hub}
use Rattle.rules.specs.Call.{Class}
use Rattle.rules.specs.Machine.{Turn}
use Rattle.rules.specs.Drawn.{Drawn, Within, Covers}
use Rattle.rules.specs.Control.{Pointer, Control, at_port, marking, lowest, point, hand_to, walk}
use Rattle.rules.proofs.Laws.Passes.{Which, which, yes', no', put_same, put_other}
use Rattle.rules.proofs.Control.Intervals.{Counts}
use Rattle.rules.proofs.Control.Cover.{holds, Look, nothing, something, look}
use Rattle.rules.proofs.Control.Pointers.{Chain, root, chain_within, chain_up, chain_put, chain_marked}
use Rattle.rules.proofs.Control.Steps.{same_self, own, own_unmarked, own_other, own_marked, walk_node, walk_afresh, walk_resume, walk_round, walk_up}

-- from hub g down, P and Q are the same along the marked line
pub data Twin (p : Plan) (P Q : ℕ → Pointer) : ℕ → Type 0 where
  stands : {g : ℕ} (q : ℕ) → P g ≡ at_port q → Q g ≡ at_port q → 1 ≤ q → q ≤ p.ports g + 1 → Twin p P Q g
  inside : {g : ℕ} (q h : ℕ) → P g ≡ marking q → Q g ≡ marking q → Within (p.ports g) q → p.port g q ≡ hub h → Twin p P Q h → Twin p P Q g

-- two turns that grant a node take as many moves, one from m and the other from m' on
pub record SameMoves (t : Turn Control) (m : ℕ) (u : Turn Control) (m' : ℕ) : Type 0 where
  pub moves : (t.node ≡ 0 → ⊥) → (u.node ≡ 0 → ⊥) → t.moves + m' ≡ u.moves + m

one_more : {t u : Turn Control} {m m' : ℕ} → SameMoves t (m + 1) u (m' + 1) → SameMoves t m u m'
one_more h = record { moves = λ a b. omega (arith, h.moves a b) }

module _ (p : Plan) (D : Drawn p) {P Q : ℕ → Pointer} where
  -- a change of one hub's pointer is not seen below a later hub
  twin_put : {h : ℕ} (g : ℕ) (v : Pointer) → Within p.hubs h → g < h → Twin p P Q h → Twin p (put P g v) (put Q g v) h
  twin_put {h} g v w m (stands q e i l u) =
      stands q (put_other P g v h (λ j. omega arith) ∙ e) (put_other Q g v h (λ j. omega arith) ∙ i) l u
  twin_put {h} g v w m (inside q k e i a s t) =
      let n = (holds p D h q k w a s).hung in
      inside q k (put_other P g v h (λ j. omega arith) ∙ e) (put_other Q g v h (λ j. omega arith) ∙ i) a s
      (twin_put g v n.number (omega (arith, n.below)) t)

module _ (p : Plan) (D : Drawn p) (c : Class) (f : ℕ → Bool) where
  unfoldable pub TwinAt : ℕ → Type 0
  TwinAt n =
      (n' g : ℕ) (σ τ : Control) (m m' : ℕ) → Chain p (σ.pointer c) g → Chain p (τ.pointer c) g → Twin p (σ.pointer c) (τ.pointer c) g
      → SameMoves (walk p c f n (hand_to g σ) m) m (walk p c f n' (hand_to g τ) m') m'

  module _ (n : ℕ) (twins : TwinAt n) (n' g : ℕ) (σ τ : Control) (m m' : ℕ) (ch : Chain p (σ.pointer c) g) (ch' : Chain p (τ.pointer c) g) where
    -- both look at hub g, σ with some looks left and τ with others
    abbrev pub Both : Type 0
    Both = SameMoves (walk p c f (suc n) (hand_to g σ) m) m (walk p c f (suc n') (hand_to g τ) m') m'

    -- both look and find r
    abbrev pub Finds : ℕ → Type 0
    Finds r = (lowest p f g (σ.pointer c g).port ≡ r) × (lowest p f g (τ.pointer c g).port ≡ r)

    -- both find nothing: the root goes round, another hub hands up
    pub both_up : Finds 0 → Both
    unfolding TwinAt
    both_up (e, e') = go (which (eqb g 1))
      where
        go : Which (eqb g 1) → Both
        go (yes' t) =
            let i = eqb-true g 1 t in
            rw (walk_round p c f n (hand_to g σ) m e i, walk_round p c f n' (hand_to g τ) m' e' i)
            (twins n' g (point c 1 (at_port 1) σ) (point c 1 (at_port 1) τ) m m'
            (rw (same_self c, i) root) (rw (same_self c, i) root)
            (stands 1 (rw (same_self c, i) (put_same (σ.pointer c) 1 (at_port 1))) (rw (same_self c, i) (put_same (τ.pointer c) 1 (at_port 1)))
            (omega arith) (omega arith)))
        go (no' t) =
            let i = eqb-false g 1 t in
            let a = chain_up p D ch i in
            let a' = chain_up p D ch' i in
            let h = p.parent g in
            let x = at_port (p.place g + 1) in
            rw (walk_up p c f n (hand_to g σ) m e i, walk_up p c f n' (hand_to g τ) m' e' i)
            (one_more
            (twins n' h (point c h x (hand_to g σ)) (point c h x (hand_to g τ)) (m + 1) (m' + 1)
            (rw (same_self c) (chain_put p D h x (omega arith) a.chain))
            (rw (same_self c) (chain_put p D h x (omega arith) a'.chain))
            (stands (p.place g + 1) (rw (same_self c) (put_same (σ.pointer c) h x)) (rw (same_self c) (put_same (τ.pointer c) h x)) (omega arith)
            (omega (arith, (D.hung_place g a.low a.up).up)))))

    -- both find port q, and resume no hub there
    pub both_afresh : (q : ℕ) → Finds q → Within (p.ports g) q → Counts f (D.above g q) (D.above g (q + 1))
        → own c q (hand_to g σ) ≡ false → own c q (hand_to g τ) ≡ false → Both
    unfolding TwinAt
    both_afresh q (e, e') v s o o' = go (p.port g q) refl (D.covers g q (chain_within p D ch) v)
      where
        go : (y : Port) → p.port g q ≡ y → Covers p D.above g q y → Both
        go (node k) i cv =
            rw (walk_node p c f n (hand_to g σ) m q k e v.low i, walk_node p c f n' (hand_to g τ) m' q k e' v.low i)
            (record { moves = λ a b. omega arith })
        go empty i cv = absurd (omega (arith, s.past, s.up))
        go (hub h) i cv =
            let k = holds p D g q h (chain_within p D ch) v i in
            let σ' = point c h (at_port 1) (point c g (marking q) (hand_to g σ)) in
            let τ' = point c h (at_port 1) (point c g (marking q) (hand_to g τ)) in
            rw (walk_afresh p c f n (hand_to g σ) m q h e v.low i o, walk_afresh p c f n' (hand_to g τ) m' q h e' v.low i o')
            (one_more
            (twins n' h σ' τ' (m + 1) (m' + 1)
            (rw (same_self c) (chain_put p D h (at_port 1) (omega arith) (chain_marked p D q h k ch)))
            (rw (same_self c) (chain_put p D h (at_port 1) (omega arith) (chain_marked p D q h k ch')))
            (stands 1 (rw (same_self c) (put_same (put (σ.pointer c) g (marking q)) h (at_port 1)))
            (rw (same_self c) (put_same (put (τ.pointer c) g (marking q)) h (at_port 1))) (omega arith) (omega arith))))

    -- both find port q, marked, and resume hub h there
    both_resume : (q h : ℕ) → Finds q → Within (p.ports g) q → p.port g q ≡ hub h → σ.pointer c g ≡ marking q → τ.pointer c g ≡ marking q
        → Twin p (σ.pointer c) (τ.pointer c) h → Both
    unfolding TwinAt
    both_resume q h (e, e') v i s s' t =
        let k = holds p D g q h (chain_within p D ch) v i in
        rw (
          walk_resume p c f n (hand_to g σ) m q h e v.low i (own_marked c q (hand_to g σ) s),
          walk_resume p c f n' (hand_to g τ) m' q h e' v.low i (own_marked c q (hand_to g τ) s'),
        )
        (one_more
        (twins n' h (point c g (marking q) (hand_to g σ)) (point c g (marking q) (hand_to g τ)) (m + 1) (m' + 1)
        (rw (same_self c) (chain_marked p D q h k ch)) (rw (same_self c) (chain_marked p D q h k ch'))
        (rw (same_self c) (twin_put p D g (marking q) k.hung.number k.hung.below t))))

    both_look : Twin p (σ.pointer c) (τ.pointer c) g → Both
    both_look (stands q e e' l u) = go (lowest p f g q) refl (look p D f g q (chain_within p D ch) l u)
      where
        finds : (r : ℕ) → lowest p f g q ≡ r → Finds r
        finds r i = (ap (λ (y : Pointer). lowest p f g y.port) e ∙ i, ap (λ (y : Pointer). lowest p f g y.port) e' ∙ i)

        go : (r : ℕ) → lowest p f g q ≡ r → Look p D f g q r → Both
        go r i (nothing z cl) = both_up (finds 0 (i ∙ z))
        go r i (something v a cl s) = both_afresh r (finds r i) v s (own_unmarked c q r (hand_to g σ) e) (own_unmarked c q r (hand_to g τ) e')
    both_look (inside q h e e' w s t) = go (lowest p f g q) refl (look p D f g q (chain_within p D ch) w.low (omega (arith, w.up)))
      where
        finds : (r : ℕ) → lowest p f g q ≡ r → Finds r
        finds r i = (ap (λ (y : Pointer). lowest p f g y.port) e ∙ i, ap (λ (y : Pointer). lowest p f g y.port) e' ∙ i)

        go : (r : ℕ) → lowest p f g q ≡ r → Look p D f g q r → Both
        go r i (nothing z cl) = both_up (finds 0 (i ∙ z))
        go r i (something v a cl d) = at (which (eqb r q))
          where
            at : Which (eqb r q) → Both
            at (yes' y) = both_resume q h (finds q (i ∙ eqb-true r q y)) w s e e' t
            at (no' y) =
                let o = eqb-false r q y in
                both_afresh r (finds r i) v d (own_other c q r (hand_to g σ) e o) (own_other c q r (hand_to g τ) e' o)

  pub twins : (n : ℕ) → TwinAt n
  unfolding TwinAt walk
  twins zero n' g σ τ m m' ch ch' t = record { moves = λ a b. absurd (a refl) }
  twins (suc n) zero g σ τ m m' ch ch' t = record { moves = λ a b. absurd (b refl) }
  twins (suc n) (suc n') g σ τ m m' ch ch' t = both_look n (twins n) n' g σ τ m m' ch ch' t
