-- A look from a pointer without mark: what the walk comes to, and the returns of the root's
-- pointer in it. No hub is resumed, so the next look is from a pointer without mark too.
use Prim.Native.Nat.{ℕ, suc, ◌+◌, ◌≤◌}
use mathlib.Core.Path.{◌≡◌, refl, ap, ◌∙◌}
use mathlib.Core.Bool.{Bool, false}
use native.Mathlib.Omega.{arith}
use lib.Dec.{eqb}
use borrow.Author.Tests.{eq-eqb, ne_eqb, eqb-true, eqb-false}
use Rattle.rules.specs.Choice.{put}
use Rattle.rules.specs.Plan.{Plan, Port, node, empty, hub}
use Rattle.rules.specs.Call.{Class}
use Rattle.rules.specs.Machine.{Turn}
use Rattle.rules.specs.Drawn.{Drawn, Within, Covers}
use Rattle.rules.specs.Control.{Pointer, Control, at_port, marking, lowest, point, granted, up, walk}
use Rattle.rules.specs.Travel.{walk_returns}
use Rattle.rules.proofs.Laws.Passes.{Which, which, yes', no', put_same}
use Rattle.rules.proofs.Control.Intervals.{Counts, Clear}
use Rattle.rules.proofs.Control.Cover.{Holds, holds, hangs, Look, nothing, something, look}
use Rattle.rules.proofs.Control.Steps.{same_self, entered, own, own_unmarked, walk_node, walk_afresh, walk_round, walk_up}

-- the returns of a walk, by what its first look comes to
module _ (p : Plan) (c : Class) (f : ℕ → Bool) (n : ℕ) (σ : Control) where
  abbrev Lowest : ℕ → Type 0
  Lowest q = lowest p f σ.holder (σ.pointer c σ.holder).port ≡ q

  returns-node : (q k : ℕ) → Lowest q → 1 ≤ q → p.port σ.holder q ≡ node k → walk_returns p c f (suc n) σ ≡ 0
  unfolding walk_returns
  returns-node q k e l i = rw (e, ne_eqb q 0 (λ z. omega arith), i)

  returns-afresh : (q h : ℕ) → Lowest q → 1 ≤ q → p.port σ.holder q ≡ hub h → own c q σ ≡ false
      → walk_returns p c f (suc n) σ ≡ walk_returns p c f n (entered c q h σ)
  unfolding walk_returns
  returns-afresh q h e l i o = rw (e, ne_eqb q 0 (λ z. omega arith), i, o)

  returns-round : Lowest 0 → σ.holder ≡ 1 → walk_returns p c f (suc n) σ ≡ walk_returns p c f n (point c 1 (at_port 1) σ) + 1
  unfolding walk_returns
  returns-round e r = rw (e, eq-eqb σ.holder 1 r) (omega arith)

  returns-up : Lowest 0 → (σ.holder ≡ 1 → ⊥) → walk_returns p c f (suc n) σ ≡ walk_returns p c f n (up p c σ)
  unfolding walk_returns
  returns-up e r = rw (e, ne_eqb σ.holder 1 r) (omega arith)

-- the holder's pointer of class c is at port q, without mark
pub record Unmarked (p : Plan) (c : Class) (σ : Control) (q : ℕ) : Type 0 where
  pub within : Within p.hubs σ.holder
  pub pointer : σ.pointer c σ.holder ≡ at_port q
  pub low : 1 ≤ q
  pub high : q ≤ p.ports σ.holder + 1

-- so it is behind each look
module _ (p : Plan) (D : Drawn p) (c : Class) {σ : Control} {q : ℕ} (s : Unmarked p c σ q) where
  pub unmarked-granted : (r : ℕ) → Within (p.ports σ.holder) r → Unmarked p c (granted c (point c σ.holder (at_port (r + 1)) σ)) (r + 1)
  unmarked-granted r v =
      record {
        within = s.within;
        pointer = rw (same_self c) (put_same (σ.pointer c) σ.holder (at_port (r + 1)));
        low = omega arith;
        high = omega (arith, v.up);
      }

  pub unmarked_entered : (r h : ℕ) → Holds p D σ.holder r h → Unmarked p c (entered c r h σ) 1
  unmarked_entered r h k =
      record {
        within = k.hung.number;
        pointer = rw (same_self c) (put_same (put (σ.pointer c) σ.holder (marking r)) h (at_port 1));
        low = omega arith;
        high = omega arith;
      }

  pub unmarked_round : σ.holder ≡ 1 → Unmarked p c (point c 1 (at_port 1) σ) 1
  unmarked_round i =
      record {
        within = s.within;
        pointer = rw (same_self c, i) (put_same (σ.pointer c) 1 (at_port 1));
        low = omega arith;
        high = omega arith;
      }

  -- a lower hub hangs at its parent
  pub lower : (σ.holder ≡ 1 → ⊥) → 2 ≤ σ.holder
  lower n = omega (arith, n, s.within.low)

  pub hung : (σ.holder ≡ 1 → ⊥) → Holds p D (p.parent σ.holder) (p.place σ.holder) σ.holder
  hung n = hangs p D σ.holder (lower n) s.within.up

  pub unmarked-up : (σ.holder ≡ 1 → ⊥) → Unmarked p c (up p c σ) (p.place σ.holder + 1)
  unmarked-up n =
      record {
        within = D.hung_parent σ.holder (lower n) s.within.up;
        pointer = rw (same_self c) (put_same (σ.pointer c) (p.parent σ.holder) (at_port (p.place σ.holder + 1)));
        low = omega arith;
        high = omega (arith, (D.hung_place σ.holder (lower n) s.within.up).up);
      }

module _ (p : Plan) (D : Drawn p) (c : Class) (f : ℕ → Bool) (n : ℕ) (σ : Control) (m q : ℕ) where
  abbrev g : ℕ
  g = σ.holder

  -- the holder looks from port q on, with n looks left behind this one: the turn, and the returns
  pub data Looked : Turn Control → ℕ → Type 0 where
    grants : (r k : ℕ) → Within (p.ports g) r → q ≤ r → k ≡ D.above g r + 1 → D.above g (r + 1) ≡ k
        → Looked (record { node = k; state = granted c (point c g (at_port (r + 1)) σ); moves = m }) 0
    enters : (r h : ℕ) → Within (p.ports g) r → q ≤ r → Holds p D g r h → Clear f (D.above g q) (D.above g r)
        → Counts f (D.above g r) (D.above g (r + 1)) → Looked (walk p c f n (entered c r h σ) (m + 1)) (walk_returns p c f n (entered c r h σ))
    hands_up : (g ≡ 1 → ⊥) → Clear f (D.above g q) (D.above g (p.ports g + 1)) → Looked (walk p c f n (up p c σ) (m + 1)) (walk_returns p c f n (up p c σ))
    goes_round : g ≡ 1 → Clear f (D.above g q) (D.above g (p.ports g + 1))
        → Looked (walk p c f n (point c 1 (at_port 1) σ) m) (walk_returns p c f n (point c 1 (at_port 1) σ) + 1)

  module _ (s : Unmarked p c σ q) where
    abbrev Next : Type 0
    Next = Looked (walk p c f (suc n) σ m) (walk_returns p c f (suc n) σ)

    abbrev Finds : ℕ → Type 0
    Finds r = lowest p f g (σ.pointer c g).port ≡ r

    looked_up : Finds 0 → Clear f (D.above g q) (D.above g (p.ports g + 1)) → Next
    looked_up e cl = go (which (eqb g 1))
      where
        go : Which (eqb g 1) → Next
        go (yes' t) =
            let i = eqb-true g 1 t in
            rw (walk_round p c f n σ m e i, returns-round p c f n σ e i) (goes_round i cl)
        go (no' t) =
            let i = eqb-false g 1 t in
            rw (walk_up p c f n σ m e i, returns-up p c f n σ e i) (hands_up i cl)

    looked_found : (r : ℕ) → Finds r → Within (p.ports g) r → q ≤ r → Clear f (D.above g q) (D.above g r)
        → Counts f (D.above g r) (D.above g (r + 1)) → Next
    looked_found r e v l cl t = go (p.port g r) refl (D.covers g r s.within v)
      where
        go : (y : Port) → p.port g r ≡ y → Covers p D.above g r y → Next
        go (node k) i (j, a) =
            rw (walk_node p c f n σ m r k e v.low i, returns-node p c f n σ r k e v.low i) (grants r k v l j (omega arith))
        go empty i a = absurd (omega (arith, t.past, t.up))
        go (hub h) i a =
            let o = own_unmarked c q r σ s.pointer in
            rw (walk_afresh p c f n σ m r h e v.low i o, returns-afresh p c f n σ r h e v.low i o)
            (enters r h v l (holds p D g r h s.within v i) cl t)

    pub looked : Next
    looked = go (lowest p f g q) (ap (λ (y : Pointer). lowest p f g y.port) s.pointer) (look p D f g q s.within s.low s.high)
      where
        go : (r : ℕ) → Finds r → Look p D f g q r → Next
        go r e (nothing z cl) = looked_up (e ∙ z) cl
        go r e (something v l cl t) = looked_found r e v l cl t
