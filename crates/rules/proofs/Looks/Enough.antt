-- The looks of a walk that grants a node within n of them: at most n, however many it may make. And what they
-- are: each but the last is followed by a move or by a return of the root's pointer. This holds on any plan.
use Prim.Native.Nat.{ℕ, zero, suc, ◌+◌, ◌≤◌}
use mathlib.Core.Path.{◌≡◌, refl}
use mathlib.Core.Bool.{Bool, true, false}
use native.Mathlib.Omega.{arith}
use lib.Dec.{eqb}
use Rattle.std.specs.Prelude.{if◌then◌else◌}
use Rattle.rules.specs.Plan.{Plan, Port, node, empty, hub}
use Rattle.rules.specs.Call.{Class}
use Rattle.rules.specs.Machine.{Turn}
use Rattle.rules.specs.Control.{Control, at_port, lowest, point, down, up, take, hand_up, walk}
use Rattle.rules.specs.Travel.{take_returns, hand_up_returns, walk_returns}
use Rattle.rules.specs.Looks.{take_looks, hand_up_looks, walk_looks}
use Rattle.rules.proofs.Laws.Passes.{Which, which, yes', no'}

-- a turn behind m moves, with l looks and w returns, of which n were enough
pub record Told (n m : ℕ) (t : Turn Control) (l w : ℕ) : Type 0 where
  pub few : l ≤ n
  pub told : l + m ≡ t.moves + w + 1

module _ (p : Plan) (c : Class) (f : ℕ → Bool) where
  unfoldable pub EnoughAt : ℕ → Type 0
  EnoughAt n =
      (k : ℕ) (σ : Control) (m : ℕ) → n ≤ k → ((walk p c f n σ m).node ≡ 0 → ⊥)
      → Told n m (walk p c f k σ m) (walk_looks p c f k σ) (walk_returns p c f k σ)

  -- one look, with n or k left behind it
  module _ (n : ℕ) (onward : EnoughAt n) (k : ℕ) (le : n ≤ k) (σ : Control) (m : ℕ) where
    took : (q : ℕ) (y : Port) → ((take p c f (walk p c f n) σ m q y).node ≡ 0 → ⊥)
        → Told (suc n) m (take p c f (walk p c f k) σ m q y) (take_looks p c f (walk_looks p c f k) σ q y)
        (take_returns p c f (walk_returns p c f k) σ q y)
    unfolding EnoughAt
    took q (node j) z = record { few = omega arith; told = omega arith }
    took q empty z = absurd (z refl)
    took q (hub h) z =
        let t = onward k (down c q h σ) (m + 1) le z in
        record { few = omega (arith, t.few); told = omega (arith, t.told) }

    handed : ((hand_up p c f (walk p c f n) σ m).node ≡ 0 → ⊥)
        → Told (suc n) m (hand_up p c f (walk p c f k) σ m) (hand_up_looks p c f (walk_looks p c f k) σ) (hand_up_returns p c f (walk_returns p c f k) σ)
    unfolding EnoughAt
    handed z = go (which (eqb σ.holder 1))
      where
        go : Which (eqb σ.holder 1)
            → Told (suc n) m (hand_up p c f (walk p c f k) σ m) (hand_up_looks p c f (walk_looks p c f k) σ) (hand_up_returns p c f (walk_returns p c f k) σ)
        go (yes' e) =
            let t = onward k (point c 1 (at_port 1) σ) m le (rw e at z) in
            rw e (record { few = omega (arith, t.few); told = omega (arith, t.told) })
        go (no' e) =
            let t = onward k (up p c σ) (m + 1) le (rw e at z) in
            rw e (record { few = omega (arith, t.few); told = omega (arith, t.told) })

    looked : (q : ℕ) (b : Bool)
        → ((if b then hand_up p c f (walk p c f n) σ m else take p c f (walk p c f n) σ m q (p.port σ.holder q)).node ≡ 0 → ⊥)
        → Told (suc n) m (if b then hand_up p c f (walk p c f k) σ m else take p c f (walk p c f k) σ m q (p.port σ.holder q))
        (if b then hand_up_looks p c f (walk_looks p c f k) σ else take_looks p c f (walk_looks p c f k) σ q (p.port σ.holder q))
        (if b then hand_up_returns p c f (walk_returns p c f k) σ else take_returns p c f (walk_returns p c f k) σ q (p.port σ.holder q))
    looked q true z = handed z
    looked q false z = took q (p.port σ.holder q) z

  pub enough : (n : ℕ) → EnoughAt n
  unfolding EnoughAt walk walk_looks walk_returns
  enough zero k σ m le z = absurd (z refl)
  enough (suc n) zero σ m le z = absurd (omega arith)
  enough (suc n) (suc k) σ m le z =
      let q = lowest p f σ.holder (σ.pointer c σ.holder).port in
      looked n (enough n) k (omega arith) σ m q (eqb q 0) z
