-- The nodes that a pointer passes before it comes to node k, going round.
use Prim.Native.Nat.{ℕ, ◌+◌, ◌≤◌, ◌<◌}
use mathlib.Core.Path.{◌≡◌}
use mathlib.Core.Bool.{Bool, true}
use mathlib.Core.Logic.{◌⊎◌}
use native.Mathlib.Omega.{arith}
use lib.Dec.{ltb}
use borrow.Author.Tests.{eq-eqb, ne_eqb, ltb-true, ltb-false}
use Rattle.rules.specs.Plan.{Plan}
use Rattle.rules.specs.Drawn.{Within}
use Rattle.rules.specs.Flat.{behind}
use Rattle.rules.proofs.Laws.Passes.{true-false, Which, which, yes', no'}
use Rattle.rules.proofs.Flat.InTurn.{Chosen, ahead, round}
use Rattle.rules.proofs.Laws.Sums.{Same, it, other, same_or_not}

-- j lies ahead: from the pointer a up to, not including, k
pub data Ahead (a k j : ℕ) : Type 0 where
  between : a ≤ j → j < k → Ahead a k j
  after : k < a → a ≤ j → Ahead a k j
  round_before : k < a → j < k → Ahead a k j

pub ahead_other : {a k j : ℕ} → Ahead a k j → j ≡ k → ⊥
ahead_other (between l u) e = omega arith
ahead_other (after l u) e = omega arith
ahead_other (round_before l u) e = omega arith

-- the choice, where f holds of k too, is k or a node ahead of it
pub k_or_ahead : (f : ℕ → Bool) (n a j k : ℕ) → Chosen f n a j → Within n k → f k ≡ true → (j ≡ k) ⊎ Ahead a k j
k_or_ahead f n a j k (ahead l u t none) w h = go (which (ltb k j)) (which (ltb k a)) (same_or_not j k)
  where
    go : Which (ltb k j) → Which (ltb k a) → Same j k → (j ≡ k) ⊎ Ahead a k j
    go x y (it e) = ◌⊎◌.inl e
    go x (yes' y) (other d) = ◌⊎◌.inr (after (ltb-true k a y) l)
    go (yes' x) (no' y) (other d) = absurd (true-false h (none k (ltb-false k a y) (ltb-true k j x)))
    go (no' x) (no' y) (other d) =
        let z = ltb-false k j x in
        ◌⊎◌.inr (between l (omega arith))
k_or_ahead f n a j k (round l u v t late early) w h = go (which (ltb k j)) (which (ltb k a)) (same_or_not j k)
  where
    go : Which (ltb k j) → Which (ltb k a) → Same j k → (j ≡ k) ⊎ Ahead a k j
    go x y (it e) = ◌⊎◌.inl e
    go (yes' x) y (other d) = absurd (true-false h (early k w.low (ltb-true k j x)))
    go (no' x) (yes' y) (other d) = let z = ltb-false k j x in ◌⊎◌.inr (round_before (ltb-true k a y) (omega arith))
    go (no' x) (no' y) (other d) = absurd (true-false h (late k (ltb-false k a y) w.up))

-- where the node behind j is
pub data Behind (n j : ℕ) : ℕ → Type 0 where
  next : j < n → Behind n j (j + 1)
  first : j ≡ n → Behind n j 1

pub behind_is : (p : Plan) (j : ℕ) → j ≤ p.nodes → Behind p.nodes j (behind p j)
behind_is p j u = go (same_or_not j p.nodes)
  where
    go : Same j p.nodes → Behind p.nodes j (behind p j)
    go (it e) = rw (eq-eqb j p.nodes e) (first e)
    go (other d) = rw (ne_eqb j p.nodes d) (next (omega arith))

-- once the pointer stands behind j, j lies ahead no more
pub passed-not-ahead : {n j a k : ℕ} → Behind n j a → Within n k → Ahead a k j → ⊥
passed-not-ahead (next h) w (between l u) = omega arith
passed-not-ahead (next h) w (after l u) = omega arith
passed-not-ahead (next h) w (round_before l u) = omega arith
passed-not-ahead (first e) w (between l u) = omega (arith, w.up)
passed-not-ahead (first e) w (after l u) = omega (arith, w.low)
passed-not-ahead (first e) w (round_before l u) = omega (arith, w.low)

-- and what lies ahead then, lay ahead before
pub was_ahead : {n a j b k i : ℕ} → Ahead a k j → Behind n j b → Within n k → Ahead b k i → Ahead a k i
was_ahead (between l u) (next h) w (between x y) = between (omega arith) y
was_ahead (between l u) (next h) w (after x y) = absurd (omega arith)
was_ahead (between l u) (next h) w (round_before x y) = absurd (omega arith)
was_ahead (between l u) (first e) w y = absurd (omega (arith, w.up))
was_ahead (after l u) (next h) w (between x y) = absurd (omega arith)
was_ahead (after l u) (next h) w (after x y) = after l (omega arith)
was_ahead (after l u) (next h) w (round_before x y) = round_before l y
was_ahead (after l u) (first e) w (between x y) = round_before l y
was_ahead (after l u) (first e) w (after x y) = absurd (omega (arith, w.low))
was_ahead (after l u) (first e) w (round_before x y) = absurd (omega (arith, w.low))
was_ahead (round_before l u) (next h) w (between x y) = round_before l y
was_ahead (round_before l u) (next h) w (after x y) = absurd (omega arith)
was_ahead (round_before l u) (next h) w (round_before x y) = absurd (omega arith)
was_ahead (round_before l u) (first e) w y = absurd (omega (arith, w.up))
