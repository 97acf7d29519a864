-- The flat rule's choice, as a search passes nodes that don't count, goes round, and comes to be from the pointer behind a node.
use Prim.Native.Nat.{ℕ, ◌+◌, ◌≤◌, ◌<◌}
use mathlib.Core.Path.{◌≡◌}
use mathlib.Core.Bool.{Bool, true, false}
use native.Mathlib.Omega.{arith}
use lib.Dec.{leb, ltb, eqb}
use borrow.Author.Tests.{leb-true, leb-false, ltb-true, ltb-false, eqb-true}
use Rattle.rules.specs.Plan.{Plan}
use Rattle.rules.specs.Drawn.{Within}
use Rattle.rules.specs.Flat.{behind}
use Rattle.rules.proofs.Laws.Passes.{Which, which, yes', no', true-false}
use Rattle.rules.proofs.Flat.InTurn.{Chosen, ahead, round}
use Rattle.rules.proofs.Control.Intervals.{Clear}

-- the least number from a on of which f holds is one
least : {f : ℕ → Bool} {a j k : ℕ} → a ≤ j → f j ≡ true → ((i : ℕ) → a ≤ i → i < j → f i ≡ false)
    → a ≤ k → f k ≡ true → ((i : ℕ) → a ≤ i → i < k → f i ≡ false) → j ≡ k
least {f} {a} {j} {k} l t e l' t' e' = go (which (ltb j k)) (which (ltb k j))
  where
    go : Which (ltb j k) → Which (ltb k j) → j ≡ k
    go (yes' s) r = absurd (true-false t (e' j l (ltb-true j k s)))
    go (no' s) (yes' r) = absurd (true-false t' (e k l' (ltb-true k j r)))
    go (no' s) (no' r) = omega (arith, ltb-false j k s, ltb-false k j r)

-- at most one node is the choice
pub chosen_same : {f : ℕ → Bool} {n a j k : ℕ} → Chosen f n a j → Chosen f n a k → j ≡ k
chosen_same {j = j} {k = k} (ahead l u t e) (ahead l' u' t' e') = least l t e l' t' e'
chosen_same {j = j} {k = k} (ahead l u t e) (round l' m' u' t' e' i') = absurd (true-false t (e' j l u))
chosen_same {j = j} {k = k} (round l m u t e i) (ahead l' u' t' e') = absurd (true-false t' (e k l' u'))
chosen_same {j = j} {k = k} (round l m u t e i) (round l' m' u' t' e' i') = least l t i l' t' i'

-- what holds of no number up to y, nor from y + 1 on, holds of none
joined : {f : ℕ → Bool} {x y : ℕ} → Clear f x y → (j : ℕ) → x + 1 ≤ j → (y + 1 ≤ j → f j ≡ false) → f j ≡ false
joined {f} {x} {y} n j l h = go (which (leb j y))
  where
    go : Which (leb j y) → f j ≡ false
    go (yes' e) = n.none j (omega arith) (leb-true j y e)
    go (no' e) = h (omega (arith, leb-false j y e))

-- a number of which f holds isn't in a clear interval
unless : {f : ℕ → Bool} {x y : ℕ} → Clear f x y → (k : ℕ) → f k ≡ true → k ≤ y → k ≤ x
unless {f} {x} {y} n k t u = go (which (leb k x))
  where
    go : Which (leb k x) → k ≤ x
    go (yes' e) = leb-true k x e
    go (no' e) = absurd (true-false t (n.none k (leb-false k x e) u))

pub chosen_skip : {f : ℕ → Bool} {n x y k : ℕ} → Clear f x y → Chosen f n (y + 1) k → Chosen f n (x + 1) k
chosen_skip c (ahead l u t e) = ahead (omega (arith, c.low)) u t (λ j m o. joined c j m (λ i. e j i o))
chosen_skip {k = k} c (round l m u t e i) =
    round l (omega (arith, unless c k t (omega arith))) u t (λ j a b. joined c j a (λ d. e j d b)) i

pub chosen_round : {f : ℕ → Bool} {n x k : ℕ} → Clear f x n → Chosen f n 1 k → Chosen f n (x + 1) k
chosen_round {k = k} c (ahead l u t e) = round l (omega (arith, unless c k t u)) u t (λ j a b. c.none j (omega arith) b) e
chosen_round c (round l m u t e i) = absurd (omega arith)

-- the flat pointer behind a node is one to choose from
pub behind_within : (p : Plan) (x : ℕ) → x ≤ p.nodes → Within (p.nodes + 1) (behind p x)
behind_within p x u = go (which (eqb x p.nodes))
  where
    go : Which (eqb x p.nodes) → Within (p.nodes + 1) (behind p x)
    go (yes' e) = rw e (omega arith)
    go (no' e) = rw e (omega arith)

-- a choice from behind x is one from the flat pointer there
pub chosen_behind : (p : Plan) (f : ℕ → Bool) (x k : ℕ) → x ≤ p.nodes → Chosen f p.nodes (x + 1) k → Chosen f p.nodes (behind p x) k
chosen_behind p f x k u h = go (which (eqb x p.nodes)) h
  where
    go : Which (eqb x p.nodes) → Chosen f p.nodes (x + 1) k → Chosen f p.nodes (behind p x) k
    go (yes' e) (ahead l m t n) = absurd (omega (arith, eqb-true x p.nodes e))
    go (yes' e) (round l m v t n i) = rw e (ahead l v t i)
    go (no' e) h = rw e h
