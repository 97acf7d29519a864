-- A walk, look by look, over any states: the looks that it makes are the least number with which it grants a node.
use Prim.Native.Nat.{ℕ, zero, suc, ◌+◌, ◌≤◌}
use mathlib.Core.Path.{◌≡◌, sym, subst, ◌∙◌}
use native.Mathlib.Omega.{arith}
use native.Mathlib.Numerals.{add-one}

-- from state x, with a number of looks: the node granted, 0 where there is none, and the looks made
pub record Walker (S : Type 0) : Type 0 where
  pub node : ℕ → S → ℕ
  pub looks : ℕ → S → ℕ

-- what one look at x comes to, whatever number of looks is left behind it
pub data Way {S : Type 0} (W : Walker S) (x : S) : Type 0 where
  -- a node is granted; the walk goes on from y; or it breaks off without a node
  ends : (j : ℕ) → ((n : ℕ) → W.node (suc n) x ≡ j) → ((n : ℕ) → W.looks (suc n) x ≡ 1) → Way W x
  goes : (y : S) → ((n : ℕ) → W.node (suc n) x ≡ W.node n y) → ((n : ℕ) → W.looks (suc n) x ≡ W.looks n y + 1) → Way W x
  stops : ((n : ℕ) → W.node (suc n) x ≡ 0) → Way W x

-- with no look nothing is granted
pub record Stepwise {S : Type 0} (W : Walker S) : Type 0 where
  pub none : (x : S) → W.node 0 x ≡ 0
  pub way : (x : S) → Way W x

module _ {S : Type 0} (W : Walker S) (by : Stepwise W) where
  -- no more looks than are enough
  enough : (n k : ℕ) (x : S) → n ≤ k → (W.node n x ≡ 0 → ⊥) → W.looks k x ≤ n
  enough zero k x l z = absurd (z (by.none x))
  enough (suc n) zero x l z = absurd (omega arith)
  enough (suc n) (suc k) x l z = go (enough n k) (by.way x)
    where
      go : ((y : S) → n ≤ k → (W.node n y ≡ 0 → ⊥) → W.looks k y ≤ n) → Way W x → W.looks (suc k) x ≤ suc n
      go onward (ends j a b) = omega (arith, b k)
      go onward (goes y a b) = omega (arith, b k, onward y (omega arith) (λ e. z (a n ∙ e)))
      go onward (stops a) = absurd (z (a n))

  -- and these are enough
  just : (k : ℕ) (x : S) → (W.node k x ≡ 0 → ⊥) → W.node (W.looks k x) x ≡ 0 → ⊥
  just zero x z e = z (by.none x)
  just (suc k) x z e = go (just k) (by.way x)
    where
      go : ((y : S) → (W.node k y ≡ 0 → ⊥) → W.node (W.looks k y) y ≡ 0 → ⊥) → Way W x → ⊥
      go onward (ends j a b) = z (a k ∙ sym (a 0) ∙ subst (λ (n : ℕ). W.node n x ≡ 0) (b k) e)
      go onward (goes y a b) =
          onward y (λ i. z (a k ∙ i)) (sym (a (W.looks k y)) ∙ subst (λ (n : ℕ). W.node n x ≡ 0) (b k ∙ add-one (W.looks k y)) e)
      go onward (stops a) = z (a k)

-- two walks that grant the same node, whatever number of looks each has, make as many
pub as_many : {S T : Type 0} (A : Walker S) (a : Stepwise A) (B : Walker T) (b : Stepwise B) (x : S) (y : T)
    → ((n : ℕ) → A.node n x ≡ B.node n y) → (k : ℕ) → (A.node k x ≡ 0 → ⊥) → A.looks k x ≡ B.looks k y
as_many A a B b x y same k z =
    let n = A.looks k x in
    let m = B.looks k y in
    let other : (B.node k y ≡ 0 → ⊥) = λ e. z (same k ∙ e) in
    let few = enough A a k k x (omega arith) z in
    let few_too = enough B b k k y (omega arith) other in
    let first = enough B b n k y few (λ e. just A a k x z (same n ∙ e)) in
    let second = enough A a m k x few_too (λ e. just B b k y other (sym (same m) ∙ e)) in
    omega arith
