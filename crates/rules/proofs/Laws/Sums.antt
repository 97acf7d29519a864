-- Sums of what nodes have used of their shares: one more use adds one cost, and there is room for it while the share is not spent.
use Prim.Native.Nat.{ℕ, ◌+◌, ◌*◌, ◌≤◌, ◌<◌}
use mathlib.Core.Path.{◌≡◌, ap}
use native.Mathlib.Omega.{arith}
use native.Mathlib.Nat.{mul-le-mul_right}
use borrow.Author.Tests.{eq-eqb, ne_eqb, eqb-true, eqb-false}
use lib.Dec.{eqb}
use Rattle.rules.specs.Choice.{put, sum}
use Rattle.rules.specs.Drawn.{Within}
use Rattle.rules.proofs.Laws.Passes.{Which, which, yes', no', sum_same, sum_mono, sum-put}

-- whether two numbers are the same
pub data Same (j k : ℕ) : Type 0 where
  it : j ≡ k → Same j k
  other : (j ≡ k → ⊥) → Same j k

pub same_or_not : (j k : ℕ) → Same j k
same_or_not j k = go (which (eqb j k))
  where
    go : Which (eqb j k) → Same j k
    go (yes' e) = it (eqb-true j k e)
    go (no' e) = other (eqb-false j k e)

-- k has one use more
abbrev pub more : (ℕ → ℕ) → ℕ → ℕ → ℕ
more u k = put u k (u k + 1)

-- what uses u cost in all, at c each
abbrev pub spent : ℕ → (ℕ → ℕ) → (ℕ → ℕ) → ℕ
spent n u c = sum n (λ j. u j * c j)

pub spent_more : (n : ℕ) (u c : ℕ → ℕ) (k : ℕ) → Within n k → spent n (more u k) c ≡ spent n u c + c k
spent_more n u c k w =
    let same = sum_same n (λ j. more u k j * c j) (put (λ j. u j * c j) k ((u k + 1) * c k)) (λ j v. each j (same_or_not j k)) in
    let changed = sum-put n (λ j. u j * c j) k ((u k + 1) * c k) w in
    omega arith
  where
    each : (j : ℕ) → Same j k → more u k j * c j ≡ put (λ i. u i * c i) k ((u k + 1) * c k) j
    each j (it e) = rw (eq-eqb j k e) (ap (λ (i : ℕ). (u k + 1) * c i) e)
    each j (other d) = rw (ne_eqb j k d)

pub spent_mono : (n : ℕ) (u v c : ℕ → ℕ) → ((j : ℕ) → Within n j → u j ≤ v j) → spent n u c ≤ spent n v c
spent_mono n u v c h = sum_mono n (λ j. u j * c j) (λ j. v j * c j) (λ j w. mul-le-mul_right (c j) (h j w))

-- a table within limits, with k's value changed to one within its own
pub put_within : (n : ℕ) (u limit : ℕ → ℕ) (k v : ℕ) → ((j : ℕ) → Within n j → u j ≤ limit j) → v ≤ limit k
    → (j : ℕ) → Within n j → put u k v j ≤ limit j
put_within n u limit k v all less j w = go (same_or_not j k)
  where
    go : Same j k → put u k v j ≤ limit j
    go (it e) = let l = ap limit e in rw (eq-eqb j k e) (omega arith)
    go (other d) = rw (ne_eqb j k d) (all j w)

-- there is room for one more use where k has not used its own up
pub room : (n : ℕ) (u limit c : ℕ → ℕ) (k : ℕ) → Within n k → ((j : ℕ) → Within n j → u j ≤ limit j) → u k < limit k
    → spent n u c + c k ≤ spent n limit c
room n u limit c k w all left =
    omega (arith, spent_more n u c k w, spent_mono n (more u k) limit c (put_within n u limit k (u k + 1) all (omega arith)))
