-- The number of standing requests where one node's request changes.
use Prim.Native.Nat.{ℕ, zero, suc, ◌+◌, ◌-◌, ◌≤◌, ◌<◌}
use mathlib.Core.Path.{◌≡◌, refl, ap, ◌∙◌}
use mathlib.Core.Bool.{Bool, true, false}
use mathlib.Core.List.{List}
use native.Mathlib.Omega.{arith}
use borrow.Author.Tests.{lt-ltb, eqb-true, eqb-false}
use lib.Dec.{eqb}
use lib.ListN.{get_or}
use Rattle.rules.specs.Choice.{put, sum}
use Rattle.rules.specs.Drawn.{Within}
use Rattle.rules.proofs.Laws.Passes.{Which, which, yes', no', sum_same, sum_mono, sum-put}
use Rattle.ports.specs.Mask.{digit}
use Rattle.cells.specs.Layout.{request_cell}
use Rattle.cells.specs.Masks.{stands, standing_after}
use Rattle.refinement.specs.Kept.{standing_in}

digit_small : (b : Bool) → digit b ≤ 1
digit_small true = omega arith
digit_small false = omega arith

sum_ones : (n : ℕ) → sum n (λ k. 1) ≡ n
unfolding sum
sum_ones zero = refl
sum_ones (suc n) = omega (arith, sum_ones n)

-- a sum of n digits is at most n
sum_small : (n : ℕ) (f : ℕ → ℕ) → ((k : ℕ) → f k ≤ 1) → sum n f ≤ n
sum_small n f h = omega (arith, sum_mono n f (λ k. 1) (λ k w. h k), sum_ones n)

module _ (n : ℕ) (few : n ≤ 256) (k : ℕ) (w : Within n k) (s r : List ℕ)
    (others : (j : ℕ) → Within n j → (j ≡ k → ⊥) → get_or r (request_cell j) 0 ≡ get_or s (request_cell j) 0) where
  stood : ℕ → ℕ
  stood j = digit (stands (get_or s (request_cell j) 0))

  stood_small : (j : ℕ) → stood j ≤ 1
  unfolding stood
  stood_small j = digit_small (stands (get_or s (request_cell j) 0))

  -- the new number is a sum with one digit changed
  changed : (x : ℕ) → get_or r (request_cell k) 0 ≡ x → standing_in n r ≡ sum n (put stood k (digit (stands x)))
  unfolding stood
  changed x e = sum_same n _ _ (λ j v. go j v (which (eqb j k)))
    where
      go : (j : ℕ) → Within n j → Which (eqb j k) → digit (stands (get_or r (request_cell j) 0)) ≡ put stood k (digit (stands x)) j
      go j v (yes' t) =
          let q = eqb-true j k t in
          rw (t, q, e)
      go j v (no' t) = rw (t, others j v (eqb-false j k t))

  pub standing_after_lem : (x : ℕ) → get_or r (request_cell k) 0 ≡ x
      → standing_in n r ≡ standing_after (standing_in n s) (get_or s (request_cell k) 0) x
  unfolding stood
  standing_after_lem x e = changed x e ∙ go (which (stands (get_or s (request_cell k) 0))) (which (stands x))
    where
      total : ℕ
      total = standing_in n s

      out : (v : ℕ) → sum n (put stood k v) + stood k ≡ total + v
      out v = sum-put n stood k v w

      go : Which (stands (get_or s (request_cell k) 0)) → Which (stands x)
          → sum n (put stood k (digit (stands x))) ≡ standing_after (standing_in n s) (get_or s (request_cell k) 0) x
      go (yes' a) (yes' b) = rw (a, b) (omega (arith, out 1, ap digit a))
      go (yes' a) (no' b) = rw (a, b) (omega (arith, out 0, ap digit a))
      go (no' a) (yes' b) =
          let room : standing_in n s < 256 = omega (arith, out 1, ap digit a, sum_small n (put stood k 1) (λ j. one_put j (which (eqb j k)))) in
          rw (a, b, lt-ltb (standing_in n s) 256 room) (omega (arith, out 1, ap digit a))
        where
          one_put : (j : ℕ) → Which (eqb j k) → put stood k 1 j ≤ 1
          one_put j (yes' t) = rw t (omega arith)
          one_put j (no' t) = rw t (stood_small j)
      go (no' a) (no' b) = rw (a, b) (omega (arith, out 0, ap digit a))
