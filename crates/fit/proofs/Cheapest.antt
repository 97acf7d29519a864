-- What `cheapest` finds: the lowest of the nodes that suffice at the least cost, or that none suffices.
use Prim.Native.Nat.{ℕ, zero, suc, ◌≤◌, ◌<◌}
use mathlib.Core.Path.{◌≡◌, refl}
use mathlib.Core.Bool.{Bool, true, false, ◌&&◌, ◌||◌}
use mathlib.Core.Logic.{◌⊎◌, ⊎_elim}
use native.Mathlib.Omega.{arith}
use native.Mathlib.Nat.{eq-or-lt_of_le}
use borrow.Author.Tests.{eqb-true, ltb-true, ltb-false}
use lib.Dec.{eqb, ltb}
use Rattle.std.specs.Prelude.{if◌then◌else◌}
use Rattle.rules.specs.Drawn.{Within}
use Rattle.rules.proofs.Laws.Passes.{Which, which, yes', no', true-false, and_both, or_cases, or-none}
use Rattle.fit.specs.Fit.{cheapest}

module _ (suffices : ℕ → Bool) (cost : ℕ → ℕ) where
  -- no node up to m that suffices costs less than j, and one that costs as much is no lower
  pub record Cheapest (m j : ℕ) : Type 0 where
    pub node : Within m j
    pub enough : suffices j ≡ true
    pub least : (i : ℕ) → Within m i → suffices i ≡ true → cost j ≤ cost i
    pub lowest : (i : ℕ) → Within m i → suffices i ≡ true → cost i ≡ cost j → j ≤ i

  abbrev pub NoneSuffices : ℕ → Type 0
  NoneSuffices m = (i : ℕ) → Within m i → suffices i ≡ false

  pub data Chosen (m : ℕ) : ℕ → Type 0 where
    some : {j : ℕ} → Cheapest m j → Chosen m j
    nothing : NoneSuffices m → Chosen m 0

  -- a node up to m + 1 is that one or one up to m
  last_or_below : (m i : ℕ) → Within (suc m) i → (i ≡ suc m) ⊎ Within m i
  last_or_below m i w = ⊎_elim (λ (e : i ≡ suc m). ◌⊎◌.inl e) (λ (l : i < suc m). ◌⊎◌.inr (record { low = w.low; up = omega arith })) (eq-or-lt_of_le w.up)

  -- node m + 1 is the first that suffices, or costs less than all before it
  dearer : {m j : ℕ} → Chosen m j → (eqb j 0 || ltb (cost (suc m)) (cost j)) ≡ true
      → (i : ℕ) → Within m i → suffices i ≡ true → cost (suc m) < cost i
  dearer {m} {j} (some c) f i w e =
      ⊎_elim (λ (z : eqb j 0 ≡ true). absurd (omega (arith, eqb-true j 0 z, c.node.low)))
      (λ (l : ltb (cost (suc m)) (cost j) ≡ true). omega (arith, ltb-true (cost (suc m)) (cost j) l, c.least i w e)) (or_cases (eqb j 0) (ltb (cost (suc m)) (cost j)) f)
  dearer (nothing none) f i w e = absurd (true-false e (none i w))

  taken : {m j : ℕ} → Chosen m j → suffices (suc m) ≡ true → (eqb j 0 || ltb (cost (suc m)) (cost j)) ≡ true → Chosen (suc m) (suc m)
  taken {m} c e f =
      some {j = suc m} (record {
        node = record { low = omega arith; up = omega arith };
        enough = e;
        least = λ i w g. ⊎_elim (λ (same : i ≡ suc m). rw same (omega arith)) (λ (v : Within m i). omega (arith, dearer c f i v g)) (last_or_below m i w);
        lowest = λ i w g h. ⊎_elim (λ (same : i ≡ suc m). omega arith) (λ (v : Within m i). absurd (omega (arith, dearer c f i v g))) (last_or_below m i w);
      })

  -- node m + 1 doesn't suffice, or costs as much as the one so far
  no_cheaper : (m j : ℕ) → 1 ≤ j → (suffices (suc m) && (eqb j 0 || ltb (cost (suc m)) (cost j))) ≡ false → suffices (suc m) ≡ true → cost j ≤ cost (suc m)
  no_cheaper m j l e g =
      ltb-false (cost (suc m)) (cost j) (or-none (eqb j 0) (ltb (cost (suc m)) (cost j)) (rw g at e)).1

  kept : {m j : ℕ} → Chosen m j → (suffices (suc m) && (eqb j 0 || ltb (cost (suc m)) (cost j))) ≡ false → Chosen (suc m) j
  kept {m} {j} (some c) e =
      some (record {
        node = record { low = c.node.low; up = omega (arith, c.node.up) };
        enough = c.enough;
        least = λ i w g. ⊎_elim (λ (same : i ≡ suc m). rw same (no_cheaper m j c.node.low e (rw same at g))) (λ (v : Within m i). c.least i v g) (last_or_below m i w);
        lowest = λ i w g h. ⊎_elim (λ (same : i ≡ suc m). omega (arith, c.node.up)) (λ (v : Within m i). c.lowest i v g h) (last_or_below m i w);
      })
  kept {m} (nothing none) e = nothing (λ i w. ⊎_elim (λ (same : i ≡ suc m). rw same (fails (suffices (suc m)) e)) (λ (v : Within m i). none i v) (last_or_below m i w))
    where
      fails : (b : Bool) → (b && true) ≡ false → b ≡ false
      fails true f = f
      fails false f = refl

  pub chosen : (m : ℕ) → Chosen m (cheapest suffices cost m)
  unfolding cheapest
  chosen zero = nothing (λ i w. absurd (omega arith))
  chosen (suc m) = go (cheapest suffices cost m) (chosen m) (which (suffices (suc m) && (eqb (cheapest suffices cost m) 0 || ltb (cost (suc m)) (cost (cheapest suffices cost m)))))
    where
      go : (j : ℕ) → Chosen m j → Which (suffices (suc m) && (eqb j 0 || ltb (cost (suc m)) (cost j)))
          → Chosen (suc m) (if suffices (suc m) && (eqb j 0 || ltb (cost (suc m)) (cost j)) then suc m else j)
      go j c (yes' e) = let both = and_both (suffices (suc m)) (eqb j 0 || ltb (cost (suc m)) (cost j)) e in rw e (taken c both.0 both.1)
      go j c (no' e) = rw e (kept c e)
