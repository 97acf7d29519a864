-- L is the least bound of the levels of hubs 1 to H.
use Prim.Native.Nat.{ℕ, zero, suc, ◌≤◌}
use mathlib.Core.Path.{ap}
use mathlib.Core.Logic.{⊎_elim}
use native.Mathlib.Omega.{arith}
use native.Mathlib.Nat.{eq-or-lt_of_le}
use Rattle.rules.specs.Plan.{Plan, deepest, levels, most_levels}
use Rattle.rules.specs.Drawn.{Drawn, Within}

deepest_bounds : (n : ℕ) (level : ℕ → ℕ) (g : ℕ) → Within n g → level g ≤ deepest n level
unfolding deepest
deepest_bounds zero level g w = absurd (omega (arith, w.low, w.up))
deepest_bounds (suc n) level g w =
    ⊎_elim (λ e. omega (arith, ap level e))
    (λ h. omega (arith, deepest_bounds n level g (record { low = w.low; up = omega arith })))
    (eq-or-lt_of_le w.up)

deepest_least : (n : ℕ) (level : ℕ → ℕ) (b : ℕ) → ((g : ℕ) → Within n g → level g ≤ b) → deepest n level ≤ b
unfolding deepest
deepest_least zero level b h = omega arith
deepest_least (suc n) level b h =
    omega (
      arith,
      h (suc n) (record { low = omega arith; up = omega arith }),
      deepest_least n level b (λ g w. h g (record { low = w.low; up = omega (arith, w.up) })),
    )

module _ (p : Plan) (D : Drawn p) where
  pub level_up : (g : ℕ) → Within p.hubs g → p.level g ≤ levels p
  level_up g w = deepest_bounds p.hubs p.level g w

  pub levels-up : levels p ≤ most_levels
  levels-up = deepest_least p.hubs p.level most_levels D.few_levels
