-- Where control turns: every hub above is marked and on the line, so the search stands there as it stands from the root.
use Prim.Native.Nat.{ℕ, zero, suc, ◌≤◌}
use mathlib.Core.Path.{◌≡◌, refl, ap, subst, sym}
use mathlib.Core.Bool.{Bool, true, false, ◌&&◌}
use mathlib.Core.Logic.{⊎_elim}
use native.Mathlib.Omega.{arith}
use native.Mathlib.Nat.{eq-or-lt_of_le}
use lib.Dec.{eqb}
use borrow.Author.Tests.{ne_eqb, eqb-true, eqb-false}
use Rattle.rules.specs.Plan.{Plan, most_levels}
use Rattle.rules.specs.Drawn.{Drawn, Within}
use Rattle.rules.specs.Control.{Pointer, marking, leads_to, led, nearest}
use Rattle.rules.proofs.Laws.Passes.{Which, which, yes', no', true-false, and_both}
use Rattle.rules.proofs.Control.Cover.{hangs}
use Rattle.rules.proofs.Control.Pointers.{Chain, root, under}

-- hub t stands on g's line, at most as deep, and every hub above it leads to it
pub record Near (p : Plan) (P : ℕ → Pointer) (g t : ℕ) : Type 0 where
  pub chain : Chain p P t
  pub up : p.level t ≤ p.level g

-- a pointer that is marked and at port q
marked_at : (x : Pointer) (q : ℕ) → (eqb q x.port && x.marked) ≡ true → x ≡ marking q
marked_at x q e =
    let (there, m) = and_both (eqb q x.port) x.marked e in
    λ i. record { port = sym (eqb-true q x.port there) i; marked = m i }

module _ (p : Plan) (D : Drawn p) where
  -- a hub's level is at least 1
  pub level_low : (g : ℕ) → Within p.hubs g → 1 ≤ p.level g
  level_low g w =
      ⊎_elim (λ e. omega (arith, D.root_level, ap p.level e)) (λ l. omega (arith, (hangs p D g l w.up).hung.level)) (eq-or-lt_of_le w.low)

module _ (p : Plan) (D : Drawn p) (P : ℕ → Pointer) where
  led_chain : (l g : ℕ) → Within p.hubs g → led p P l g ≡ true → Chain p P g
  unfolding led
  led_chain zero g w e = absurd (true-false e refl)
  led_chain (suc l) g w e = go (led_chain l) (which (eqb g 1))
    where
      go : ((h : ℕ) → Within p.hubs h → led p P l h ≡ true → Chain p P h) → Which (eqb g 1) → Chain p P g
      go onward (yes' t) = subst (Chain p P) (sym (eqb-true g 1 t)) root
      go onward (no' t) =
          let low : 2 ≤ g = omega (arith, eqb-false g 1 t, w.low) in
          let (here, above) = and_both (leads_to p P g) (led p P l (p.parent g)) (rw t at e) in
          under low w.up (marked_at (P (p.parent g)) (p.place g) here) (onward (p.parent g) (D.hung_parent g low w.up) above)

  -- nothing stands above the root
  pub root_led : led p P most_levels 1 ≡ true
  unfolding led
  root_led = refl

  not_root : (g : ℕ) → Within p.hubs g → led p P most_levels g ≡ false → 2 ≤ g
  not_root g w e =
      ⊎_elim (λ i. absurd (true-false (subst (λ (h : ℕ). led p P most_levels h ≡ true) i root_led) e)) (λ i. i) (eq-or-lt_of_le w.low)

  -- levels enough are as good as any
  led-any : (l m g : ℕ) → Within p.hubs g → p.level g ≤ l → p.level g ≤ m → led p P l g ≡ led p P m g
  unfolding led
  led-any zero m g w u v = absurd (omega (arith, level_low p D g w))
  led-any (suc l) zero g w u v = absurd (omega (arith, level_low p D g w))
  led-any (suc l) (suc m) g w u v = go (led-any l m) (which (eqb g 1))
    where
      go : ((h : ℕ) → Within p.hubs h → p.level h ≤ l → p.level h ≤ m → led p P l h ≡ led p P m h) → Which (eqb g 1)
          → led p P (suc l) g ≡ led p P (suc m) g
      go onward (yes' t) = rw t
      go onward (no' t) =
          let low : 2 ≤ g = omega (arith, eqb-false g 1 t, w.low) in
          let hung = (hangs p D g low w.up).hung in
          rw (t, onward (p.parent g) (D.hung_parent g low w.up) (omega (arith, hung.level)) (omega (arith, hung.level)))

  -- every hub above g leads on if g's parent does and every hub above that
  pub led_step : (g : ℕ) → 2 ≤ g → g ≤ p.hubs → led p P most_levels g ≡ (leads_to p P g && led p P most_levels (p.parent g))
  unfolding led
  led_step g low u =
      let hung = (hangs p D g low u).hung in
      let few = D.few_levels g (record { low = omega arith; up = u }) in
      let same : led p P 4 (p.parent g) ≡ led p P most_levels (p.parent g) =
      led-any 4 most_levels (p.parent g) (D.hung_parent g low u) (omega (arith, hung.level)) (omega (arith, hung.level)) in
      rw (ne_eqb g 1 (λ e. omega arith)) (ap (λ (b : Bool). leads_to p P g && b) same)

  near_by : (l g : ℕ) → Within p.hubs g → p.level g ≤ l → Near p P g (nearest p P l g)
  unfolding nearest
  near_by zero g w u = absurd (omega (arith, level_low p D g w))
  near_by (suc l) g w u = go (near_by l) (which (led p P most_levels g))
    where
      go : ((h : ℕ) → Within p.hubs h → p.level h ≤ l → Near p P h (nearest p P l h)) → Which (led p P most_levels g)
          → Near p P g (nearest p P (suc l) g)
      go onward (yes' e) = rw e (record { chain = led_chain most_levels g w e; up = omega arith })
      go onward (no' e) =
          let low = not_root g w e in
          let hung = (hangs p D g low w.up).hung in
          let n = onward (p.parent g) (D.hung_parent g low w.up) (omega (arith, hung.level)) in
          rw e (record { chain = n.chain; up = omega (arith, n.up, hung.level) })

  pub nearest_near : (g : ℕ) → Within p.hubs g → Near p P g (nearest p P most_levels g)
  nearest_near g w = near_by most_levels g w (D.few_levels g w)

  nearest-any : (l m g : ℕ) → Within p.hubs g → p.level g ≤ l → p.level g ≤ m → nearest p P l g ≡ nearest p P m g
  unfolding nearest
  nearest-any zero m g w u v = absurd (omega (arith, level_low p D g w))
  nearest-any (suc l) zero g w u v = absurd (omega (arith, level_low p D g w))
  nearest-any (suc l) (suc m) g w u v = go (nearest-any l m) (which (led p P most_levels g))
    where
      go : ((h : ℕ) → Within p.hubs h → p.level h ≤ l → p.level h ≤ m → nearest p P l h ≡ nearest p P m h) → Which (led p P most_levels g)
          → nearest p P (suc l) g ≡ nearest p P (suc m) g
      go onward (yes' e) = rw e
      go onward (no' e) =
          let low = not_root g w e in
          let hung = (hangs p D g low w.up).hung in
          rw e (onward (p.parent g) (D.hung_parent g low w.up) (omega (arith, hung.level)) (omega (arith, hung.level)))

  -- the nearest hub is g itself, or the nearest one from its parent on
  pub nearest_here : (g : ℕ) → led p P most_levels g ≡ true → nearest p P most_levels g ≡ g
  unfolding nearest
  nearest_here g e = rw e

  pub nearest_above : (g : ℕ) → Within p.hubs g → led p P most_levels g ≡ false → nearest p P most_levels g ≡ nearest p P most_levels (p.parent g)
  unfolding nearest
  nearest_above g w e =
      let low = not_root g w e in
      let hung = (hangs p D g low w.up).hung in
      let few = D.few_levels g w in
      rw e (nearest-any 4 most_levels (p.parent g) (D.hung_parent g low w.up) (omega (arith, hung.level)) (omega (arith, hung.level)))
