-- Which calls pass each row: its test fails exactly where the rule holds, in orders and equations.
use Prim.Native.Nat.{ℕ, ◌≤◌}
use mathlib.Core.Path.{◌≡◌, refl}
use mathlib.Core.Bool.{Bool, false, ◌||◌}
use mathlib.Core.Logic.{◌↔◌}
use native.Mathlib.Omega.{arith}
use lib.Dec.{ltb, eqb}
use borrow.Author.Tests.{le-ltb, ne_eqb, ltb-false, eqb-true, eqb-false, not-false}
use Rattle.rules.specs.Choice.{put}
use Rattle.rules.specs.Plan.{Plan, shortest, longest}
use Rattle.rules.specs.Call.{Class, normal, high}
use Rattle.rules.specs.Core.{Core, Share, advance, Due, never, at, due}
use Rattle.rules.specs.Drawn.{Within}
use Rattle.rules.specs.Rows.{last_time, loads, row11, row12, row13, row14, row15, row15r, unreserved, row16, row17}
use Rattle.rules.specs.Promises.{Holds, Allows, InRange, given_up, packets}
use Rattle.rules.proofs.Laws.Passes.{Which, which, yes', no', true-false, unless, or_both, or-none}
use Rattle.rules.proofs.Laws.Clash.{clash}

-- where a test fails
not-less : (a b : ℕ) → (ltb a b ≡ false) ↔ (b ≤ a)
not-less a b = (ltb-false a b, le-ltb a b)

not-zero : (a : ℕ) → (eqb a 0 ≡ false) ↔ (1 ≤ a)
not-zero a = (λ e. omega (arith, eqb-false a 0 e), λ h. ne_eqb a 0 (omega arith))

neither : (a b : Bool) → ((a || b) ≡ false) ↔ ((a ≡ false) × (b ≡ false))
neither a b = (or-none a b, λ h. or_both a b h.0 h.1)

ruleset failing = (neither, not-less, not-zero)

-- what row 11 asks of every event and step
pub record InTime (s : Core) (t : ℕ) : Type 0 where
  pub late : s.clock ≤ t
  pub soon : t ≤ last_time

pub passed11 : (s : Core) (t : ℕ) → ((row11 s t).applies ≡ false) ↔ InTime s t
passed11 s t = (λ e. omega (arith, simp failing at e), λ i. simp failing (omega arith))

pub passed14 : (n : ℕ) → ((row14 n).applies ≡ false) ↔ (n ≤ 64)
passed14 n = (λ e. omega (arith, simp failing at e), λ h. simp failing (omega arith))

module _ (p : Plan) where
  pub passed12 : (s : Core) (t : ℕ) → ((row12 p s t).applies ≡ false) ↔ ((d : ℕ) → due p s ≡ at d → t ≤ d)
  passed12 s t = (λ e d q. omega (arith, simp failing at (rw q at e)), λ h. go h (due p s) refl)
    where
      go : ((d : ℕ) → due p s ≡ at d → t ≤ d) → (x : Due) → due p s ≡ x → (row12 p s t).applies ≡ false
      go h never q = rw q
      go h (at d) q = rw q (simp failing (omega (arith, h d q)))

  pub passed13 : (k : ℕ) → ((row13 p k).applies ≡ false) ↔ Within p.nodes k
  passed13 k = (λ e. omega (arith, simp failing at e), λ w. simp failing (omega arith))

  pub passed15 : (b : ℕ) → ((row15 p b).applies ≡ false) ↔ ((shortest p ≤ b) × (b ≤ longest p))
  passed15 b = (λ e. omega (arith, simp failing at e), λ h. simp failing (omega arith))

  pub passed15r : (n b : ℕ) → ((row15r p n b).applies ≡ false) ↔ InRange p n b
  passed15r n b = (λ e. go (which (eqb n 0)) e, in_range_lem)
    where
      go : Which (eqb n 0) → (row15r p n b).applies ≡ false → InRange p n b
      go (yes' z) e = rw (eqb-true n 0 z, eqb-true b 0 (not-false (eqb b 0) (rw z at e))) given_up
      go (no' z) e =
          let some = (not-zero n).0 z in
          let range = simp failing at (rw z at e) in
          packets n b some range.0 range.1

      in_range_lem : {m a : ℕ} → InRange p m a → (row15r p m a).applies ≡ false
      in_range_lem given_up = refl
      in_range_lem (packets m a some l u) = rw ((not-zero m).1 some) (simp failing (omega arith))

  -- by the reservation in force
  allows : (r : Share) (c : Class) (b : ℕ) → (unreserved p r c b ≡ false) ↔ Allows p r c b
  allows r normal b = (λ e. record { fits = λ q. clash (cc); some = λ q. clash (cc) }, λ h. refl)
  allows r high b = go (which (eqb r.packets 0))
    where
      go : Which (eqb r.packets 0) → (unreserved p r high b ≡ false) ↔ Allows p r high b
      go (yes' z) =
          let none = eqb-true r.packets 0 z in (
            λ e. record { fits = λ q n. absurd (omega arith); some = λ q s. absurd (true-false s (rw z at e)) },
            λ h. rw z (unless p.strict (λ s. (let n = h.some refl s in omega arith))),
          )
      go (no' z) =
          let some = (not-zero r.packets).0 z in (
            λ e. record { fits = λ q n. omega (arith, simp failing at (rw z at e)); some = λ q s. some },
            λ h. rw z (simp failing (omega (arith, h.fits refl some))),
          )

  pub passed16 : (s : Core) (c : Class) (t k b : ℕ) → ((row16 p s c t k b).applies ≡ false) ↔ Allows p ((advance p t s).force k) c b
  passed16 s c t k b = allows ((advance p t s).force k) c b

  pub passed17 : (s : Core) (k : ℕ) (r : Share) → ((row17 p s k r).applies ≡ false) ↔ Holds p (loads p (put s.latest k r))
  passed17 s k r = (λ e. omega (arith, simp failing at e), λ h. simp failing (omega arith))
