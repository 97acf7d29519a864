-- What `largest_below` finds: the largest number there is, or that there is none.
use Prim.Native.Nat.{ℕ, zero, suc, ◌+◌, ◌-◌, ◌*◌, ◌/◌, ◌≤◌, ◌<◌}
use mathlib.Core.Path.{◌≡◌, refl, sym, ap, subst, ◌∙◌}
use mathlib.Core.Bool.{Bool, true, false, ◌&&◌}
use mathlib.Core.Logic.{⊎_elim}
use native.Mathlib.Omega.{arith}
use native.Mathlib.Nat.{eq-or-lt_of_le, le_antisymm, mul_comm, le-div_iff_mul-le, div-lt_iff_lt-mul}
use borrow.Author.Tests.{le-leb, lt-leb, leb-true, ltb-true, ltb-false}
use lib.Dec.{leb, ltb}
use Rattle.std.specs.Prelude.{if◌then◌else◌}
use Rattle.rules.proofs.Laws.Passes.{Which, which, yes', no', and_both, true-false}
use Rattle.fit.specs.Fit.{largest_below}

-- m is the largest number below a bound, from `least` on, that passes
pub record Largest (bound least : ℕ) (passes : ℕ → Bool) (m : ℕ) : Type 0 where
  pub low : least ≤ m
  pub up : m < bound
  pub passed : passes m ≡ true
  pub above : (i : ℕ) → m < i → i < bound → passes i ≡ false

abbrev pub None : ℕ → ℕ → (ℕ → Bool) → Type 0
None bound least passes = (i : ℕ) → least ≤ i → i < bound → passes i ≡ false

pub data Found (bound least : ℕ) (passes : ℕ → Bool) : ℕ → Type 0 where
  some : {m : ℕ} → Largest bound least passes m → Found bound least passes m
  nothing : None bound least passes → Found bound least passes 0

module _ (least : ℕ) (passes : ℕ → Bool) where
  -- what fails below a bound, and the bound itself
  with_bound : {bound low : ℕ} → (leb least bound && passes bound) ≡ false → least ≤ low → None bound low passes → None (suc bound) low passes
  with_bound {bound} {low} e h none i l u = ⊎_elim same (λ (less : i < bound). none i l less) (eq-or-lt_of_le (omega arith))
    where
      same : i ≡ bound → passes i ≡ false
      same f = ap passes f ∙ (rw (le-leb least bound (omega arith)) at e)

  higher : {bound m : ℕ} → (leb least bound && passes bound) ≡ false → Found bound least passes m → Found (suc bound) least passes m
  higher {m = m} e (some l) =
      some (record {
        low = l.low;
        up = omega (arith, l.up);
        passed = l.passed;
        above = λ i h u. with_bound {low = m + 1} e (omega (arith, l.low)) (λ j k v. l.above j (omega arith) v) i (omega arith) u;
      })
  higher e (nothing none) = nothing (with_bound e (omega arith) none)

  pub found : (bound : ℕ) → Found bound least passes (largest_below bound least passes)
  unfolding largest_below
  found zero = nothing (λ i h k. absurd (omega arith))
  found (suc b) = go (which (leb least b && passes b)) (found b)
    where
      go : Which (leb least b && passes b) → Found b least passes (largest_below b least passes)
          → Found (suc b) least passes (if leb least b && passes b then b else largest_below b least passes)
      go (yes' e) _ =
          rw e
          (some {m = b} (record {
            low = omega (arith, leb-true least b (and_both (leb least b) (passes b) e).0);
            up = omega arith;
            passed = (and_both (leb least b) (passes b) e).1;
            above = λ i h u. absurd (omega arith);
          }))
      go (no' e) below = rw e (higher e below)

  -- there is no other one
  not_above : {bound m n : ℕ} → Largest bound least passes m → Largest bound least passes n → m ≤ n
  not_above {m = m} {n = n} l k = go (which (ltb n m))
    where
      go : Which (ltb n m) → m ≤ n
      go (yes' h) = absurd (true-false l.passed (k.above m (ltb-true n m h) l.up))
      go (no' h) = ltb-false n m h

  pub is_largest : {bound m : ℕ} → Largest bound least passes m → largest_below bound least passes ≡ m
  is_largest {bound} {m} l = go (found bound)
    where
      go : {n : ℕ} → Found bound least passes n → n ≡ m
      go {n} (some k) = le_antisymm (not_above k l) (not_above l k)
      go (nothing none) = absurd (true-false l.passed (none m l.low l.up))

  pub is_none : {bound : ℕ} → 1 ≤ least → None bound least passes → largest_below bound least passes ≡ 0
  is_none {bound} h none = go (found bound)
    where
      go : {n : ℕ} → Found bound least passes n → n ≡ 0
      go (some k) = absurd (true-false k.passed (none _ k.low k.up))
      go (nothing _) = refl

-- the largest number of pieces that have room, by what is known of it; 0 is none
module _ (bound each room : ℕ) where
  pub the_most : (m : ℕ) → m < bound → m * each ≤ room → ((i : ℕ) → m < i → i < bound → room < i * each)
      → m ≡ largest_below bound 1 (λ i. leb (i * each) room)
  the_most zero u h above = sym (is_none 1 (λ i. leb (i * each) room) (omega arith) (λ i l v. lt-leb (i * each) room (above i (omega arith) v)))
  the_most (suc m) u h above =
      sym (is_largest 1 (λ i. leb (i * each) room)
      (record { low = omega arith; up = u; passed = le-leb (suc m * each) room h; above = λ i l v. lt-leb (i * each) room (above i l v) }))

  pub no_bound : bound ≡ 0 → 0 ≡ largest_below bound 1 (λ i. leb (i * each) room)
  no_bound z = sym (is_none 1 (λ i. leb (i * each) room) (omega arith) (λ i l v. absurd (omega arith)))

  -- at more than nothing a piece, they are those up to the quotient
  pub up_to_quotient : (each ≡ 0 → ⊥) → (m : ℕ) → m ≤ room / each → m * each ≤ room
  up_to_quotient h m l = (le-div_iff_mul-le {k = each} {x = m} {y = room} (omega arith)).0 l

  pub above_quotient : (each ≡ 0 → ⊥) → (m : ℕ) → room / each < m → room < m * each
  above_quotient h m l = (div-lt_iff_lt-mul {k = each} {x = room} {y = m} (omega arith)).0 l

-- what stands above the largest number fails, whether there is one or not
pub fails_above : {bound least : ℕ} {passes : ℕ → Bool} {m : ℕ} → Found bound least passes m
    → (i : ℕ) → least ≤ i → m < i → i < bound → passes i ≡ false
fails_above (some l) i h above up = l.above i above up
fails_above (nothing none) i h above up = none i h up

pub has-passed : {bound least : ℕ} {passes : ℕ → Bool} {m : ℕ} → Found bound least passes m → 1 ≤ m → Largest bound least passes m
has-passed (some l) h = l
has-passed (nothing none) h = absurd (omega arith)

-- Packets of c bits with their overhead are numbers that have room so often: the largest c is the largest such number less the overhead.
module _ (bound over each room : ℕ) where
  abbrev often : ℕ → Bool
  often i = leb (i * each) room

  abbrev long : ℕ → Bool
  long c = leb (each * (c + over)) room

  swapped : (c : ℕ) → long c ≡ often (c + over)
  swapped c = ap (λ (x : ℕ). leb x room) (mul_comm each (c + over))

  module _ {m : ℕ} (e : m ≡ largest_below (bound + over) 1 often) where
    at : Found (bound + over) 1 often m
    at = subst (Found (bound + over) 1 often) (sym e) (found 1 often (bound + over))

    above_fails : (c : ℕ) → m < c + over → c < bound → long c ≡ false
    above_fails c l u = swapped c ∙ fails_above at (c + over) (omega arith) l (omega arith)

    pub too_short : (least : ℕ) → 1 ≤ least → m < least + over → 0 ≡ largest_below bound least long
    too_short least h l = sym (is_none least long h (λ c low up. above_fails c (omega arith) up))

    pub long_enough : (least : ℕ) → 1 ≤ least → least + over ≤ m → m - over ≡ largest_below bound least long
    long_enough least h l =
        let largest = has-passed at (omega arith) in
        let back : m - over + over ≡ m = omega arith in
        sym (is_largest least long
        (record {
          low = omega arith;
          up = omega (arith, largest.up);
          passed = swapped (m - over) ∙ ap often back ∙ largest.passed;
          above = λ c low up. above_fails c (omega arith) up;
        }))
