-- Laws of `any`, `first`, `sum` and `put`: what a pass over numbers finds, and what a change of one value changes.
use Prim.Native.Nat.{ℕ, zero, suc, ◌+◌, ◌≤◌, ◌<◌}
use mathlib.Core.Path.{◌≡◌, refl, sym, ap, ◌∙◌, subst}
use mathlib.Core.Bool.{Bool, true, false, ◌||◌, ◌&&◌}
use mathlib.Core.Logic.{◌⊎◌, ⊎_elim}
use native.Mathlib.Omega.{arith}
use native.Mathlib.Nat.{eq-or-lt_of_le}
use borrow.Author.Tests.{eq-eqb, ne_eqb}
use Rattle.std.specs.Prelude.{if◌then◌else◌}
use Rattle.rules.specs.Choice.{put, any, sum, first}
use Rattle.rules.specs.Drawn.{Within}

-- which of two a Bool is, with the equation
pub data Which (b : Bool) : Type 0 where
  yes' : b ≡ true → Which b
  no' : b ≡ false → Which b

pub which : (b : Bool) → Which b
which true = yes' refl
which false = no' refl

pub true-false : {b : Bool} → b ≡ true → b ≡ false → ⊥
true-false {b} p q = let z : ◌≡◌ {A = ℕ} 0 1 = ap (λ (x : Bool). if x then 0 else 1) (sym p ∙ q) in omega arith

pub unless : (b : Bool) → (b ≡ true → ⊥) → b ≡ false
unless true h = absurd (h refl)
unless false h = refl

pub or_left : (a b : Bool) → a ≡ true → (a || b) ≡ true
or_left true b e = refl
or_left false b e = absurd (true-false e refl)

pub or_right : (a b : Bool) → b ≡ true → (a || b) ≡ true
or_right true b e = refl
or_right false b e = e

pub or_both : (a b : Bool) → a ≡ false → b ≡ false → (a || b) ≡ false
or_both true b e g = e
or_both false b e g = g

pub or_cases : (a b : Bool) → (a || b) ≡ true → (a ≡ true) ⊎ (b ≡ true)
or_cases true b e = ◌⊎◌.inl refl
or_cases false b e = ◌⊎◌.inr e

pub or-none : (a b : Bool) → (a || b) ≡ false → (a ≡ false) × (b ≡ false)
or-none true b e = absurd (true-false refl e)
or-none false b e = (refl, e)

pub and_both : (a b : Bool) → (a && b) ≡ true → (a ≡ true) × (b ≡ true)
and_both true b e = (refl, e)
and_both false b e = absurd (true-false e refl)

-- some number of 1 to n of which f holds
pub record Some (n : ℕ) (f : ℕ → Bool) : Type 0 where
  pub number : ℕ
  pub within : Within n number
  pub holds : f number ≡ true

pub any_some : (n : ℕ) (f : ℕ → Bool) → any n f ≡ true → Some n f
unfolding any
any_some zero f e = absurd (true-false e refl)
any_some (suc n) f e = go (any_some n f) (or_cases (any n f) (f (suc n)) e)
  where
    go : (any n f ≡ true → Some n f) → (any n f ≡ true) ⊎ (f (suc n) ≡ true) → Some (suc n) f
    go earlier (◌⊎◌.inl h) =
        let s = earlier h in
        record { number = s.number; within = record { low = s.within.low; up = omega (arith, s.within.up) }; holds = s.holds }
    go earlier (◌⊎◌.inr h) = record { number = suc n; within = record { low = omega arith; up = omega arith }; holds = h }

pub any_none : (n : ℕ) (f : ℕ → Bool) → any n f ≡ false → (k : ℕ) → Within n k → f k ≡ false
unfolding any
any_none zero f e k w = absurd (let h = w.low in let i = w.up in omega arith)
any_none (suc n) f e k w =
    ⊎_elim (λ q. subst (λ (j : ℕ). f j ≡ false) (sym q) (or-none (any n f) (f (suc n)) e).1)
    (λ h. any_none n f (or-none (any n f) (f (suc n)) e).0 k (record { low = w.low; up = omega arith }))
    (eq-or-lt_of_le w.up)

pub any_intro : (n : ℕ) (f : ℕ → Bool) → Some n f → any n f ≡ true
any_intro n f s = go (which (any n f))
  where
    go : Which (any n f) → any n f ≡ true
    go (yes' e) = e
    go (no' e) = absurd (true-false s.holds (any_none n f e s.number s.within))

pub none_any : (n : ℕ) (f : ℕ → Bool) → ((k : ℕ) → Within n k → f k ≡ false) → any n f ≡ false
none_any n f h = go (which (any n f))
  where
    go : Which (any n f) → any n f ≡ false
    go (yes' e) = let s = any_some n f e in absurd (true-false s.holds (h s.number s.within))
    go (no' e) = e

-- what `first f a n` finds among the n numbers from a on: nothing, or the lowest
pub data Found (f : ℕ → Bool) (a n k : ℕ) : Type 0 where
  missing : k ≡ 0 → ((j : ℕ) → a ≤ j → j < a + n → f j ≡ false) → Found f a n k
  lowest : a ≤ k → k < a + n → f k ≡ true → ((j : ℕ) → a ≤ j → j < k → f j ≡ false) → Found f a n k

pub first_found : (f : ℕ → Bool) (a n : ℕ) → Found f a n (first f a n)
unfolding first
first_found f a zero = missing refl (λ j l h. absurd (omega arith))
first_found f a (suc n) = go (which (f a)) (first_found f (a + 1) n)
  where
    go : Which (f a) → Found f (a + 1) n (first f (a + 1) n) → Found f a (suc n) (if f a then a else first f (a + 1) n)
    go (yes' e) r = rw e (lowest (omega arith) (omega arith) e (λ j l h. absurd (omega arith)))
    go (no' e) (missing z none) =
        rw e (missing z (λ j l h. ⊎_elim (λ q. subst (λ (i : ℕ). f i ≡ false) q e) (λ m. none j (omega arith) (omega arith)) (eq-or-lt_of_le l)))
    go (no' e) (lowest l u t none) =
        rw e
        (lowest (omega arith) (omega arith) t
        (λ j m h. ⊎_elim (λ q. subst (λ (i : ℕ). f i ≡ false) q e) (λ o. none j (omega arith) h) (eq-or-lt_of_le m)))

-- a table with one value changed
pub put_same : {A : Type 0} (f : ℕ → A) (k : ℕ) (v : A) → put f k v k ≡ v
put_same f k v = rw (eq-eqb k k refl)

pub put_other : {A : Type 0} (f : ℕ → A) (k : ℕ) (v : A) (j : ℕ) → (j ≡ k → ⊥) → put f k v j ≡ f j
put_other f k v j h = rw (ne_eqb j k h)

-- sums over the numbers 1 to n
pub sum_same : (n : ℕ) (f g : ℕ → ℕ) → ((k : ℕ) → Within n k → f k ≡ g k) → sum n f ≡ sum n g
unfolding sum
sum_same zero f g h = refl
sum_same (suc n) f g h =
    let e = sum_same n f g (λ k w. h k (record { low = w.low; up = omega (arith, w.up) })) in
    let d = h (suc n) (record { low = omega arith; up = omega arith }) in
    cc

pub sum_mono : (n : ℕ) (f g : ℕ → ℕ) → ((k : ℕ) → Within n k → f k ≤ g k) → sum n f ≤ sum n g
unfolding sum
sum_mono zero f g h = omega arith
sum_mono (suc n) f g h =
    let e = sum_mono n f g (λ k w. h k (record { low = w.low; up = omega (arith, w.up) })) in
    let d = h (suc n) (record { low = omega arith; up = omega arith }) in
    omega arith

-- the sum with one value changed: out goes the old, in comes the new
pub sum-put : (n : ℕ) (f : ℕ → ℕ) (k v : ℕ) → Within n k → sum n (put f k v) + f k ≡ sum n f + v
unfolding sum
sum-put zero f k v w = absurd (let h = w.low in let i = w.up in omega arith)
sum-put (suc n) f k v w =
    ⊎_elim here (λ h. there h (sum-put n f k v (record { low = w.low; up = omega arith }))) (eq-or-lt_of_le w.up)
  where
    here : k ≡ suc n → sum n (put f k v) + put f k v (suc n) + f k ≡ sum n f + f (suc n) + v
    here q =
        let same = sum_same n (put f k v) f (λ j h. put_other f k v j (λ e. let u = h.up in omega arith)) in
        let changed : put f k v (suc n) ≡ v = subst (λ (j : ℕ). put f k v j ≡ v) q (put_same f k v) in
        let old = ap f q in
        omega arith

    there : k < suc n → sum n (put f k v) + f k ≡ sum n f + v → sum n (put f k v) + put f k v (suc n) + f k ≡ sum n f + f (suc n) + v
    there h less =
        let kept = put_other f k v (suc n) (λ e. omega arith) in
        omega arith
