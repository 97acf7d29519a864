-- What shifts, `or`, `and` and `!` do to the ports that a number shows, at any width.
use mathlib.Core.Path.{◌≡◌, refl, sym, ap, ◌∙◌}
use mathlib.Core.Bool.{false, not, ◌&&◌, ◌||◌}
use Prim.Native.Nat.{ℕ, zero, suc, ◌+◌, ◌*◌, ◌-◌, ◌/◌, ◌%◌, ◌^◌, ◌≤◌, ◌<◌, max, min}
use native.Mathlib.Nat.{not-suc-le-zero, le_of_suc-le-suc, lt_of_lt_of_le, mod-lt, div-one, div-eq_of_lt, zero-lt-suc}
use native.Mathlib.Numerals.{one-add}
use native.Mathlib.Omega.{arith}
use lib.Arith.{digits_mod}
use lib.Bits.{bit_and, bit_or, and_step, and_shr, or_step, or_shr, shifted_half, shifted_even}
use lib.Dec.{eqb}
use lib.Pow.{pow_mono, shr-shr}
use Rattle.ports.specs.Mask.{shows}

-- ---- right shift: b ports fewer

pub shows-shr : (m b i : ℕ) → shows (m / 2 ^ b) (suc i) ≡ shows m (suc (b + i))
unfolding shows
shows-shr m b i = ap (λ (x : ℕ). eqb (x % 2) 1) (shr-shr m b i)

pub shows-half : (m i : ℕ) → shows (m / 2) (suc i) ≡ shows m (suc (suc i))
shows-half m i = shows-shr m 1 i ∙ ap (λ (x : ℕ). shows m (suc x)) (one-add i)

pub shows_first : (m : ℕ) → shows m 1 ≡ eqb (m % 2) 1
unfolding shows
shows_first m = ap (λ (x : ℕ). eqb (x % 2) 1) (div-one m)

-- ---- left shift: b ports more, none of them shown

pub shl-shows-none : (a b p : ℕ) → p ≤ b → shows (a * 2 ^ b) p ≡ false
unfolding shows
shl-shows-none a b zero h = refl
shl-shows-none a zero (suc i) h = absurd (not-suc-le-zero h)
shl-shows-none a (suc b) (suc zero) h = shows_first (a * 2 ^ suc b) ∙ ap (λ (x : ℕ). eqb x 1) (shifted_even a b)
shl-shows-none a (suc b) (suc (suc i)) h =
    sym (shows-half (a * 2 ^ suc b) i) ∙ ap (λ (x : ℕ). shows x (suc i)) (shifted_half a b) ∙ shl-shows-none a b (suc i) (le_of_suc-le-suc h)

-- ---- or

max_one : (r s : ℕ) → r < 2 → s < 2 → eqb (max r s) 1 ≡ (eqb r 1 || eqb s 1)
max_one zero zero h k = refl
max_one zero (suc zero) h k = refl
max_one (suc zero) zero h k = refl
max_one (suc zero) (suc zero) h k = refl
max_one zero (suc (suc s)) h k = absurd (omega arith)
max_one (suc zero) (suc (suc s)) h k = absurd (omega arith)
max_one (suc (suc r)) s h k = absurd (omega arith)

or_low : (a b : ℕ) → bit_or a b % 2 ≡ max (a % 2) (b % 2)
or_low a b = ap (λ (n : ℕ). n % 2) (or_step a b) ∙ digits_mod (bit_or (a / 2) (b / 2)) (omega arith)

pub shows-or : (a b p : ℕ) → shows (bit_or a b) p ≡ (shows a p || shows b p)
unfolding shows
shows-or a b zero = refl
shows-or a b (suc i) =
    let x = a / 2 ^ i in
    let y = b / 2 ^ i in
    ap (λ (n : ℕ). eqb (n % 2) 1) (or_shr a b i) ∙ ap (λ (n : ℕ). eqb n 1) (or_low x y)
    ∙ max_one (x % 2) (y % 2) (mod-lt x (zero-lt-suc 1)) (mod-lt y (zero-lt-suc 1))

-- ---- and

min_one : (r s : ℕ) → r < 2 → s < 2 → eqb (min r s) 1 ≡ (eqb r 1 && eqb s 1)
min_one zero zero h k = refl
min_one zero (suc zero) h k = refl
min_one (suc zero) zero h k = refl
min_one (suc zero) (suc zero) h k = refl
min_one zero (suc (suc s)) h k = absurd (omega arith)
min_one (suc zero) (suc (suc s)) h k = absurd (omega arith)
min_one (suc (suc r)) s h k = absurd (omega arith)

and_low : (a b : ℕ) → bit_and a b % 2 ≡ min (a % 2) (b % 2)
and_low a b = ap (λ (n : ℕ). n % 2) (and_step a b) ∙ digits_mod (bit_and (a / 2) (b / 2)) (omega arith)

pub shows-and : (a b p : ℕ) → shows (bit_and a b) p ≡ (shows a p && shows b p)
unfolding shows
shows-and a b zero = refl
shows-and a b (suc i) =
    let x = a / 2 ^ i in
    let y = b / 2 ^ i in
    ap (λ (n : ℕ). eqb (n % 2) 1) (and_shr a b i) ∙ ap (λ (n : ℕ). eqb n 1) (and_low x y)
    ∙ min_one (x % 2) (y % 2) (mod-lt x (zero-lt-suc 1)) (mod-lt y (zero-lt-suc 1))

-- ---- not: of a number of k digits, by what is missing to k ones

other_digit : (r : ℕ) → r < 2 → eqb (1 - r) 1 ≡ not (eqb r 1)
other_digit zero h = refl
other_digit (suc zero) h = refl
other_digit (suc (suc r)) h = absurd (omega arith)

pub shows-not : (k a p : ℕ) → a < 2 ^ k → 1 ≤ p → p ≤ k → shows (2 ^ k - 1 - a) p ≡ not (shows a p)
shows-not k a zero h l u = absurd (omega arith)
shows-not zero a (suc p) h l u = absurd (omega arith)
shows-not (suc k) a (suc zero) h l u =
    let low : (2 ^ suc k - 1 - a) % 2 ≡ 1 - a % 2 = omega arith in
    shows_first (2 ^ suc k - 1 - a) ∙ ap (λ (n : ℕ). eqb n 1) low ∙ other_digit (a % 2) (omega arith) ∙ sym (ap not (shows_first a))
shows-not (suc k) a (suc (suc i)) h l u =
    let high : (2 ^ suc k - 1 - a) / 2 ≡ 2 ^ k - 1 - a / 2 = omega arith in
    sym (shows-half (2 ^ suc k - 1 - a) i) ∙ ap (λ (n : ℕ). shows n (suc i)) high
    ∙ shows-not k (a / 2) (suc i) (omega arith) (omega arith) (omega arith) ∙ ap not (shows-half a i)

-- ---- a number of k digits shows no port above k

pub shows_beyond : (m k p : ℕ) → m < 2 ^ k → k < p → shows m p ≡ false
unfolding shows
shows_beyond m k zero h l = refl
shows_beyond m k (suc i) h l =
    ap (λ (n : ℕ). eqb (n % 2) 1) (div-eq_of_lt (lt_of_lt_of_le h (pow_mono (le_of_suc-le-suc l))))
