-- A mask and the set of ports that it codes determine each other, at any width k.
use mathlib.Core.Path.{◌≡◌, refl, sym, ap, ap₂, ◌∙◌}
use mathlib.Core.Bool.{Bool, true, false, ◌||◌, not}
use mathlib.Core.Logic.{◌⊎◌, inl, inr}
use Prim.Native.Nat.{ℕ, zero, suc, ◌+◌, ◌*◌, ◌/◌, ◌%◌, ◌^◌, ◌≤◌, ◌<◌}
use native.Mathlib.Nat.{eq-or-lt_of_le, mod-lt}
use native.Mathlib.Omega.{arith}
use native.Mathlib.Numerals.{one-add}
use borrow.Author.Tests.{ne_eqb}
use lib.Bits.{or_shifted}
use lib.Dec.{eqb}
use lib.Pow.{pow_pos, split, high, shr_lt}
use Rattle.ports.specs.Ports.{any_up_to}
use Rattle.ports.specs.Mask.{shows, mask_up_to, digit}
use Rattle.ports.proofs.Bits.{shl-shows-none, shows-or, shows_beyond}

-- two sets have the same ports among 1 to k
abbrev pub Same : ℕ → (ℕ → Bool) → (ℕ → Bool) → Type 0
Same k f g = (p : ℕ) → 1 ≤ p → p ≤ k → f p ≡ g p

-- ---- a number above k digits is shown from port k + 1 on, and the digits as before

shows_low : (a k r p : ℕ) → r < 2 ^ k → p ≤ k → shows (a * 2 ^ k + r) p ≡ shows r p
shows_low a k r p h l =
    ap (λ (n : ℕ). shows n p) (sym (or_shifted a k r h)) ∙ shows-or (a * 2 ^ k) r p
    ∙ ap (λ (b : Bool). b || shows r p) (shl-shows-none a k p l)

-- so a number keeps its ports up to k where it is cut to k digits
pub shows_cut : (k m p : ℕ) → p ≤ k → shows (m % 2 ^ k) p ≡ shows m p
shows_cut k m p l = sym (shows_low (m / 2 ^ k) k (m % 2 ^ k) p (mod-lt m (pow_pos k)) l) ∙ ap (λ (n : ℕ). shows n p) (split m k)

shows_top : (a k r : ℕ) → r < 2 ^ k → shows (a * 2 ^ k + r) (suc k) ≡ eqb (a % 2) 1
unfolding shows
shows_top a k r h = ap (λ (n : ℕ). eqb (n % 2) 1) (high a k h)

pub digit_odd : (b : Bool) → eqb (digit b % 2) 1 ≡ b
digit_odd true = refl
digit_odd false = refl

odd_digit : (n : ℕ) → n < 2 → digit (eqb (n % 2) 1) ≡ n
odd_digit zero h = refl
odd_digit (suc zero) h = refl
odd_digit (suc (suc n)) h = absurd (omega arith)

-- ---- masks

pub mask_cong : (k : ℕ) (f g : ℕ → Bool) → Same k f g → mask_up_to k f ≡ mask_up_to k g
unfolding mask_up_to
mask_cong zero f g e = refl
mask_cong (suc k) f g e =
    ap₂ (λ (b : Bool) (n : ℕ). digit b * 2 ^ k + n) (e (suc k) (omega arith) (omega arith)) (mask_cong k f g (λ p l h. e p l (omega arith)))

pub mask_lt : (k : ℕ) (f : ℕ → Bool) → mask_up_to k f < 2 ^ k
unfolding mask_up_to
mask_lt zero f = omega arith
mask_lt (suc k) f = go (f (suc k)) (mask_lt k f)
  where
    go : (b : Bool) → mask_up_to k f < 2 ^ k → digit b * 2 ^ k + mask_up_to k f < 2 ^ suc k
    go true h = omega arith
    go false h = omega arith

-- what a mask shows is what it was made of
pub shows_mask : (k : ℕ) (f : ℕ → Bool) → Same k (shows (mask_up_to k f)) f
unfolding mask_up_to
shows_mask zero f p l h = absurd (omega arith)
shows_mask (suc k) f p l h = go (shows_mask k f p l) (eq-or-lt_of_le h)
  where
    a : ℕ
    a = digit (f (suc k))

    go : (p ≤ k → shows (mask_up_to k f) p ≡ f p) → (p ≡ suc k) ⊎ (p < suc k) → shows (a * 2 ^ k + mask_up_to k f) p ≡ f p
    go low (inl e) = rw e (shows_top a k (mask_up_to k f) (mask_lt k f) ∙ digit_odd (f (suc k)))
    go low (inr q) = shows_low a k (mask_up_to k f) p (mask_lt k f) (omega arith) ∙ low (omega arith)

-- and a number of k digits is the mask of what it shows
pub mask_shows : (k m : ℕ) → m < 2 ^ k → mask_up_to k (shows m) ≡ m
unfolding mask_up_to shows
mask_shows zero m h = omega arith
mask_shows (suc k) m h =
    ap₂ (λ (x y : ℕ). x * 2 ^ k + y) (odd_digit (m / 2 ^ k) (shr_lt 1 k (rw one-add h)))
    (mask_cong k (shows m) (shows (m % 2 ^ k)) (λ p l q. sym (shows_cut k m p q)) ∙ mask_shows k (m % 2 ^ k) (mod-lt m (pow_pos k)))
    ∙ split m k

-- so a number of k digits is the mask of any set with the ports that it shows
pub is_mask : (k m : ℕ) (f : ℕ → Bool) → m < 2 ^ k → Same k (shows m) f → m ≡ mask_up_to k f
is_mask k m f h e = sym (mask_shows k m h) ∙ mask_cong k (shows m) f e

-- ---- a mask is 0 where it shows no port

pub empty_mask : (k : ℕ) (f : ℕ → Bool) → Same k f (λ p. false) → 0 ≡ mask_up_to k f
empty_mask k f none = is_mask k 0 f (pow_pos k) (λ p l h. shows_beyond 0 0 p (pow_pos 0) l ∙ sym (none p l h))

any_nonzero : (k : ℕ) (f : ℕ → Bool) → any_up_to k f ≡ not (eqb (mask_up_to k f) 0)
unfolding mask_up_to any_up_to
any_nonzero zero f = refl
any_nonzero (suc k) f = go (f (suc k)) (any_nonzero k f)
  where
    go : (b : Bool) → any_up_to k f ≡ not (eqb (mask_up_to k f) 0) → (b || any_up_to k f) ≡ not (eqb (digit b * 2 ^ k + mask_up_to k f) 0)
    go true e = simp (ne_eqb (digit true * 2 ^ k + mask_up_to k f) 0 (omega (arith, pow_pos k)))
    go false e = let same : digit false * 2 ^ k + mask_up_to k f ≡ mask_up_to k f = omega arith in rw same e

pub any_shown : (k m : ℕ) → m < 2 ^ k → not (eqb m 0) ≡ any_up_to k (shows m)
any_shown k m h = ap (λ (n : ℕ). not (eqb n 0)) (sym (mask_shows k m h)) ∙ sym (any_nonzero k (shows m))
