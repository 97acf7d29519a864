-- A mask changed by an `or` shows one port more, and by an `and` before it just as told, at any width k.
use mathlib.Core.Path.{◌≡◌, refl, sym, ap, ap₂, ◌∙◌}
use mathlib.Core.Bool.{Bool, true, false, not, ◌&&◌, ◌||◌, or-false}
use Prim.Native.Nat.{ℕ, suc, ◌-◌, ◌*◌, ◌%◌, ◌^◌, ◌≤◌, ◌<◌}
use native.Mathlib.Nat.{mod-eq_of_lt, lt_of_le_of_lt, lt_of_lt_of_le}
use native.Mathlib.Omega.{arith}
use borrow.Author.Tests.{eqb-true, eqb-false, ne_eqb, leb-true, leb-false}
use lib.Bits.{bit_and, bit_or, or_lt, and_le_l}
use lib.Dec.{eqb, leb}
use lib.Pow.{pow_pos, pow_mono, shl-shr}
use Rattle.ports.specs.Ports.{with_port, put_port}
use Rattle.ports.specs.Mask.{shows, mask_up_to, digit}
use Rattle.ports.proofs.Bits.{shl-shows-none, shows-or, shows-and, shows-not, shows_beyond}
use Rattle.ports.proofs.Coding.{is_mask, digit_odd}

-- ---- one port more: its summary, shifted to its place

digit-shl-lt : (b : Bool) (i : ℕ) → digit b * 2 ^ i < 2 ^ suc i
digit-shl-lt true i = omega (arith, pow_pos i)
digit-shl-lt false i = omega (arith, pow_pos (suc i))

shows_own : (b : Bool) (i : ℕ) → shows (digit b * 2 ^ i) (suc i) ≡ b
unfolding shows
shows_own b i = ap (λ (n : ℕ). eqb (n % 2) 1) (shl-shr (digit b) i) ∙ digit_odd b

shows_no_other : (b : Bool) (i p : ℕ) → (p ≡ suc i → ⊥) → shows (digit b * 2 ^ i) p ≡ false
shows_no_other b i p other = go (leb p i) refl
  where
    go : (t : Bool) → leb p i ≡ t → shows (digit b * 2 ^ i) p ≡ false
    go true e = shl-shows-none (digit b) i p (leb-true p i e)
    go false e = shows_beyond (digit b * 2 ^ i) (suc i) p (digit-shl-lt b i) (omega (arith, leb-false))

shows_one : (b : Bool) (i p : ℕ) → shows (digit b * 2 ^ i) p ≡ (eqb p (suc i) && b)
shows_one b i p = go (eqb p (suc i)) refl
  where
    go : (t : Bool) → eqb p (suc i) ≡ t → shows (digit b * 2 ^ i) p ≡ (t && b)
    go true e = rw (eqb-true p (suc i) e) (shows_own b i)
    go false e = shows_no_other b i p (eqb-false p (suc i) e)

pub with_port_lem : (k mask i : ℕ) (b : Bool) → mask < 2 ^ k → i < k
    → bit_or mask (digit b * 2 ^ i % 2 ^ k) ≡ mask_up_to k (with_port (shows mask) (suc i) b)
unfolding with_port
with_port_lem k mask i b h l =
    let fits : digit b * 2 ^ i < 2 ^ k = lt_of_lt_of_le (digit-shl-lt b i) (pow_mono l) in
    rw (mod-eq_of_lt fits)
    (is_mask k (bit_or mask (digit b * 2 ^ i)) (with_port (shows mask) (suc i) b) (or_lt k mask (digit b * 2 ^ i) h fits)
    (λ p q r. shows-or mask (digit b * 2 ^ i) p ∙ ap (λ (x : Bool). shows mask p || x) (shows_one b i p)))

-- a number that is no port changes nothing
pub with_no_port : (k mask port : ℕ) (b : Bool) → mask < 2 ^ k → ((p : ℕ) → 1 ≤ p → p ≤ k → p ≡ port → ⊥)
    → mask ≡ mask_up_to k (with_port (shows mask) port b)
unfolding with_port
with_no_port k mask port b h other =
    is_mask k mask (with_port (shows mask) port b) h
    (λ p q r. sym (ap (λ (t : Bool). shows mask p || (t && b)) (ne_eqb p port (other p q r)) ∙ or-false (shows mask p)))

-- ---- one port as told: its own bit cleared, and its summary put there

put_bit : (e b m : Bool) → ((m && not (e && true)) || (e && b)) ≡ ((e && b) || (not e && m))
put_bit true true true = refl
put_bit true true false = refl
put_bit true false true = refl
put_bit true false false = refl
put_bit false b true = refl
put_bit false b false = refl

pub put_port_lem : (k mask i : ℕ) (b : Bool) → mask < 2 ^ k → i < k
    → bit_or (bit_and mask (2 ^ k - 1 - digit true * 2 ^ i % 2 ^ k)) (digit b * 2 ^ i % 2 ^ k) ≡ mask_up_to k (put_port (shows mask) (suc i) b)
unfolding put_port
put_port_lem k mask i b h l =
    let fits : (x : Bool) → digit x * 2 ^ i < 2 ^ k = λ x. lt_of_lt_of_le (digit-shl-lt x i) (pow_mono l) in
    let clear : ℕ = 2 ^ k - 1 - digit true * 2 ^ i in
    rw (mod-eq_of_lt (fits true), mod-eq_of_lt (fits b))
    (is_mask k (bit_or (bit_and mask clear) (digit b * 2 ^ i)) (put_port (shows mask) (suc i) b)
    (or_lt k (bit_and mask clear) (digit b * 2 ^ i) (lt_of_le_of_lt (and_le_l mask clear) h) (fits b))
    (λ p q r. shows-or (bit_and mask clear) (digit b * 2 ^ i) p
    ∙ ap₂ (λ (x y : Bool). x || y)
    (shows-and mask clear p ∙ ap (λ (x : Bool). shows mask p && x) (shows-not k (digit true * 2 ^ i) p (fits true) q r ∙ ap not (shows_one true i p)))
    (shows_one b i p)
    ∙ put_bit (eqb p (suc i)) b (shows mask p)))

pub put_no_port : (k mask port : ℕ) (b : Bool) → mask < 2 ^ k → ((p : ℕ) → 1 ≤ p → p ≤ k → p ≡ port → ⊥)
    → mask ≡ mask_up_to k (put_port (shows mask) port b)
unfolding put_port
put_no_port k mask port b h other =
    is_mask k mask (put_port (shows mask) port b) h
    (λ p q r. sym (ap (λ (t : Bool). (t && b) || (not t && shows mask p)) (ne_eqb p port (other p q r))))
