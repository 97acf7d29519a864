-- The search on a rotated mask: the port behind its trailing zeros, rotated
-- back, is the lowest at or after the pointer, unless it has gone round.
use Rattle.std.specs.Prelude.{Some, None}
use mathlib.Core.Path.{◌≡◌, sym, ap, ap₂, ◌∙◌}
use mathlib.Core.Bool.{Bool, true, false, ◌||◌, or_self, or-false}
use Prim.Native.Nat.{ℕ, zero, suc, ◌+◌, ◌-◌, ◌*◌, ◌/◌, ◌%◌, ◌^◌, ◌≤◌, ◌<◌, max}
use native.Mathlib.Nat.{mod-lt, mod_self, mod-eq_of_lt, mul-one, sub-zero, zero-add, zero-lt-suc}
use native.Mathlib.Omega.{arith}
use lib.Bits.{bit_or}
use lib.Count.{count_trailing_zeros, under}
use lib.Dec.{eqb}
use Rattle.ports.specs.Ports.{ports}
use Rattle.ports.specs.Mask.{shows}
use Rattle.ports.specs.Search.{lowest_from}
use Rattle.ports.proofs.Bits.{shows_first, shows-half, shows-shr, shl-shows-none, shows-or}
use Rattle.ports.proofs.Coding.{shows_cut}
use Rattle.ports.proofs.Laws.{right_lowest}

-- ---- trailing zeros, at any width k

pub zeros_none : (k m i : ℕ) → i < count_trailing_zeros k m → shows m (suc i) ≡ false
unfolding count_trailing_zeros
zeros_none zero m i h = absurd (omega arith)
zeros_none (suc k) m i h = go (m % 2) i (shows_first m) (λ j. zeros_none k (m / 2) j) h
  where
    go : (r i : ℕ) → shows m 1 ≡ eqb r 1 → ((j : ℕ) → j < count_trailing_zeros k (m / 2) → shows (m / 2) (suc j) ≡ false)
        → i < under r (count_trailing_zeros k (m / 2)) → shows m (suc i) ≡ false
    go zero zero first rest h = first
    go zero (suc j) first rest h = sym (shows-half m j) ∙ rest j (omega arith)
    go (suc r) i first rest h = absurd (omega arith)

pub behind_zeros : (k m : ℕ) → count_trailing_zeros k m < k → shows m (suc (count_trailing_zeros k m)) ≡ true
unfolding count_trailing_zeros
behind_zeros zero m h = absurd (omega arith)
behind_zeros (suc k) m h = go (m % 2) (mod-lt m (zero-lt-suc 1)) (shows_first m) (behind_zeros k (m / 2)) h
  where
    t : ℕ
    t = count_trailing_zeros k (m / 2)

    go : (r : ℕ) → r < 2 → shows m 1 ≡ eqb r 1 → (t < k → shows (m / 2) (suc t) ≡ true) → under r t < suc k → shows m (suc (under r t)) ≡ true
    go zero l first rest h = sym (shows-half m t) ∙ rest (omega arith)
    go (suc zero) l first rest h = first
    go (suc (suc r)) l first rest h = absurd (omega arith)

-- ---- rotating, at any width k

-- n shows the ports of m above b, each b lower; of those that have gone round it says nothing
abbrev pub Rotated : ℕ → ℕ → ℕ → ℕ → Type 0
Rotated k b m n = (i : ℕ) → b + i < k → shows n (suc i) ≡ shows m (suc (b + i))

-- two shifts rotate a mask; where b is 0 both are by 0
pub rotated : (k b m : ℕ) → b < k → Rotated k b m (bit_or (m / 2 ^ b) (m * 2 ^ ((k - b) % k) % 2 ^ k))
rotated k b m l i r =
    shows-or (m / 2 ^ b) (m * 2 ^ ((k - b) % k) % 2 ^ k) (suc i)
    ∙ ap₂ (λ (x y : Bool). x || y) (shows-shr m b i) (shows_cut k (m * 2 ^ ((k - b) % k)) (suc i) (omega arith))
    ∙ go b l r
  where
    go : (b : ℕ) → b < k → b + i < k → (shows m (suc (b + i)) || shows (m * 2 ^ ((k - b) % k)) (suc i)) ≡ shows m (suc (b + i))
    go zero l r =
        let whole : m * 2 ^ ((k - 0) % k) ≡ m = ap (λ (x : ℕ). m * 2 ^ x) (ap (λ (x : ℕ). x % k) (sub-zero k) ∙ mod_self k) ∙ mul-one m in
        ap₂ (λ (n j : ℕ). shows m (suc (0 + i)) || shows n (suc j)) whole (sym (zero-add i)) ∙ or_self (shows m (suc (0 + i)))
    go (suc c) l r =
        let none : shows (m * 2 ^ ((k - suc c) % k)) (suc i) ≡ false =
        ap (λ (x : ℕ). shows (m * 2 ^ x) (suc i)) (mod-eq_of_lt (omega arith)) ∙ shl-shows-none m (k - suc c) (suc i) (omega arith) in
        ap (λ (x : Bool). shows m (suc (suc c + i)) || x) none ∙ or-false (shows m (suc (suc c + i)))

-- a mask that is not rotated
pub unrotated : (k m : ℕ) → Rotated k 0 m m
unrotated k m i r = ap (λ (x : ℕ). shows m (suc x)) (sym (zero-add i))

-- ---- the answer

-- a pointer before the first port counts as one at it
module _ (m n pointer first : ℕ) (e : first ≡ max pointer 1) (t : Rotated ports (first - 1) m n) where
  -- port q of the mask is place q - first + 1 of the rotated one
  place : (q : ℕ) (x : Bool) → first ≤ q → q ≤ ports → shows n (suc (q - first)) ≡ x → shows m q ≡ x
  place q x a u w = ap (shows m) (omega arith) ∙ sym (t (q - first) (omega arith)) ∙ w

  none_before : (q : ℕ) → first ≤ q → q ≤ ports → q < count_trailing_zeros ports n + first → shows m q ≡ false
  none_before q a u h = place q false a u (zeros_none ports n (q - first) (omega arith))

  pub rotated_back : count_trailing_zeros ports n + first ≤ ports → lowest_from (shows m) pointer ≡ Some (count_trailing_zeros ports n + first)
  rotated_back h =
      let z = count_trailing_zeros ports n in
      let at : z + first - first ≡ z = omega arith in
      right_lowest (shows m) pointer (Some (z + first))
      record {
        after = omega arith;
        positive = omega arith;
        within = h;
        member = place (z + first) true (omega arith) h (ap (λ (i : ℕ). shows n (suc i)) at ∙ behind_zeros ports n (omega arith));
        least = λ q g a u. none_before q (omega arith) (omega arith) u;
      }

  pub gone_round : ports < count_trailing_zeros ports n + first → lowest_from (shows m) pointer ≡ None
  gone_round h = right_lowest (shows m) pointer None (λ q g a u. none_before q (omega arith) u (omega arith))

pub past_the_last : (f : ℕ → Bool) (pointer : ℕ) → ports < pointer → lowest_from f pointer ≡ None
past_the_last f pointer h = right_lowest f pointer None (λ q l a u. absurd (omega arith))
