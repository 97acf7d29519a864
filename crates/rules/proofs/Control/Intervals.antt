-- Intervals of numbers, those above a and up to z, and what f says of them.
-- A row of consecutive intervals is shown by the tests of its parts.
use Prim.Native.Nat.{ℕ, zero, suc, ◌+◌, ◌≤◌, ◌<◌}
use mathlib.Core.Path.{◌≡◌, refl, subst}
use mathlib.Core.Bool.{Bool, true, false, ◌||◌}
use native.Mathlib.Omega.{arith}
use native.Mathlib.Numerals.{add-one}
use lib.Dec.{leb}
use borrow.Author.Tests.{leb-true, leb-false}
use Rattle.rules.specs.Choice.{any}
use Rattle.rules.specs.Drawn.{Within}
use Rattle.rules.proofs.Laws.Passes.{Which, which, yes', no', true-false, or_left, or_right, or_both}

-- f holds of some number above a and up to z
pub record Counts (f : ℕ → Bool) (a z : ℕ) : Type 0 where
  pub number : ℕ
  pub past : a < number
  pub up : number ≤ z
  pub holds : f number ≡ true

-- z is not before a, and f holds of no number above a and up to z
pub record Clear (f : ℕ → Bool) (a z : ℕ) : Type 0 where
  pub low : a ≤ z
  pub none : (k : ℕ) → a < k → k ≤ z → f k ≡ false

-- the test b tells whether f holds of some number above a and up to z
pub data Shown (f : ℕ → Bool) (a z : ℕ) (b : Bool) : Type 0 where
  some : b ≡ true → Counts f a z → Shown f a z b
  clear : b ≡ false → Clear f a z → Shown f a z b

pub counts_clear : {f : ℕ → Bool} {a z : ℕ} → Counts f a z → Clear f a z → ⊥
counts_clear s n = true-false s.holds (n.none s.number s.past s.up)

pub counts_wider : {f : ℕ → Bool} {a b y z : ℕ} → a ≤ b → y ≤ z → Counts f b y → Counts f a z
counts_wider l u s = record { number = s.number; past = omega arith; up = omega arith; holds = s.holds }

pub clear_narrower : {f : ℕ → Bool} {a b y z : ℕ} → a ≤ b → b ≤ y → y ≤ z → Clear f a z → Clear f b y
clear_narrower l m u n = record { low = m; none = λ k h i. n.none k (omega arith) (omega arith) }

pub clear_join : {f : ℕ → Bool} {a m z : ℕ} → Clear f a m → Clear f m z → Clear f a z
clear_join {f} {a} {m} {z} n o = record { low = omega arith; none = λ k h i. go k h i (which (leb k m)) }
  where
    go : (k : ℕ) → a < k → k ≤ z → Which (leb k m) → f k ≡ false
    go k h i (yes' e) = n.none k h (leb-true k m e)
    go k h i (no' e) = o.none k (leb-false k m e) i

pub clear_none : (f : ℕ → Bool) (a : ℕ) → Clear f a a
clear_none f a = record { low = omega arith; none = λ k h i. absurd (omega arith) }

pub shown_low : {f : ℕ → Bool} {a z : ℕ} {b : Bool} → Shown f a z b → a ≤ z
shown_low (some e s) = omega (arith, s.past, s.up)
shown_low (clear e n) = n.low

pub shown_counts : {f : ℕ → Bool} {a z : ℕ} {b : Bool} → Shown f a z b → b ≡ true → Counts f a z
shown_counts (some e s) t = s
shown_counts (clear e n) t = absurd (true-false t e)

pub shown_clear : {f : ℕ → Bool} {a z : ℕ} {b : Bool} → Shown f a z b → b ≡ false → Clear f a z
shown_clear (some e s) t = absurd (true-false e t)
shown_clear (clear e n) t = n

pub shown_join : {f : ℕ → Bool} {a m z : ℕ} {b d : Bool} → Shown f a m b → Shown f m z d → Shown f a z (b || d)
shown_join {b = b} {d = d} (some e s) (some h t) = some (or_left b d e) (counts_wider (omega arith) (omega (arith, t.past, t.up)) s)
shown_join {b = b} {d = d} (some e s) (clear h n) = some (or_left b d e) (counts_wider (omega arith) n.low s)
shown_join {b = b} {d = d} (clear e n) (some h t) = some (or_right b d h) (counts_wider n.low (omega arith) t)
shown_join {b = b} {d = d} (clear e n) (clear h o) = clear (or_both b d e h) (clear_join n o)

-- the row of intervals from a 1 up to a (n + 1)
pub shown_all : (f : ℕ → Bool) (a : ℕ → ℕ) (s : ℕ → Bool) (n : ℕ) → ((q : ℕ) → Within n q → Shown f (a q) (a (q + 1)) (s q))
    → Shown f (a 1) (a (n + 1)) (any n s)
unfolding any
shown_all f a s zero h = clear refl (clear_none f (a 1))
shown_all f a s (suc n) h =
    shown_join
    (rw add-one at (shown_all f a s n (λ q w. h q (record { low = w.low; up = omega arith }))))
    (h (suc n) (record { low = omega arith; up = omega arith }))

-- the row of intervals from a q up to a z
pub clear_row : (f : ℕ → Bool) (a : ℕ → ℕ) (n q z : ℕ) → z ≡ q + n → ((j : ℕ) → q ≤ j → j < z → Clear f (a j) (a (j + 1))) → Clear f (a q) (a z)
clear_row f a zero q z e h = subst (λ (j : ℕ). Clear f (a q) (a j)) (omega arith) (clear_none f (a q))
clear_row f a (suc n) q z e h =
    clear_join (h q (omega arith) (omega arith)) (clear_row f a n (q + 1) z (omega arith) (λ j l u. h j (omega arith) u))
