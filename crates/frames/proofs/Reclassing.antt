-- What becomes of a request's cell at a frame's start, one law a way through the tests.
use Prim.Native.Nat.{ℕ, ◌+◌, ◌/◌, ◌%◌, ◌≤◌, ◌<◌}
use mathlib.Core.Path.{◌≡◌}
use native.Mathlib.Omega.{arith}
use borrow.Author.Tests.{lt-ltb, le-ltb, eq-eqb, ne_eqb}
use Rattle.rules.specs.Core.{reclassed}
use Rattle.cells.specs.Layout.{request_of, request_code, share_of}

module _ (share x : ℕ) where
  abbrev becomes : ℕ
  becomes = request_code (reclassed (share_of share) (request_of x))

  pub stays_away : x < 65536 → 0 ≡ becomes
  stays_away h = simp (lt-ltb x 65536 h)

  pub stays_normal : 65536 ≤ x → x < 131072 → 65536 + x % 65536 ≡ becomes
  stays_normal h l = simp (le-ltb x 65536 h, lt-ltb x 131072 l)

  pub unreserved_normal : 131072 ≤ x → share < 65536 → 65536 + x % 65536 ≡ becomes
  unreserved_normal h r =
      simp (le-ltb x 65536 (omega arith), le-ltb x 131072 h, eq-eqb (share / 65536) 0 (omega arith))

  pub longer_normal : 131072 ≤ x → 65536 ≤ share → share % 65536 < x % 65536 → 65536 + x % 65536 ≡ becomes
  longer_normal h r l =
      simp
      (le-ltb x 65536 (omega arith), le-ltb x 131072 h, ne_eqb (share / 65536) 0 (λ e. omega arith), lt-ltb (share % 65536) (x % 65536) l)

  pub stays_high : 131072 ≤ x → 65536 ≤ share → x % 65536 ≤ share % 65536 → 131072 + x % 65536 ≡ becomes
  stays_high h r l =
      simp
      (le-ltb x 65536 (omega arith), le-ltb x 131072 h, ne_eqb (share / 65536) 0 (λ e. omega arith), le-ltb (share % 65536) (x % 65536) l)
