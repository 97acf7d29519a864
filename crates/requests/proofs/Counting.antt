-- The class that a request's cell stands in, one law a way through the tests.
use Prim.Native.Nat.{ℕ, ◌≤◌, ◌<◌}
use mathlib.Core.Path.{◌≡◌}
use mathlib.Core.Bool.{Bool, true, false}
use native.Mathlib.Omega.{arith}
use lib.Dec.{ltb}
use borrow.Author.Tests.{lt-ltb, le-ltb}
use Rattle.rules.proofs.Laws.Passes.{Which, which, yes', no'}
use Rattle.cells.specs.Masks.{stands_in}

module _ (x : ℕ) where
  pub none-stands : (is_high : Bool) → x < 65536 → stands_in is_high x ≡ false
  none-stands true h = simp (lt-ltb x 65536 h)
  none-stands false h = simp (lt-ltb x 65536 h)

  pub normal_stands : 65536 ≤ x → x < 131072 → stands_in false x ≡ true
  normal_stands l h = simp (le-ltb x 65536 l, lt-ltb x 131072 h)

  pub none_high : x < 131072 → stands_in true x ≡ false
  none_high h = go (which (ltb x 65536))
    where
      go : Which (ltb x 65536) → stands_in true x ≡ false
      go (yes' l) = rw l
      go (no' l) = simp (l, lt-ltb x 131072 h)

  pub high_stands : 131072 ≤ x → stands_in true x ≡ true
  high_stands h = simp (le-ltb x 65536 (omega arith), le-ltb x 131072 h)

  pub none_normal : 131072 ≤ x → stands_in false x ≡ false
  none_normal h = simp (le-ltb x 65536 (omega arith), le-ltb x 131072 h)
