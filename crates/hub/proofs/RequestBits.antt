-- What a request's cell says of its length.
use Prim.Native.Nat.{ℕ, ◌%◌, ◌≤◌}
use mathlib.Core.Path.{◌≡◌}
use lib.Dec.{ltb}
use borrow.Author.Tests.{le-ltb}
use Rattle.rules.specs.Core.{bits_of}
use Rattle.rules.proofs.Laws.Passes.{Which, which, yes', no'}
use Rattle.cells.specs.Layout.{half, request_of}

-- the length of a request that stands
pub standing_bits : (x : ℕ) → half ≤ x → x % half ≡ bits_of (request_of x)
standing_bits x h = go (which (ltb x 131072))
  where
    go : Which (ltb x 131072) → x % half ≡ bits_of (request_of x)
    go (yes' e) = rw (le-ltb x half h, e)
    go (no' e) = rw (le-ltb x half h, e)
