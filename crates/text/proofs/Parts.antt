-- The part of a text between two places: how long it is, and what is left behind k of its bytes is the part that starts k later.
-- Assumes nothing.
use mathlib.Core.Path.{◌≡◌, sym, ap, ◌∙◌}
use mathlib.Core.List.{List, [], ◌∷◌}
use Prim.Native.Nat.{ℕ, zero, suc, ◌+◌, ◌-◌, min}
use native.Mathlib.Nat.{zero-add, suc-add}
use lib.ListN.{length, take, drop, length-take, length-drop}
use lib.Seq.{drop-drop, take-nil}
use Rattle.text.specs.Part.{part}

module _ (text : List ℕ) (at end : ℕ) where
  pub part_length : length (part text at end) ≡ min end (length text) - at
  part_length = length-drop at (take end text) ∙ ap (λ (n : ℕ). n - at) (length-take end text)

  pub part-drop : (k : ℕ) → drop k (part text at end) ≡ part text (at + k) end
  part-drop k = drop-drop k at (take end text)

-- the part of k bytes from a place on
pub part-take : (text : List ℕ) (at k : ℕ) → part text at (at + k) ≡ take k (drop at text)
part-take text zero k = rw (zero-add k)
part-take [] (suc at) k = rw (suc-add at k) (sym (take-nil k))
part-take (b ∷ text) (suc at) k = rw (suc-add at k) (part-take text at k)
