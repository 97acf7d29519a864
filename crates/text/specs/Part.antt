-- A part of a text by its places.
use Rattle.std.specs.Prelude.{ℕ, ◌+◌, min, ◌≡◌, List, take, drop, length}
use Rattle.std.specs.Borrow.{Bor}

-- the bytes from place `at` up to, not including, place `end`; what lies behind the text's end is not there
abbrev pub part : List ℕ → ℕ → ℕ → List ℕ
part text at end = drop at (take end text)

-- the bytes of a lent text from one place to another, as they stand in it: the
-- same memory, nothing copied. What lies behind the text's end is not there
abbrev pub PartOf : Bor (List ℕ) → ℕ → ℕ → Bor (List ℕ) → Type 0
PartOf text start end r = (r.now ≡ part text.now start end) × (r.ref_ptr.0 ≡ text.ref_ptr.0) × (r.ref_ptr.1 ≡ min start (length text.now) + text.ref_ptr.1)
