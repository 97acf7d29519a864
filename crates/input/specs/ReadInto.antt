-- What is known of an input that was read into a buffer: so many bytes stand at its front. Of a read that failed nothing is known.
use Rattle.std.specs.Prelude.{ℕ, List, length, take, ◌≡◌, ◌≤◌, Result, Ok, Err}

-- The front of n bytes lies in the buffer and has n bytes. The second part follows from the first, and spares callers a proof.
abbrev pub IsPrefixLen : ℕ → List ℕ → Type 0
IsPrefixLen n xs = (n ≤ length xs) × (n ≡ length (take n xs))

abbrev pub ReadInto : {E : Type 0} → Result ℕ E → List ℕ → Type 0
ReadInto (Ok n) buffer = IsPrefixLen n buffer
ReadInto (Err e) buffer = Unit {0}
