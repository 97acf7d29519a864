-- Bytes written from a place on, one piece behind the other: while all of them fit no put is short, and in the end they stand there.
-- Assumes nothing.
use Rattle.std.specs.Prelude.{Option, Some, None}
use mathlib.Core.Path.{◌≡◌, sym, ap, ◌∙◌}
use mathlib.Core.List.{List, [], ◌++◌}
use Prim.Native.Nat.{ℕ, ◌+◌, ◌≤◌}
use native.Mathlib.Nat.{add-zero}
use native.Mathlib.Omega.{arith}
use lib.ListN.{length, take, length-append}
use Rattle.rules.proofs.Laws.Clash.{clash}
use Rattle.writer.specs.Write.{overwrite, put_answer, put_buffer}
use Rattle.writer.proofs.Writes.{overwrite-none, overwrite-length, overwrite-append, take-overwrite, put-fits}

-- buffer e is d with s written from place `start` on, and `at` is the place behind
pub record Wrote (d : List ℕ) (start : ℕ) (s : List ℕ) (at : ℕ) (e : List ℕ) : Type 0 where
  pub place : at ≡ start + length s
  pub bytes : e ≡ overwrite d start s

pub wrote_none : (d : List ℕ) (start : ℕ) → Wrote d start [] start d
wrote_none d start = record { place = sym (add-zero start); bytes = sym (overwrite-none d start) }

module _ {d : List ℕ} {start : ℕ} {s : List ℕ} {at : ℕ} {e : List ℕ} (w : Wrote d start s at e) where
  module _ (t : List ℕ) (room : start + length s + length t ≤ length d) where
    fits : (put_answer e at t ≡ Some (start + length s + length t)) × (put_buffer e at t ≡ overwrite d start (s ++ t))
    fits =
        let p = put-fits (overwrite d start s) (start + length s) t (rw (overwrite-length d start s (omega arith)) room) in
        rw (w.place, w.bytes) (p.0, p.1 ∙ overwrite-append d start s t (omega arith))

    pub wrote_more : (x : ℕ) (f : List ℕ) → Some x ≡ put_answer e at t → f ≡ put_buffer e at t → Wrote d start (s ++ t) x f
    wrote_more x f p q =
        let y : x ≡ start + length s + length t = cc fits.0 in
        record { place = rw (length-append s t) (omega arith); bytes = q ∙ fits.1 }

    -- no put is short
    pub not_short : None ≡ put_answer e at t → ⊥
    not_short p = clash (cc fits.0)

    pub is_behind : {r : Option ℕ} → r ≡ put_answer e at t → r ≡ Some (start + length (s ++ t))
    is_behind p = p ∙ fits.0 ∙ ap Some (rw (length-append s t) (omega arith))

  -- what was written stands there
  pub wrote_front : start ≤ length d → take at e ≡ take start d ++ s
  wrote_front room = rw (w.place, w.bytes) (take-overwrite d start s room)
