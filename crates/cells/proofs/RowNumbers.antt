-- A call over the cells is refused by a number from 11 to 17, by the law of `rules`: its rows have the numbers of those there.
-- 0 is none of these, so it says that no row applies.
use Prim.Native.Nat.{ℕ}
use mathlib.Core.Path.{◌≡◌, refl}
use mathlib.Core.Bool.{false}
use mathlib.Core.List.{List}
use native.Mathlib.Omega.{arith}
use borrow.Author.Tests.{eqb-false}
use lib.Dec.{eqb}
use Rattle.rules.specs.Plan.{Plan}
use Rattle.rules.specs.Call.{Call, ask, off, reserve, until, step}
use Rattle.rules.specs.Rows.{Verdict, accept, refuse, first_row}
use Rattle.rules.proofs.Core.RefusalNumbers.{CallNumber, Numbered, first-has}
use Rattle.rules.proofs.Core.RefusalNumbers as rules
use Rattle.cells.specs.Decode.{plan_in, core_of}
use Rattle.cells.specs.Calls.{rows_by, number_of, row_by}

-- row 12 is tested otherwise there, and its number is the same: so are all numbers of both lists
rows-numbered : (p : Plan) (s : List ℕ) (call : Call) → Numbered (rows_by p s call)
unfolding rows_by
rows-numbered p s (ask c t k b) = rules.rows-numbered p (core_of p s) (ask c t k b)
rows-numbered p s (off t k) = rules.rows-numbered p (core_of p s) (off t k)
rows-numbered p s (reserve t k n b) = rules.rows-numbered p (core_of p s) (reserve t k n b)
rows-numbered p s (until t) = rules.rows-numbered p (core_of p s) (until t)
rows-numbered p s (step t) = rules.rows-numbered p (core_of p s) (step t)

module _ (P s : List ℕ) (call : Call) where
  abbrev verdict : Verdict
  verdict = first_row (rows_by (plan_in P) s call)

  by_law : (n : ℕ) → verdict ≡ refuse n → CallNumber n
  by_law n e = first-has CallNumber (rows_by (plan_in P) s call) (rows-numbered (plan_in P) s call) n e

  pub row_number : eqb (row_by P call s) 0 ≡ false → CallNumber (row_by P call s)
  unfolding row_by
  row_number d = go verdict refl (eqb-false (row_by P call s) 0 d)
    where
      go : (v : Verdict) → verdict ≡ v → (number_of v ≡ 0 → ⊥) → CallNumber (number_of v)
      go accept e d = absurd (d refl)
      go (refuse n) e d = by_law n e

  pub no_row : row_by P call s ≡ 0 → verdict ≡ accept
  unfolding row_by
  no_row z = go verdict refl z
    where
      go : (v : Verdict) → verdict ≡ v → number_of v ≡ 0 → v ≡ accept
      go accept e z = refl
      go (refuse n) e z = absurd (omega (arith, by_law n e))
