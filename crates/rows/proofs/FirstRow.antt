-- First the rows of one list, then those of the next: which row of both is the first that applies.
use Prim.Native.Nat.{ℕ, ◌≤◌, ◌<◌}
use mathlib.Core.Path.{◌≡◌, refl}
use mathlib.Core.List.{List, [], ◌∷◌, ◌++◌}
use native.Mathlib.Omega.{arith}
use Rattle.rules.specs.Rows.{Row, Verdict, accept, refuse, first_row}
use Rattle.rules.proofs.Core.CallCases.{Clear}
use Rattle.rules.proofs.Core.RefusalNumbers.{All, first-has}
use Rattle.rules.proofs.Laws.Passes.{Which, which, yes', no'}
use Rattle.cells.specs.declared.Refusal.{Refusal}
use Rattle.cells.specs.declared.Refusal.TheVariants.{OutOfTime, StillDue, NoNode, TooMany, Outside, Unreserved, Overfull}
use Rattle.cells.specs.Step.{refusal_number}
use Rattle.cells.specs.Calls.{number_of}

-- 0, or the number of the first row that applies
abbrev pub row_of : List Row → ℕ
row_of xs = number_of (first_row xs)

pub is_refused : (r : Refusal) → refusal_number r ≡ 0 → ⊥
is_refused OutOfTime z = absurd (omega arith)
is_refused StillDue z = absurd (omega arith)
is_refused NoNode z = absurd (omega arith)
is_refused TooMany z = absurd (omega arith)
is_refused Outside z = absurd (omega arith)
is_refused Unreserved z = absurd (omega arith)
is_refused Overfull z = absurd (omega arith)

-- a row of the first list applies
pub stops : (xs ys : List Row) → (row_of xs ≡ 0 → ⊥) → row_of xs ≡ row_of (xs ++ ys)
stops [] ys h = absurd (h refl)
stops (r ∷ rs) ys h = go (stops rs ys) (which r.applies)
  where
    go : ((row_of rs ≡ 0 → ⊥) → row_of rs ≡ row_of (rs ++ ys)) → Which r.applies → row_of (r ∷ rs) ≡ row_of (r ∷ rs ++ ys)
    go later (yes' e) = rw e
    go later (no' e) = rw e (later (rw e at h))

-- none of the first list applies
pub goes_on : (xs ys : List Row) → Clear xs → row_of ys ≡ row_of (xs ++ ys)
goes_on [] ys h = refl
goes_on (r ∷ rs) ys h = rw h.0 (goes_on rs ys h.1)

-- the number is no greater than those of the rows
pub first_at_most : (most : ℕ) (rs : List Row) → All (λ n. n ≤ most) rs → row_of rs ≤ most
first_at_most most rs all = go (first_row rs) refl
  where
    go : (v : Verdict) → first_row rs ≡ v → number_of v ≤ most
    go accept e = omega arith
    go (refuse n) e = first-has (λ i. i ≤ most) rs all n e

-- where the last row refuses, and those before it have lower numbers, none of those applies
pub before_last : (rs : List Row) (last : Row) → All (λ n. n < last.number) rs → row_of (rs ++ last ∷ []) ≡ last.number → Clear rs
before_last [] last lower e = tt
before_last (r ∷ rs) last lower e = go (which r.applies) (before_last rs last lower.1)
  where
    go : Which r.applies → (row_of (rs ++ last ∷ []) ≡ last.number → Clear rs) → Clear (r ∷ rs)
    go (yes' a) more = absurd (omega (arith, lower.0, rw a at e))
    go (no' a) more = (a, more (rw a at e))
