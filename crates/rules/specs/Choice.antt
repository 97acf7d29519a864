-- Small words that the other definitions share: one changed value of a table, and a pass over the numbers from 1.
use Rattle.std.specs.Prelude.{ℕ, zero, suc, ◌+◌, Bool, true, false, ◌||◌, eqb, if◌then◌else◌}

-- the table f with v at k
abbrev pub put : {A : Type 0} → (ℕ → A) → ℕ → A → ℕ → A
put f k v j = if eqb j k then v else f j

-- whether f holds of some number from 1 to n
unfoldable pub any : ℕ → (ℕ → Bool) → Bool
any zero f = false
any (suc n) f = any n f || f (suc n)

-- the sum of f over the numbers from 1 to n
unfoldable pub sum : ℕ → (ℕ → ℕ) → ℕ
sum zero f = 0
sum (suc n) f = sum n f + f (suc n)

-- the first of the `count` numbers from `from` on of which f holds, or 0 if there is none
unfoldable pub first : (ℕ → Bool) → ℕ → ℕ → ℕ
first f from zero = 0
first f from (suc count) = if f from then from else first f (from + 1) count
