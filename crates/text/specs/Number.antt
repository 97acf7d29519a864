-- Decimal numbers: how one is written, and what is read as one.
use Rattle.std.specs.Prelude.{ℕ, zero, suc, ◌+◌, ◌-◌, ◌*◌, ◌/◌, ◌%◌, Bool, true, false, not, ◌&&◌, List, [], ◌∷◌, ◌++◌, eqb, leb, ltb, length, Option, Some, None}
use Rattle.std.proofs.Math.Option as math

-- n in decimal, the most significant digit first. The first number bounds the recursion: n + 1 is more than n has digits.
unfoldable pub digits_by : ℕ → ℕ → List ℕ
digits_by zero n = []
digits_by (suc fuel) n =
    elim (ltb n 10) [ true ↦ (48 + n) ∷ [] | false ↦ digits_by fuel (n / 10) ++ ((48 + n % 10) ∷ []) ]

unfoldable pub digits : ℕ → List ℕ
digits n = digits_by (suc n) n

-- byte b is one of `0` to `9`
abbrev pub is_digit : ℕ → Bool
is_digit b = leb 48 b && leb b 57

-- the digits at the front of s, all of them
unfoldable pub keep_digit : Bool → ℕ → List ℕ → List ℕ
keep_digit true b run = b ∷ run
keep_digit false b run = []

unfoldable pub digit_run : List ℕ → List ℕ
digit_run [] = []
digit_run (b ∷ s) = keep_digit (is_digit b) b (digit_run s)

-- what makes a run of digits a number: 1 to 16 digits, with no leading zero except 0 itself
unfoldable pub well_formed : List ℕ → Bool
well_formed [] = false
well_formed (d ∷ []) = true
well_formed (d ∷ e ∷ run) = not (eqb d 48) && leb (length (d ∷ e ∷ run)) 16

-- the value of the digits that follow those that made v
unfoldable pub value_from : ℕ → List ℕ → ℕ
value_from v [] = v
value_from v (d ∷ run) = value_from (v * 10 + (d - 48)) run

-- what is read at the front of s: a number's value and how many bytes it takes, or no number
unfoldable pub read_run : Bool → List ℕ → math.Option (ℕ × ℕ)
read_run true run = math.some (value_from 0 run, length run)
read_run false run = math.none

unfoldable pub read_number : List ℕ → math.Option (ℕ × ℕ)
read_number s = read_run (well_formed (digit_run s)) (digit_run s)

-- as the answer that code gives
abbrev pub option_of : {A : Type 0} → math.Option A → Option A
option_of math.none = None
option_of (math.some x) = Some x
