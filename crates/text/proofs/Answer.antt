-- What `number_at` answers, by the run of digits at the front: none, more than 16, a zero with a digit behind it, or a number.
-- Assumes nothing.
use mathlib.Core.Path.{◌≡◌, refl, sym}
use mathlib.Core.Bool.{true, false, not}
use mathlib.Core.List.{List, [], ◌∷◌}
use Prim.Native.Nat.{ℕ, zero, suc, ◌+◌, ◌^◌, ◌≤◌, ◌<◌}
use native.Mathlib.Nat.{pow-le-pow_right}
use native.Mathlib.Omega.{arith}
use borrow.Author.Tests.{lt-leb, le-leb, eq-eqb, ne_eqb}
use Rattle.std.proofs.Math.Bool.{and-false}
use lib.Dec.{eqb}
use lib.ListN.{length, get_or, take, length-take}
use Rattle.std.proofs.Common.{Some, None, min, ap, ◌∙◌, Bool}
use Rattle.std.proofs.Math.Nat.{min_comm}
use Rattle.std.proofs.lemmas.List.{take_all, take_min, get_or-take}
use Rattle.text.specs.Number.{is_digit, keep_digit, digit_run, well_formed, value_from, read_run, read_number, option_of}
use Rattle.text.proofs.Run.{digit_range}
use Rattle.text.proofs.Digits.{AllDigits, all_at, all_take, value_below}
use Rattle.text.proofs.Numbers.{run_of}

-- runs that are no number
none_there : (ds : List ℕ) → length ds ≡ 0 → well_formed ds ≡ false
unfolding well_formed
none_there [] h = refl
none_there (d ∷ ds) h = absurd (omega arith)

too_many : (ds : List ℕ) → 16 < length ds → well_formed ds ≡ false
unfolding well_formed
too_many [] h = absurd (omega arith)
too_many (d ∷ []) h = absurd (omega arith)
too_many (d ∷ e ∷ ds) h = rw (lt-leb _ _ h) (and-false (not (eqb d 48)))

zero-first : (ds : List ℕ) → 1 < length ds → get_or ds 0 0 ≡ 48 → well_formed ds ≡ false
unfolding well_formed
zero-first [] h z = absurd (omega arith)
zero-first (d ∷ []) h z = absurd (omega arith)
zero-first (d ∷ e ∷ ds) h z = rw (eq-eqb d 48 z)

-- and those that are one
whole : (ds : List ℕ) → 1 ≤ length ds → length ds ≤ 16 → (1 < length ds → get_or ds 0 0 ≡ 48 → ⊥) → well_formed ds ≡ true
unfolding well_formed
whole [] some few h = absurd (omega arith)
whole (d ∷ []) some few h = refl
whole (d ∷ e ∷ ds) some few h = rw (ne_eqb d 48 (h (omega arith)), le-leb _ _ few)

-- the run of the bytes in front is the front of the run
front_run : (n : ℕ) (s : List ℕ) → digit_run (take n s) ≡ take n (digit_run s)
unfolding digit_run
front_run zero s = refl
front_run (suc n) [] = refl
front_run (suc n) (b ∷ s) = rw (front_run n s) (kept (is_digit b))
  where
    kept : (t : Bool) → keep_digit t b (take n (digit_run s)) ≡ take (suc n) (keep_digit t b (digit_run s))
    kept true = unfold keep_digit in refl
    kept false = unfold keep_digit in refl

module _ (s ds : List ℕ) (run : ds ≡ digit_run s) where
  no_number : well_formed ds ≡ false → None ≡ option_of (read_number s)
  unfolding read_number read_run
  no_number h = rw (rw run at h)

  pub empty_run : length ds ≡ 0 → None ≡ option_of (read_number s)
  empty_run h = no_number (none_there ds h)

  pub long_run : 16 < length ds → None ≡ option_of (read_number s)
  long_run h = no_number (too_many ds h)

  pub zero_run : 1 < length ds → get_or ds 0 0 ≡ 48 → None ≡ option_of (read_number s)
  zero_run h z = no_number (zero-first ds h z)

  pub number_run : 1 ≤ length ds → length ds ≤ 16 → (1 < length ds → get_or ds 0 0 ≡ 48 → ⊥)
      → Some (value_from 0 ds, length ds) ≡ option_of (read_number s)
  unfolding read_number read_run
  number_run some few h = rw (← run, whole ds some few h)

  -- one digit more of the run
  all : AllDigits ds
  all = rw run (run_of s).all

  pub digit_there : (i : ℕ) → i < length ds → (48 ≤ get_or ds i 0) × (get_or ds i 0 ≤ 57)
  digit_there i h = digit_range (get_or ds i 0) (all_at ds i all h)

  pub value_fits : length ds ≤ 16 → (i : ℕ) → i ≤ length ds → value_from 0 (take i ds) < 10 ^ 16
  value_fits few i h =
      let l : 0 + length (take i ds) ≤ 16 = omega (arith, length-take i ds) in
      let b : value_from 0 (take i ds) < 10 ^ (0 + length (take i ds)) = value_below 0 0 (take i ds) (omega arith) (all_take i ds all) in
      let p : 10 ^ (0 + length (take i ds)) ≤ 10 ^ 16 = pow-le-pow_right {n = 10} (omega arith) {i = 0 + length (take i ds)} {j = 16} l in
      omega arith

-- what is looked at of s: the digits at the front of its first m bytes, which are the front of its run
module _ (s ds : List ℕ) (n m : ℕ) (here : n ≡ min (length s) m) (front : ds ≡ digit_run (take n s)) where
  front_of : ds ≡ take m (digit_run s)
  front_of = front ∙ ap (λ (k : ℕ). digit_run (take k s)) (here ∙ min_comm (length s) m) ∙ ap digit_run (take_min m s) ∙ front_run m s

  counted : length ds ≡ min m (length (digit_run s))
  counted = ap length front_of ∙ length-take m (digit_run s)

  -- one digit more of them
  digits_all : AllDigits ds
  digits_all = rw front (run_of (take n s)).all

  pub front_digit : (i : ℕ) → i < length ds → (48 ≤ get_or ds i 0) × (get_or ds i 0 ≤ 57)
  front_digit i h = digit_range (get_or ds i 0) (all_at ds i digits_all h)

  -- 19 digits are below 2 ^ 64
  pub front_fits : length ds ≤ 19 → (i : ℕ) → i ≤ length ds → value_from 0 (take i ds) < 10 ^ 19
  front_fits few i h =
      let l : 0 + length (take i ds) ≤ 19 = omega (arith, length-take i ds) in
      let b : value_from 0 (take i ds) < 10 ^ (0 + length (take i ds)) = value_below 0 0 (take i ds) (omega arith) (all_take i ds digits_all) in
      let p : 10 ^ (0 + length (take i ds)) ≤ 10 ^ 19 = pow-le-pow_right {n = 10} (omega arith) {i = 0 + length (take i ds)} {j = 19} l in
      omega arith

  -- fewer digits than bytes that may be looked at are the whole run
  pub whole_run : length ds < m → ds ≡ digit_run s
  whole_run few = front_of ∙ take_all m (digit_run s) (omega (arith, counted))

  -- and more than 16, or a zero with a digit behind it, are no number, whatever follows
  pub long_front : 16 < length ds → None ≡ option_of (read_number s)
  long_front many = long_run s (digit_run s) refl (omega (arith, counted))

  pub zero_front : 1 < length ds → get_or ds 0 0 ≡ 48 → None ≡ option_of (read_number s)
  zero_front more z =
      zero_run s (digit_run s) refl (omega (arith, counted))
      (sym (get_or-take m (digit_run s) 0 0 (omega (arith, counted))) ∙ ap (λ (l : List ℕ). get_or l 0 0) (sym front_of) ∙ z)
