-- The law of reading and writing numbers: what is read as n is n as it is written, and what is written as n is read as n. Assumes nothing.
use mathlib.Core.Path.{◌≡◌, refl, sym, ap, ◌∙◌}
use mathlib.Core.Bool.{Bool, true, false, not}
use mathlib.Core.Logic.{◌↔◌}
use mathlib.Core.List.{List, [], ◌∷◌, ◌++◌}
use mathlib.Core.Option.{some}
use Prim.Native.Nat.{ℕ, ◌+◌, ◌^◌, ◌≤◌, ◌<◌}
use native.Mathlib.Nat.{pow-le-pow_right}
use native.Mathlib.Omega.{arith}
use borrow.Author.Tests.{leb-true}
use lib.Dec.{leb, eqb}
use lib.ListN.{length, drop}
use Rattle.text.specs.Number.{digits, is_digit, keep_digit, digit_run, well_formed, value_from, read_run, read_number}
use Rattle.text.proofs.Words.{both}
use Rattle.text.proofs.Digits.{AllDigits, value_digits, digits_all, digits_well_formed, digits_value, value_below}

-- the run in front of what starts with no digit
run_all : (ds rest : List ℕ) → AllDigits ds → digit_run rest ≡ [] → digit_run (ds ++ rest) ≡ ds
unfolding digit_run keep_digit
run_all [] rest all h = h
run_all (d ∷ ds) rest all h = rw (all.0, run_all ds rest all.1 h)

-- a run has digits only, the text is the run and what is behind it, and there no digit stands
pub record Run (s run : List ℕ) : Type 0 where
  pub all : AllDigits run
  pub split : s ≡ run ++ drop (length run) s
  pub ends : digit_run (drop (length run) s) ≡ []

pub run_of : (s : List ℕ) → Run s (digit_run s)
unfolding digit_run keep_digit
run_of [] = record { all = tt; split = refl; ends = refl }
run_of (b ∷ s) = go (is_digit b) refl (run_of s)
  where
    go : (t : Bool) → is_digit b ≡ t → Run s (digit_run s) → Run (b ∷ s) (keep_digit (is_digit b) b (digit_run s))
    go true e r = rw e (record { all = (e, r.all); split = ap (λ (x : List ℕ). b ∷ x) r.split; ends = r.ends })
    go false e r = rw e (record { all = tt; split = refl; ends = rw e })

-- n as it is written stands at the front of s, takes k bytes, and no digit follows
pub record Written (s : List ℕ) (n k : ℕ) : Type 0 where
  pub drawn : s ≡ digits n ++ drop k s
  pub taken : k ≡ length (digits n)
  pub small : n < 10 ^ 16
  pub ends : digit_run (drop k s) ≡ []

pub read-written : (n : ℕ) (rest : List ℕ) → n < 10 ^ 16 → digit_run rest ≡ [] → read_number (digits n ++ rest) ≡ some (n, length (digits n))
unfolding read_number read_run
read-written n rest h e =
    rw (run_all (digits n) rest (digits_all n) e, digits_well_formed n h, value_digits n)

-- the number of digits of a run that is a number
well_formed_length : (ds : List ℕ) → well_formed ds ≡ true → length ds ≤ 16
unfolding well_formed
well_formed_length [] w = omega arith
well_formed_length (d ∷ []) w = omega arith
well_formed_length (d ∷ e ∷ ds) w = leb-true (length (d ∷ e ∷ ds)) 16 (both (not (eqb d 48)) (leb (length (d ∷ e ∷ ds)) 16) w).1

run_small : (ds : List ℕ) → AllDigits ds → well_formed ds ≡ true → value_from 0 ds < 10 ^ 16
run_small ds all w =
    let h : value_from 0 ds < 10 ^ (0 + length ds) = value_below 0 0 ds (omega arith) all in
    let l : 0 + length ds ≤ 16 = omega (arith, well_formed_length ds w) in
    let p : 10 ^ (0 + length ds) ≤ 10 ^ 16 = pow-le-pow_right {n = 10} (omega arith) {i = 0 + length ds} {j = 16} l in
    omega arith

pub written_read : (s : List ℕ) (n k : ℕ) → read_number s ≡ some (n, k) → Written s n k
unfolding read_number read_run
written_read s n k h = go (well_formed (digit_run s)) refl h
  where
    go : (t : Bool) → well_formed (digit_run s) ≡ t → read_run t (digit_run s) ≡ some (n, k) → Written s n k
    go false w e = let z : ◌≡◌ {A = ℕ} 0 1 = cc in absurd (omega arith)
    go true w e =
        let r = run_of s in
        let p : ◌≡◌ {A = ℕ × ℕ} (value_from 0 (digit_run s), length (digit_run s)) (n, k) = cc in
        let v : value_from 0 (digit_run s) ≡ n = ap (λ (x : ℕ × ℕ). x.0) p in
        let l : length (digit_run s) ≡ k = ap (λ (x : ℕ × ℕ). x.1) p in
        let d : digits n ≡ digit_run s = rw (← v) (digits_value (digit_run s) r.all w) in
        record {
          drawn = rw (d, ← l) r.split;
          taken = rw d (sym l);
          small = rw (← v) (run_small (digit_run s) r.all w);
          ends = rw (← l) r.ends;
        }

-- the one law
pub number_law : (s : List ℕ) (n k : ℕ) → (read_number s ≡ some (n, k)) ↔ Written s n k
number_law s n k =
    (written_read s n k, λ w. ap read_number w.drawn ∙ read-written n (drop k s) w.small w.ends ∙ rw (← w.taken))
