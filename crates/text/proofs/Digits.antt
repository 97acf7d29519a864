-- The decimal digits of a number: one digit below 10, else the digits of the tenth part and then the last one. Read as a value
-- they give the number again, none of them leads with a zero, and 10 ^ k is where they become more than k. Assumes nothing.
use mathlib.Core.Path.{◌≡◌, refl, sym, ap, ◌∙◌}
use mathlib.Core.Bool.{Bool, true, false, not, false≢true}
use mathlib.Core.List.{List, [], ◌∷◌, ◌++◌, append-nil}
use Prim.Native.Nat.{ℕ, zero, suc, ◌+◌, ◌-◌, ◌*◌, ◌/◌, ◌%◌, ◌^◌, ◌≤◌, ◌<◌}
use native.Mathlib.Nat.{zero-add, add-zero, pow-succ', pow-le-pow_right}
use native.Mathlib.Omega.{arith}
use borrow.Author.Tests.{lt-ltb, le-ltb, ltb-true, ltb-false, eqb-false, ne_eqb, le-leb, not-true}
use lib.Dec.{ltb, leb, eqb}
use lib.ListN.{length, take, get_or, length-append, get_or-append}
use lib.Seq.{append_snoc}
use Rattle.std.proofs.lemmas.List.{take_more}
use Rattle.text.specs.Number.{digits_by, digits, is_digit, well_formed, value_from}
use Rattle.text.proofs.Run.{digit_range, range_digit}
use Rattle.text.proofs.Words.{both}

by_small : (fuel n : ℕ) → n < 10 → digits_by (suc fuel) n ≡ (48 + n) ∷ []
unfolding digits_by
by_small fuel n h = rw (lt-ltb n 10 h, digits_by)

by-more : (fuel n : ℕ) → 10 ≤ n → digits_by (suc fuel) n ≡ digits_by fuel (n / 10) ++ ((48 + n % 10) ∷ [])
unfolding digits_by
by-more fuel n h = rw (le-ltb n 10 h, digits_by)

-- any bound above n gives the same digits
enough : (f g n : ℕ) → n < f → n < g → digits_by f n ≡ digits_by g n
enough zero g n h k = absurd (omega arith)
enough (suc f) zero n h k = absurd (omega arith)
enough (suc f) (suc g) n h k = go (ltb n 10) refl (enough f g (n / 10))
  where
    go : (t : Bool) → ltb n 10 ≡ t → (n / 10 < f → n / 10 < g → digits_by f (n / 10) ≡ digits_by g (n / 10)) → digits_by (suc f) n ≡ digits_by (suc g) n
    go true e ih = by_small f n (ltb-true n 10 e) ∙ sym (by_small g n (ltb-true n 10 e))
    go false e ih =
        let m : 10 ≤ n = ltb-false n 10 e in
        by-more f n m
        ∙ ap (λ (l : List ℕ). l ++ ((48 + n % 10) ∷ [])) (ih (omega arith) (omega arith))
        ∙ sym (by-more g n m)

pub digits_small : (n : ℕ) → n < 10 → digits n ≡ (48 + n) ∷ []
unfolding digits
digits_small n h = by_small n n h

pub digits_more : (n : ℕ) → 10 ≤ n → digits n ≡ digits (n / 10) ++ ((48 + n % 10) ∷ [])
unfolding digits
digits_more n h = by-more n n h ∙ ap (λ (l : List ℕ). l ++ ((48 + n % 10) ∷ [])) (enough n (suc (n / 10)) (n / 10) (omega arith) (omega arith))

-- what holds of the numbers below 10, and of a number if of its tenth part, holds of all
by_tens_below : (P : ℕ → Type 0) → ((n : ℕ) → n < 10 → P n) → ((n : ℕ) → 10 ≤ n → P (n / 10) → P n) → (f n : ℕ) → n < f → P n
by_tens_below P small more zero n h = absurd (omega arith)
by_tens_below P small more (suc f) n h = go (ltb n 10) refl (by_tens_below P small more f (n / 10))
  where
    go : (t : Bool) → ltb n 10 ≡ t → (n / 10 < f → P (n / 10)) → P n
    go true e ih = small n (ltb-true n 10 e)
    go false e ih = let m : 10 ≤ n = ltb-false n 10 e in more n m (ih (omega arith))

pub by_tens : (P : ℕ → Type 0) → ((n : ℕ) → n < 10 → P n) → ((n : ℕ) → 10 ≤ n → P (n / 10) → P n) → (n : ℕ) → P n
by_tens P small more n = by_tens_below P small more (suc n) n (omega arith)

-- one digit more at the end
pub value_append : (v : ℕ) (ds : List ℕ) (d : ℕ) → value_from v (ds ++ (d ∷ [])) ≡ value_from v ds * 10 + (d - 48)
unfolding value_from
value_append v [] d = refl
value_append v (e ∷ ds) d = value_append (v * 10 + (e - 48)) ds d

-- the value of the first digits, one digit more
pub value_more : (ds : List ℕ) (i : ℕ) → i < length ds → value_from 0 (take i ds) * 10 + (get_or ds i 0 - 48) ≡ value_from 0 (take (i + 1) ds)
value_more ds i h = sym (ap (value_from 0) (take_more ds i 0 h) ∙ value_append 0 (take i ds) (get_or ds i 0))

pub value_one : (d : ℕ) → value_from 0 (d ∷ []) ≡ d - 48
unfolding value_from
value_one d = omega arith

pub value_first : (d : ℕ) (ds : List ℕ) → value_from 0 (d ∷ ds) ≡ value_from (d - 48) ds
unfolding value_from
value_first d ds = rw (zero-add (d - 48))

-- the digits of n have the value n
pub value_digits : (n : ℕ) → value_from 0 (digits n) ≡ n
value_digits = by_tens (λ n. value_from 0 (digits n) ≡ n)
    (λ n h. rw (digits_small n h, value_one (48 + n)) (omega arith))
    (λ n h ih. rw (digits_more n h, value_append 0 (digits (n / 10)) (48 + n % 10), ih) (omega arith))

pub digits_some : (n : ℕ) → 1 ≤ length (digits n)
digits_some = by_tens (λ n. 1 ≤ length (digits n))
    (λ n h. rw (digits_small n h) (omega arith))
    (λ n h ih. rw (digits_more n h, length-append (digits (n / 10)) ((48 + n % 10) ∷ [])) (omega arith))

-- below 10 ^ k at most k digits
pub digits-length : (k n : ℕ) → n < 10 ^ suc k → length (digits n) ≤ suc k
digits-length zero n h = rw (digits_small n (omega arith)) (omega arith)
digits-length (suc k) n h = go (ltb n 10) refl (digits-length k (n / 10))
  where
    go : (t : Bool) → ltb n 10 ≡ t → (n / 10 < 10 ^ suc k → length (digits (n / 10)) ≤ suc k) → length (digits n) ≤ suc (suc k)
    go true e ih = rw (digits_small n (ltb-true n 10 e)) (omega arith)
    go false e ih =
        let p : 10 ^ suc (suc k) ≡ 10 * 10 ^ suc k = pow-succ' 10 (suc k) in
        rw (digits_more n (ltb-false n 10 e), length-append (digits (n / 10)) ((48 + n % 10) ∷ [])) (omega (arith, ih (omega arith)))

-- from 10 ^ k on more than k digits
pub digits_reach : (k n : ℕ) → 10 ^ k ≤ n → suc k ≤ length (digits n)
digits_reach zero n h = digits_some n
digits_reach (suc k) n h =
    let p : 10 ^ suc k ≡ 10 * 10 ^ k = pow-succ' 10 k in
    let q : 1 ≤ 10 ^ k = pow-le-pow_right {n = 10} (omega arith) {i = 0} {j = k} (omega arith) in
    let ih : suc k ≤ length (digits (n / 10)) = digits_reach k (n / 10) (omega arith) in
    rw (digits_more n (omega arith), length-append (digits (n / 10)) ((48 + n % 10) ∷ [])) (omega arith)

-- a number above 0 has no zero in front
pub digits_head : (n : ℕ) → 1 ≤ n → get_or (digits n) 0 0 ≡ 48 → ⊥
digits_head = by_tens (λ n. 1 ≤ n → get_or (digits n) 0 0 ≡ 48 → ⊥)
    (λ n h one e. let f : 48 + n ≡ 48 = rw (digits_small n h) at e in omega arith)
    (λ n h ih one e. ih (omega arith)
    (sym (get_or-append (digits (n / 10)) ((48 + n % 10) ∷ []) 0 0 (digits_some (n / 10))) ∙ (rw (digits_more n h) at e)))

-- every byte is a digit
abbrev pub AllDigits : List ℕ → Type 0
AllDigits [] = Unit {0}
AllDigits (d ∷ ds) = (is_digit d ≡ true) × AllDigits ds

all_append : (ds : List ℕ) (d : ℕ) → AllDigits ds → is_digit d ≡ true → AllDigits (ds ++ (d ∷ []))
all_append [] d all h = (h, tt)
all_append (e ∷ ds) d all h = (all.0, all_append ds d all.1 h)

pub all_at : (ds : List ℕ) (i : ℕ) → AllDigits ds → i < length ds → is_digit (get_or ds i 0) ≡ true
all_at [] i all h = absurd (omega arith)
all_at (d ∷ ds) zero all h = all.0
all_at (d ∷ ds) (suc i) all h = all_at ds i all.1 (omega arith)

pub all_take : (i : ℕ) (ds : List ℕ) → AllDigits ds → AllDigits (take i ds)
all_take zero ds all = tt
all_take (suc i) [] all = tt
all_take (suc i) (d ∷ ds) all = (all.0, all_take i ds all.1)

pub digits_all : (n : ℕ) → AllDigits (digits n)
digits_all = by_tens (λ n. AllDigits (digits n))
    (λ n h. rw (digits_small n h) (range_digit (48 + n) (omega arith) (omega arith), tt))
    (λ n h ih. rw (digits_more n h) (all_append (digits (n / 10)) (48 + n % 10) ih (range_digit (48 + n % 10) (omega arith) (omega arith))))

-- and is `0` to `9`
pub digits_range : (n i : ℕ) → i < length (digits n) → (48 ≤ get_or (digits n) i 0) × (get_or (digits n) i 0 ≤ 57)
digits_range n i h = digit_range (get_or (digits n) i 0) (all_at (digits n) i (digits_all n) h)

-- a digit behind a number that is not 0
digits_snoc : (v d : ℕ) → 1 ≤ v → is_digit d ≡ true → digits (v * 10 + (d - 48)) ≡ digits v ++ (d ∷ [])
digits_snoc v d some h =
    let r = digit_range d h in
    let q : (v * 10 + (d - 48)) / 10 ≡ v = omega arith in
    let m : 48 + (v * 10 + (d - 48)) % 10 ≡ d = omega arith in
    digits_more (v * 10 + (d - 48)) (omega arith) ∙ rw (q, m)

pub digits-behind : (v : ℕ) (ds : List ℕ) → 1 ≤ v → AllDigits ds → digits (value_from v ds) ≡ digits v ++ ds
unfolding value_from
digits-behind v [] some all = sym (append-nil (digits v))
digits-behind v (d ∷ ds) some all =
    digits-behind (v * 10 + (d - 48)) ds (omega arith) all.1
    ∙ rw (digits_snoc v d some all.0) (append_snoc (digits v) d ds)

-- digits that are a number's are the digits of their value
pub digits_value : (ds : List ℕ) → AllDigits ds → well_formed ds ≡ true → digits (value_from 0 ds) ≡ ds
unfolding well_formed
digits_value [] all w = absurd (false≢true w)
digits_value (d ∷ []) all w =
    let r = digit_range d all.0 in
    let e : 48 + (d - 48) ≡ d = omega arith in
    rw (value_one d, digits_small (d - 48) (omega arith), e)
digits_value (d ∷ e ∷ run) all w =
    let r = digit_range d all.0 in
    let n = eqb-false d 48 (not-true (eqb d 48) (both (not (eqb d 48)) (leb (length (d ∷ e ∷ run)) 16) w).0) in
    let f : 48 + (d - 48) ≡ d = omega arith in
    rw (value_first d (e ∷ run)) (digits-behind (d - 48) (e ∷ run) (omega arith) all.1 ∙ rw (digits_small (d - 48) (omega arith), f))

-- a value of k digits is below 10 ^ k
pub value_below : (j v : ℕ) (ds : List ℕ) → v < 10 ^ j → AllDigits ds → value_from v ds < 10 ^ (j + length ds)
unfolding value_from
value_below j v [] h all = rw (add-zero j) h
value_below j v (d ∷ ds) h all =
    let r = digit_range d all.0 in
    let e : j + suc (length ds) ≡ suc j + length ds = omega arith in
    rw e (value_below (suc j) (v * 10 + (d - 48)) ds (rw (pow-succ' 10 j) (omega arith)) all.1)

-- a number with two digits or more is not 0
two_digits : (n : ℕ) → 2 ≤ length (digits n) → 1 ≤ n
two_digits zero h = absurd (omega (arith, ap length (digits_small 0 (omega arith))))
two_digits (suc n) h = omega arith

-- fewer than 17 digits, and no zero in front of others
pub digits_well_formed : (n : ℕ) → n < 10 ^ 16 → well_formed (digits n) ≡ true
unfolding well_formed
digits_well_formed n h = go (digits n) refl
  where
    go : (ds : List ℕ) → digits n ≡ ds → well_formed ds ≡ true
    go [] e = absurd (omega (arith, digits_some n, ap length e))
    go (d ∷ []) e = refl
    go (d ∷ f ∷ run) e =
        let l : length (digits n) ≤ 16 = digits-length 15 n h in
        let m : length (digits n) ≡ suc (suc (length run)) = ap length e in
        let some : 1 ≤ n = two_digits n (omega arith) in
        let o : (d ≡ 48 → ⊥) = λ q. digits_head n some (ap (λ (x : List ℕ). get_or x 0 0) e ∙ q) in
        rw (ne_eqb d 48 o, le-leb (suc (suc (length run))) 16 (omega arith))
