-- Reading numbers behind spaces: what one number more gives, and what stops it. Assumes nothing.
use mathlib.Core.Path.{◌≡◌, refl, sym, ap, ◌∙◌}
use mathlib.Core.Bool.{true, false}
use mathlib.Core.List.{List, [], ◌∷◌, ◌++◌}
use mathlib.Core.Option.{Option, none, some}
use Prim.Native.Nat.{ℕ, zero, suc, ◌-◌, ◌≤◌, ◌<◌}
use native.Mathlib.Omega.{arith}
use lib.Dec.{eqb}
use lib.ListN.{length, drop, take, set, get_or, length-append}
use Rattle.std.proofs.Common.{Some, None, nat_eq}
use Rattle.std.proofs.Math.Bool.{and-true}
use Rattle.std.specs.Cmp.Lexicographic.{pointwise}
use Rattle.text.specs.Number.{digits, read_number, option_of}
use Rattle.text.specs.Form.{and_then, read_close, read_spaced, read_numbers, form_of}
use Rattle.text.proofs.Words.{is_pointwise}
use Rattle.text.proofs.Numbers.{written_read}

-- what an answer of code says of the number that is read
pub read_some : (o : Option (ℕ × ℕ)) (v k : ℕ) → Some (v, k) ≡ option_of o → o ≡ some (v, k)
read_some none v k h = cc
read_some (some r) v k h = cc

pub read_none : (o : Option (ℕ × ℕ)) → None ≡ option_of o → o ≡ none
read_none none h = refl
read_none (some r) h = cc

-- a number's bytes are some of the text's
pub number_inside : (s : List ℕ) (v k : ℕ) → read_number s ≡ some (v, k) → k ≤ length s
number_inside s v k h =
    let w = written_read s v k h in
    omega (arith, ap length w.drawn, length-append (digits v) (drop k s), w.taken)

-- the closing bracket, or not
pub closed : (s : List ℕ) → pointwise nat_eq s (41 ∷ []) ≡ true → read_numbers 0 s ≡ some []
unfolding read_numbers read_close
closed s h = rw (sym (is_pointwise (41 ∷ []) s) ∙ h)

pub not_closed : (s : List ℕ) → pointwise nat_eq s (41 ∷ []) ≡ false → read_numbers 0 s ≡ none
unfolding read_numbers read_close
not_closed s h = rw (sym (is_pointwise (41 ∷ []) s) ∙ h)

-- no space where a number is to come
pub no_space : (count : ℕ) (s : List ℕ) → 1 ≤ count → pointwise nat_eq (take 1 s) (32 ∷ []) ≡ false → read_numbers count s ≡ none
unfolding read_numbers read_spaced
no_space zero s h n = absurd (omega arith)
no_space (suc count) [] h n = refl
no_space (suc count) (b ∷ s) h n = rw (sym (and-true (eqb b 32)) ∙ n)

-- a space, and what stands behind it decides
space : (count : ℕ) (s : List ℕ) → pointwise nat_eq (take 1 s) (32 ∷ []) ≡ true
    → read_numbers (suc count) s ≡ read_spaced true (read_number (drop 1 s)) (λ k. read_numbers count (drop k (drop 1 s)))
unfolding read_numbers
space count [] h = cc
space count (b ∷ s) h = rw (sym (and-true (eqb b 32)) ∙ h)

-- numbers that were read, in front of what is read behind them
unfoldable pub in_front : List ℕ → Option (List ℕ) → Option (List ℕ)
in_front [] o = o
in_front (v ∷ vs) o = and_then v (in_front vs o)

in_front_none : (vs : List ℕ) → in_front vs none ≡ none
unfolding in_front and_then
in_front_none [] = refl
in_front_none (v ∷ vs) = rw (in_front_none vs)

in_front_all : (vs : List ℕ) → in_front vs (some []) ≡ some vs
unfolding in_front and_then
in_front_all [] = refl
in_front_all (v ∷ vs) = rw (in_front_all vs)

pub in_front_more : (vs : List ℕ) (v : ℕ) (o : Option (List ℕ)) → in_front vs (and_then v o) ≡ in_front (vs ++ (v ∷ [])) o
unfolding in_front
in_front_more [] v o = refl
in_front_more (w ∷ vs) v o = rw (in_front_more vs v o)

-- the numbers that code hands out
abbrev pub first_four : List ℕ → List ℕ
first_four vs = get_or vs 0 0 ∷ get_or vs 1 0 ∷ get_or vs 2 0 ∷ get_or vs 3 0 ∷ []

-- where nothing is read behind them there is no form, and where the bracket follows they are the form's
pub no_form : (vs : List ℕ) (o all : Option (List ℕ)) → all ≡ in_front vs o → o ≡ none → None ≡ form_of all
unfolding form_of
no_form vs o all e h = sym (ap form_of (e ∙ ap (in_front vs) h ∙ in_front_none vs))

pub whole_form : (vs : List ℕ) (o all : Option (List ℕ)) → all ≡ in_front vs o → o ≡ some [] → Some (first_four vs) ≡ form_of all
unfolding form_of
whole_form vs o all e h = sym (ap form_of (e ∙ ap (in_front vs) h ∙ in_front_all vs))

-- one number more stands behind the others, which stay in their places
pub fourth_or_before : (vs : List ℕ) (v : ℕ) → length vs < 4 → set (first_four vs) (length vs) v ≡ first_four (vs ++ (v ∷ []))
fourth_or_before [] v h = refl
fourth_or_before (a ∷ []) v h = refl
fourth_or_before (a ∷ b ∷ []) v h = refl
fourth_or_before (a ∷ b ∷ c ∷ []) v h = refl
fourth_or_before (a ∷ b ∷ c ∷ d ∷ vs) v h = absurd (omega arith)

pub behind_the_fourth : (vs : List ℕ) (v : ℕ) → 4 ≤ length vs → first_four vs ≡ first_four (vs ++ (v ∷ []))
behind_the_fourth [] v h = absurd (omega arith)
behind_the_fourth (a ∷ []) v h = absurd (omega arith)
behind_the_fourth (a ∷ b ∷ []) v h = absurd (omega arith)
behind_the_fourth (a ∷ b ∷ c ∷ []) v h = absurd (omega arith)
behind_the_fourth (a ∷ b ∷ c ∷ d ∷ vs) v h = refl

-- a number that is to come, by the bytes that code found behind its space
module _ (count : ℕ) (s behind : List ℕ) (more : 1 ≤ count) (here : pointwise nat_eq (take 1 s) (32 ∷ []) ≡ true) (back : behind ≡ drop 1 s) where
  spaced : read_numbers count s ≡ read_spaced true (read_number behind) (λ k. read_numbers (count - 1) (drop k behind))
  spaced =
      let e : count ≡ suc (count - 1) = omega arith in
      ap (λ (n : ℕ). read_numbers n s) e ∙ rw back (space (count - 1) s here)

  pub no_number : None ≡ option_of (read_number behind) → read_numbers count s ≡ none
  unfolding read_spaced
  no_number h = spaced ∙ rw (read_none _ h)

  pub number_more : (v k : ℕ) → Some (v, k) ≡ option_of (read_number behind) → read_numbers count s ≡ and_then v (read_numbers (count - 1) (drop k behind))
  unfolding read_spaced
  number_more v k h = spaced ∙ rw (read_some _ v k h)
