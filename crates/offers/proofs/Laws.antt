-- The offers of a table of numbers, and the buffer with their answers: so far, and at last.
use Prim.Native.Nat.{ℕ, zero, suc, ◌+◌, ◌*◌, ◌/◌, ◌%◌, ◌≤◌, ◌<◌}
use mathlib.Core.Path.{◌≡◌, refl, sym, ap, ◌∙◌}
use mathlib.Core.List.{List, [], ◌∷◌}
use native.Mathlib.Omega.{arith}
use native.Mathlib.Numerals.{add-one}
use borrow.Author.Tests.{eq-eqb, ne_eqb, ltb-false}
use lib.Dec.{eqb, ltb}
use lib.ListN.{length, get_or, set}
use lib.Seq.{paste, paste-zero, paste-suc}
use Rattle.rules.specs.Rows.{first_row}
use Rattle.rules.proofs.Laws.Passes.{Which, which, yes', no'}
use Rattle.writer.proofs.Writes.{paste_all}
use Rattle.cells.specs.declared.Misfit.{Misfit}
use Rattle.cells.specs.declared.Misfit.TheVariants.{Malformed, TooLong}
use Rattle.cells.specs.Step.{misfit_number}
use Rattle.cells.specs.Calls.{number_of}
use Rattle.offers.specs.Offers.{Offer, offers_in, answer_to, answers_to, row1, row18, offers_row, offers_left}

pub is_misfit : (m : Misfit) → misfit_number m ≡ 0 → ⊥
is_misfit Malformed z = absurd (omega arith)
is_misfit TooLong z = absurd (omega arith)

-- offer i of a table
abbrev pub offer_at : List ℕ → ℕ → Offer
offer_at ns i = record { node = get_or ns (i * 3) 0; packets = get_or ns (i * 3 + 1) 0; bits = get_or ns (i * 3 + 2) 0 }

pub offers_count : (ns : List ℕ) → length (offers_in ns) ≡ length ns / 3
unfolding offers_in
offers_count [] = refl
offers_count (k ∷ []) = refl
offers_count (k ∷ n ∷ []) = refl
offers_count (k ∷ n ∷ b ∷ more) = omega (arith, offers_count more)

-- behind one offer
shifted : (k n b : ℕ) (more : List ℕ) (i : ℕ) → offer_at (k ∷ n ∷ b ∷ more) (suc i) ≡ offer_at more i
shifted k n b more i =
    let ns = k ∷ n ∷ b ∷ more in
    let at0 : suc i * 3 ≡ suc (suc (suc (i * 3))) = omega arith in
    let at1 : suc i * 3 + 1 ≡ suc (suc (suc (i * 3 + 1))) = omega arith in
    let at2 : suc i * 3 + 2 ≡ suc (suc (suc (i * 3 + 2))) = omega arith in
    λ j. record { node = get_or ns (at0 j) 0; packets = get_or ns (at1 j) 0; bits = get_or ns (at2 j) 0 }

pub answers_count : (P : List ℕ) (t : ℕ) (s : List ℕ) (offers : List Offer) → length (answers_to P t s offers) ≡ length offers
unfolding answers_to
answers_count P t s [] = refl
answers_count P t s (o ∷ more) = ap suc (answers_count P t _ more)

-- answer i is by offer i and the table alone
pub offer_at_lem : (P : List ℕ) (t : ℕ) (s ns : List ℕ) (i : ℕ) → i < length ns / 3 → get_or (answers_to P t s (offers_in ns)) i 0 ≡ answer_to P t s (offer_at ns i)
unfolding answers_to offers_in
offer_at_lem P t s [] i l = absurd (omega arith)
offer_at_lem P t s (k ∷ []) i l = absurd (omega arith)
offer_at_lem P t s (k ∷ n ∷ []) i l = absurd (omega arith)
offer_at_lem P t s (k ∷ n ∷ b ∷ more) zero l = refl
offer_at_lem P t s (k ∷ n ∷ b ∷ more) (suc i) l = offer_at_lem P t s more i (omega arith) ∙ ap (answer_to P t s) (sym (shifted k n b more i))

module _ (P : List ℕ) (t : ℕ) (s : List ℕ) (ns buffer : List ℕ) where
  abbrev answers : List ℕ
  answers = answers_to P t s (offers_in ns)

  many : length answers ≡ length ns / 3
  many = answers_count P t s (offers_in ns) ∙ offers_count ns

  -- where no row refuses the call there is a byte for each answer
  pub has_room : offers_row ns buffer ≡ 0 → length ns / 3 ≤ length buffer
  unfolding offers_row
  has_room z = go (which (eqb (length ns % 3) 0)) (which (ltb 64 (length (offers_in ns)))) (which (ltb (length buffer) (length (offers_in ns)))) z
    where
      go : Which (eqb (length ns % 3) 0) → Which (ltb 64 (length (offers_in ns))) → Which (ltb (length buffer) (length (offers_in ns)))
          → number_of (first_row (row1 ns ∷ row18 ns buffer ∷ [])) ≡ 0 → length ns / 3 ≤ length buffer
      go (no' a) _ _ e = absurd (omega (arith, rw a at e))
      go (yes' a) (yes' b) _ e = absurd (omega (arith, rw (a, b) at e))
      go (yes' a) (no' b) (yes' d) e = absurd (omega (arith, rw (a, b, d) at e))
      go (yes' a) (no' b) (no' d) e = omega (arith, ltb-false (length buffer) (length (offers_in ns)) d, offers_count ns)

  -- the buffer with the first answers written
  unfoldable pub so_far : ℕ → List ℕ
  so_far i = paste buffer 0 answers i

  pub at_first : buffer ≡ so_far 0
  unfolding so_far
  at_first = paste-zero buffer 0 answers

  pub one_more : (i : ℕ) → i < length ns / 3 → length ns / 3 ≤ length buffer → (x : ℕ) → x ≡ answer_to P t s (offer_at ns i) → set (so_far i) i x ≡ so_far (i + 1)
  unfolding so_far
  one_more i l h x e =
      let at : i ≡ 0 + i = omega arith in
      ap (set (paste buffer 0 answers i) i) (e ∙ sym (offer_at_lem P t s ns i l))
      ∙ ap (λ (k : ℕ). set (paste buffer 0 answers i) k (get_or answers i 0)) at
      ∙ paste-suc buffer 0 answers i 0 (omega arith) (omega (arith, many))
      ∙ ap (paste buffer 0 answers) (sym (add-one i))

  pub at_last : offers_row ns buffer ≡ 0 → so_far (length ns / 3) ≡ offers_left P t s ns buffer
  unfolding so_far offers_left
  at_last z = rw (eq-eqb _ _ z) (ap (paste buffer 0 answers) (sym many) ∙ paste_all buffer 0 answers)

  pub none_written : {r : ℕ} → r ≡ offers_row ns buffer → (r ≡ 0 → ⊥) → buffer ≡ offers_left P t s ns buffer
  unfolding offers_left
  none_written e h = rw (ne_eqb (offers_row ns buffer) 0 (λ z. h (e ∙ z)))
