-- Each byte is the answer of the single call, the bytes behind the answers stay, and a refused call writes none.
use Prim.Native.Nat.{ℕ, ◌+◌, ◌-◌, ◌*◌, ◌/◌, ◌%◌, ◌≤◌, ◌<◌}
use mathlib.Core.Path.{◌≡◌, refl, sym, ap, ◌∙◌}
use mathlib.Core.Bool.{not, ◌||◌}
use mathlib.Core.List.{List, [], ◌∷◌, ◌++◌}
use native.Mathlib.Omega.{arith}
use borrow.Author.Tests.{eq-eqb, ne_eqb, lt-ltb, le-ltb, eqb-true, eqb-false}
use lib.Dec.{eqb, ltb}
use lib.ListN.{length, get_or, drop, get_or-append}
use lib.Seq.{get_or-append-add, get_or-drop}
use Rattle.rules.specs.Rows.{first_row}
use Rattle.rules.proofs.Laws.Passes.{Which, which, yes', no'}
use Rattle.writer.proofs.Writes.{overwrite-length}
use Rattle.cells.specs.Calls.{number_of}
use Rattle.offers.specs.Offers.{offers_in, answers_to, most_offers, offers_row, offers_left}
use Rattle.offers.proofs.Laws.{offers_count, answers_count, offer_at_lem, has_room, none_written}
use Rattle.offers_theory.specs.Single.{Singly}

-- the number is by how many numbers there are
unfoldable pub row_of : ℕ → List ℕ → ℕ
row_of n buffer =
    number_of
    (first_row
    (record { number = 1; applies = not (eqb (n % 3) 0) }
    ∷ record { number = 18; applies = ltb most_offers (n / 3) || ltb (length buffer) (n / 3) } ∷ []))

pub by_length : (numbers buffer : List ℕ) → offers_row numbers buffer ≡ row_of (length numbers) buffer
unfolding offers_row row_of
by_length numbers buffer = rw (offers_count numbers)

-- of m offers
module _ (n m : ℕ) (buffer : List ℕ) (e : n ≡ m * 3) where
  whole : eqb (n % 3) 0 ≡ eqb 0 0
  whole = eq-eqb (n % 3) 0 (omega arith)

  row_answered : m ≤ 64 → m ≤ length buffer → row_of n buffer ≡ 0
  unfolding row_of
  row_answered few room = rw (whole, le-ltb 64 (n / 3) (omega arith), le-ltb (length buffer) (n / 3) (omega arith))

  row_many : 64 < m → row_of n buffer ≡ 18
  unfolding row_of
  row_many many = rw (whole, lt-ltb 64 (n / 3) (omega arith))

  row_short : length buffer < m → row_of n buffer ≡ 18
  unfolding row_of
  row_short short = go (which (ltb 64 (n / 3)))
    where
      go : Which (ltb 64 (n / 3)) → row_of n buffer ≡ 18
      go (yes' f) = rw (whole, f)
      go (no' f) = rw (whole, f, lt-ltb (length buffer) (n / 3) (omega arith))

row_torn : (n : ℕ) (buffer : List ℕ) → (n % 3 ≡ 0 → ⊥) → row_of n buffer ≡ 1
unfolding row_of
row_torn n buffer h = rw (ne_eqb (n % 3) 0 h)

module _ (P : List ℕ) (t : ℕ) (s numbers buffer : List ℕ) where
  abbrev answers : List ℕ
  answers = answers_to P t s (offers_in numbers)

  abbrev left : List ℕ
  left = offers_left P t s numbers buffer

  many : length answers ≡ length numbers / 3
  many = answers_count P t s (offers_in numbers) ∙ offers_count numbers

  module _ (z : offers_row numbers buffer ≡ 0) where
    pub left_is : left ≡ answers ++ drop (0 + length answers) buffer
    unfolding offers_left
    left_is = rw (eq-eqb (offers_row numbers buffer) 0 z)

    pub byte_at : (i : ℕ) → i < length numbers / 3 → get_or left i 0 ≡ get_or answers i 0
    byte_at i l =
        ap (λ (b : List ℕ). get_or b i 0) left_is ∙ get_or-append answers (drop (0 + length answers) buffer) 0 i (omega (arith, many))

    byte_behind : (i : ℕ) → length numbers / 3 ≤ i → get_or left i 0 ≡ get_or buffer i 0
    byte_behind i l =
        let n = length answers in
        let at : i ≡ n + (i - n) = omega (arith, many) in
        let back : 0 + n + (i - n) ≡ i = omega (arith, many) in
        ap (λ (b : List ℕ). get_or b i 0) left_is
        ∙ ap (λ (j : ℕ). get_or (answers ++ drop (0 + n) buffer) j 0) at
        ∙ get_or-append-add answers (drop (0 + n) buffer) (i - n) 0
        ∙ get_or-drop (0 + n) buffer (i - n) 0
        ∙ ap (λ (j : ℕ). get_or buffer j 0) back

    left_long : length left ≡ length buffer
    left_long = ap length left_is ∙ overwrite-length buffer 0 answers (omega (arith, many, has_room P t s numbers buffer z))

  -- what holds of the buffer that was written and of the one that wasn't
  either : (Q : List ℕ → Type 0) → Q buffer → (offers_row numbers buffer ≡ 0 → Q left) → Q left
  either Q was now = go (which (eqb (offers_row numbers buffer) 0))
    where
      go : Which (eqb (offers_row numbers buffer) 0) → Q left
      go (yes' z) = now (eqb-true (offers_row numbers buffer) 0 z)
      go (no' z) = rw (← none_written P t s numbers buffer refl (eqb-false (offers_row numbers buffer) 0 z)) was

  pub stays_behind : (i : ℕ) → length numbers / 3 ≤ i → get_or left i 0 ≡ get_or buffer i 0
  stays_behind i l = either (λ b. get_or b i 0 ≡ get_or buffer i 0) refl (λ z. byte_behind z i l)

  pub as_long : length left ≡ length buffer
  as_long = either (λ b. length b ≡ length buffer) refl left_long

pub singly : (P : List ℕ) (t : ℕ) (s : List ℕ) → Singly P t s
singly P t s numbers buffer r left w =
    let row = w.0 ∙ by_length numbers buffer in
    let n = length numbers in
    record {
      answered = λ m e few room. row ∙ row_answered n m buffer e few room;
      too_many = λ m e over. row ∙ row_many n m buffer e over;
      too_short = λ m e short. row ∙ row_short n m buffer e short;
      torn = λ h. row ∙ row_torn n buffer h;
      single = λ e i l row z made.
          ap (λ (b : List ℕ). get_or b i 0) w.1 ∙ byte_at P t s numbers buffer (sym w.0 ∙ e) i (omega arith)
          ∙ offer_at_lem P t s numbers i (omega arith) ∙ sym made.0;
      behind = λ i l. ap (λ (b : List ℕ). get_or b i 0) w.1 ∙ stays_behind P t s numbers buffer i (omega arith);
      as_long = ap length w.1 ∙ as_long P t s numbers buffer;
      refused = λ h. w.1 ∙ sym (none_written P t s numbers buffer w.0 h);
    }
