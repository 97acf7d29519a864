-- `writer::digits_to` meets its contract. The loop's invariant: the last digits of the number stand in the buffer from `place` on, and
-- `rest` is the value of those that are to stand before them. Assumes nothing.
use Rattle.std.proofs.Common.{◌≡◌, sym, ap, ◌∙◌, List, ◌∷◌, ℕ, ◌+◌, ◌-◌, ◌/◌, ◌%◌, ◌≤◌, ◌<◌, length, take, drop, get_or, set, drop-cons, length-drop, add-one, arith}
use lib.ListN.{drop_of_length-le}
use lib.Seq.{take-length}
use Rattle.text.specs.Number.{digits, value_from}
use Rattle.text.proofs.Digits.{value_digits, value_more, digits_range, digits_some}
use Rattle.writer.specs.Write.{overwrite}
use Rattle.writer.proofs.Writes.{overwrite-none, overwrite-cons}
use Rattle.writer.proofs.digits_to.Goals as goal

-- behind all of the digits nothing is written yet
begun : (d : List ℕ) (p m n : ℕ) → m ≡ length (digits n) → (n ≡ value_from 0 (take m (digits n))) × (d ≡ overwrite d p (drop m (digits n)))
begun d p m n e = (
  sym (ap (λ (k : ℕ). value_from 0 (take k (digits n))) e ∙ ap (value_from 0) (take-length (digits n)) ∙ value_digits n),
  sym (ap (overwrite d p) (drop_of_length-le (digits n) {i = m} (omega arith)) ∙ overwrite-none d p),
)

-- one digit before those that stand there
before : (m n rest : ℕ) → m < length (digits n) → rest ≡ value_from 0 (take (m + 1) (digits n))
    → (rest / 10 ≡ value_from 0 (take m (digits n))) × (48 + rest % 10 ≡ get_or (digits n) m 0)
before m n rest inside e =
    let r = digits_range n m inside in
    let v = value_more (digits n) m inside in
    (omega (arith, e, r.0, r.1, v), omega (arith, e, r.0, r.1, v))

one_more : (d b : List ℕ) (p m n x : ℕ) → m < length (digits n) → p + length (drop m (digits n)) ≤ length d
    → b ≡ overwrite d (p + 1) (drop (m + 1) (digits n)) → x ≡ get_or (digits n) m 0 → set b p x ≡ overwrite d p (drop m (digits n))
one_more d b p m n x inside room e h =
    let c : drop m (digits n) ≡ get_or (digits n) m 0 ∷ drop (m + 1) (digits n) = rw add-one (drop-cons (digits n) m 0 inside) in
    rw (e, h) (overwrite-cons d p (get_or (digits n) m 0) (drop (m + 1) (digits n)) (omega (arith, ap length c)) ∙ ap (overwrite d p) (sym c))

-- the places of two equal counts
same : (d : List ℕ) (p q m k n : ℕ) → p ≡ q → m ≡ k → overwrite d p (drop m (digits n)) ≡ overwrite d q (drop k (digits n))
same d p q m k n e f = rw (e, f)

pub loop-place-init : goal.loop-place-init
loop-place-init c =
    let a = c.args in
    let p : ℕ = a.at + c.number_length.result in
    let b = begun a.buffer.now p (p - a.at) a.value (omega (arith, c.number_length.ensures)) in
    (omega (arith, c.number_length.ensures, digits_some a.value), b.0, b.1)

pub loop-place-preserved : goal.loop-place-preserved
loop-place-preserved c =
    let a = c.args in
    let s = c.loop-place in
    let p : ℕ = s.place - 1 in
    let m : ℕ = p - a.at in
    let e : s.place - a.at ≡ m + 1 = omega arith in
    let inside : m < length (digits a.value) = omega (arith, c.number_length.ensures) in
    let b = before m a.value s.rest inside (s.invariant.1 ∙ ap (λ (k : ℕ). value_from 0 (take k (digits a.value))) e) in (
      omega arith,
      omega (arith, b.0),
      ap (λ (j : ℕ). set s.buffer j (48 + s.rest % 10)) (omega arith)
          ∙ one_more a.buffer.now s.buffer p m a.value (48 + s.rest % 10) inside (omega (arith, length-drop m (digits a.value), c.requires))
          (s.invariant.2 ∙ same a.buffer.now s.place (p + 1) (s.place - a.at) (m + 1) a.value (omega arith) e) b.1,
    )

nothing : (n : ℕ) → value_from 0 (take 0 (digits n)) ≡ 0
unfolding value_from
nothing n = λ i. 0

-- the first digit is what is left
first : (n rest : ℕ) → rest ≡ value_from 0 (take 1 (digits n)) → (rest ≤ 9) × (48 + rest ≡ get_or (digits n) 0 0)
first n rest e =
    let r = digits_range n 0 (digits_some n) in
    let v = value_more (digits n) 0 (digits_some n) in
    (omega (arith, e, r.0, r.1, v, nothing n), omega (arith, e, r.0, r.1, v, nothing n))

-- behind the loop one digit is left
alone : (at place rest n : ℕ) → at + 1 ≤ place → place ≤ at + 1 → rest ≡ value_from 0 (take (place - at) (digits n)) → rest ≡ value_from 0 (take 1 (digits n))
alone at place rest n low high e = e ∙ ap (λ (k : ℕ). value_from 0 (take k (digits n))) {y = 1} (omega arith)

pub overflow_cast-buffer-2 : goal.overflow_cast-buffer-2
overflow_cast-buffer-2 c =
    let s = c.loop-place in
    omega (arith, (first c.args.value s.rest (alone c.args.at s.place s.rest c.args.value (omega arith) (omega arith) s.invariant.1)).0)

pub overflow_add-buffer-2 : goal.overflow_add-buffer-2
overflow_add-buffer-2 c =
    let s = c.loop-place in
    omega (arith, (first c.args.value s.rest (alone c.args.at s.place s.rest c.args.value (omega arith) (omega arith) s.invariant.1)).0)

pub returns : goal.returns
returns c =
    let a = c.args in
    let s = c.loop-place in
    let f = first a.value s.rest (alone a.at s.place s.rest a.value (omega arith) (omega arith) s.invariant.1) in (
      omega (arith, c.number_length.ensures),
      ap (λ (x : ℕ). set s.buffer a.at x) (omega (arith, f.0))
          ∙ one_more a.buffer.now s.buffer a.at 0 a.value (48 + s.rest) (digits_some a.value) (omega (arith, length-drop 0 (digits a.value), c.requires))
          (s.invariant.2 ∙ same a.buffer.now s.place (a.at + 1) (s.place - a.at) 1 a.value (omega arith) (omega arith)) f.1,
    )
