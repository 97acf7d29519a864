-- What a reader hands out is what the scanner answers: the answer can be had back
-- from the line's length, its number and the place where the reader was left.
-- Assumes nothing.
use mathlib.Core.Path.{◌≡◌, refl, sym, ap, ◌∙◌}
use mathlib.Core.Bool.{Bool, true, false}
use mathlib.Core.List.{List}
use Prim.Native.Nat.{ℕ, zero, suc, ◌+◌}
use native.Mathlib.Omega.{arith}
use lib.ListN.{length}
use Rattle.text.specs.Part.{part}
use Rattle.text.specs.Line.{next_line}
use Rattle.text.specs.declared.Cursor.{Cursor}
use Rattle.text.specs.declared.Next.{Next}
use Rattle.text.specs.declared.Next.TheVariants.{Line, Unended, Done}
use Rattle.text.proofs.Parts.{part_length}
use Rattle.text.proofs.Lines.{scanned_line, scanned_unended, scanned_done}
use Rattle.reader.specs.declared.Found.{Found}
use Rattle.reader.specs.LineReader.{found, found_at, answer_of}

more_answer : (at n number : ℕ) (next : Cursor) → answer_of at (suc n) number false next ≡ Unended at (at + suc n) number
unfolding answer_of
more_answer at n number next = refl

-- the answer by the case
module _ (at n number : ℕ) (next : Cursor) where
  pub line_answer : (ended : Bool) → ended ≡ true → answer_of at n number ended next ≡ Line at (at + n) number next
  unfolding answer_of
  line_answer ended e = rw e

  pub unended_answer : (ended : Bool) → ended ≡ false → (n ≡ 0 → ⊥) → answer_of at n number ended next ≡ Unended at (at + n) number
  unended_answer ended e h = rw e (go n h)
    where
      go : (m : ℕ) → (m ≡ 0 → ⊥) → answer_of at m number false next ≡ Unended at (at + m) number
      go zero h = absurd (h refl)
      go (suc m) h = more_answer at m number next

  pub done_answer : (ended : Bool) → ended ≡ false → n ≡ 0 → answer_of at n number ended next ≡ Done number
  unfolding answer_of
  done_answer ended e z = rw (e, z)

module _ (text : List ℕ) (at number : ℕ) where
  abbrev c : Cursor
  c = record { at = at; number = number }

  abbrev answer : Found → Next
  answer f = answer_of at (length (part text at f.end)) number f.ended (record { at = f.at; number = f.number })

  by_case : (x : Next) → next_line text c ≡ x → answer (found c x) ≡ x
  unfolding answer_of found
  by_case (Line start end n next) e =
      let l = scanned_line text c start end n next e in
      let b : at ≡ start = sym l.begins in
      let m : number ≡ n = sym l.numbered in
      let w : at + length (part text at end) ≡ end = omega (arith, part_length text at end, l.begins, l.ends, l.onward, l.inside) in
      λ i. Line (b i) (w i) (m i) next
  by_case (Unended start end n) e =
      let u = scanned_unended text c start end n e in
      let b : at ≡ start = sym u.begins in
      let m : number ≡ n = sym u.numbered in
      let w : at + length (part text at end) ≡ end = omega (arith, part_length text at end, u.begins, u.ends, u.more) in
      unended_answer at (length (part text at end)) number _ false refl (λ z. omega (arith, w, u.begins, u.more)) ∙ (λ i. Unended (b i) (w i) (m i))
  by_case (Done n) e =
      let d = scanned_done text c n e in
      done_answer at (length (part text at at)) number _ false refl (omega (arith, part_length text at at)) ∙ ap Done (sym d.1)

  pub answered : answer (found_at text at number) ≡ next_line text c
  answered = by_case (next_line text c) refl
