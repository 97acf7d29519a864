-- A buffer with bytes written over its own: as long as before, one byte is a store, and bytes written
-- behind bytes are both written at once. A pass that only measures answers the same. Assumes nothing.
use Rattle.std.specs.Prelude.{Option, Some, None}
use Rattle.std.specs.Option.{SomeIff, is_some}
use mathlib.Core.Path.{◌≡◌, refl, sym, ap, ◌∙◌}
use mathlib.Core.List.{List, [], ◌∷◌, ◌++◌, append_assoc, append-nil}
use Prim.Native.Nat.{ℕ, suc, ◌+◌, ◌-◌, ◌^◌, ◌≤◌, ◌<◌}
use mathlib.Core.Option.{some}
use native.Mathlib.Nat.{add-zero, add_assoc}
use native.Mathlib.Numerals.{add-one}
use native.Mathlib.Omega.{arith}
use borrow.Author.Tests.{le-leb, lt-leb, leb-true, leb-false}
use lib.ListN.{length, take, drop, set, length-append, take-append-drop}
use lib.Seq.{take-length, take-take, take-append-le, length-paste, length_paste_head, set_split, append_snoc, take_at, drop-append-add, paste, drop-drop, drop_at, length-take-le}
use Rattle.text.specs.Part.{part}
use Rattle.text.specs.Number.{digits, digit_run, read_number}
use Rattle.writer.specs.Write.{overwrite, written, put_buffer, pass_buffer, answered, put_answer, put_number, numbered, put_row}
use mathlib.Core.Bool.{Bool, true, false}
use lib.Dec.{leb}
use Rattle.text.proofs.Numbers.{read-written}

-- all of s copied is s written
pub paste_all : (d : List ℕ) (at : ℕ) (s : List ℕ) → paste d at s (length s) ≡ overwrite d at s
paste_all d at s = rw (take-length s)

pub overwrite-length : (d : List ℕ) (at : ℕ) (s : List ℕ) → at + length s ≤ length d → length (overwrite d at s) ≡ length d
overwrite-length d at s h = ap length (sym (paste_all d at s)) ∙ length-paste d at s (length s) h (omega arith)

pub overwrite-none : (d : List ℕ) (at : ℕ) → overwrite d at [] ≡ d
overwrite-none d at = rw (append-nil (take at d), add-zero at) (take-append-drop at d)

-- what is written, with what stands before it
head_length : (d : List ℕ) (at : ℕ) (s : List ℕ) → at ≤ length d → length (take at d ++ s) ≡ at + length s
head_length d at s h = ap (λ (x : List ℕ). length (take at d ++ x)) (sym (take-length s)) ∙ length_paste_head d at s (length s) h (omega arith)

pub take-overwrite : (d : List ℕ) (at : ℕ) (s : List ℕ) → at ≤ length d → take (at + length s) (overwrite d at s) ≡ take at d ++ s
take-overwrite d at s h = take_at (take at d ++ s) (drop (at + length s) d) (at + length s) (head_length d at s h)

drop-overwrite : (d : List ℕ) (at : ℕ) (s : List ℕ) (k : ℕ) → at ≤ length d → drop (at + length s + k) (overwrite d at s) ≡ drop (at + length s + k) d
drop-overwrite d at s k h =
    ap (λ (n : ℕ). drop (n + k) (overwrite d at s)) (sym (head_length d at s h))
    ∙ drop-append-add (take at d ++ s) (drop (at + length s) d) k
    ∙ drop-drop k (at + length s) d

pub overwrite-append : (d : List ℕ) (at : ℕ) (s t : List ℕ) → at ≤ length d → overwrite (overwrite d at s) (at + length s) t ≡ overwrite d at (s ++ t)
overwrite-append d at s t h =
    rw (take-overwrite d at s h, drop-overwrite d at s (length t) h, append_assoc (take at d) s t, length-append s t, add_assoc at (length s) (length t))

-- one byte
pub set-overwrite : (d : List ℕ) (i x : ℕ) → i < length d → set d i x ≡ overwrite d i (x ∷ [])
set-overwrite d i x h = set_split d i x h ∙ sym (append_snoc (take i d) x (drop (suc i) d)) ∙ rw (add-one i)

pub overwrite_snoc : (d : List ℕ) (at : ℕ) (s : List ℕ) (x : ℕ) → at + length s < length d
    → set (overwrite d at s) (at + length s) x ≡ overwrite d at (s ++ (x ∷ []))
overwrite_snoc d at s x h =
    set-overwrite (overwrite d at s) (at + length s) x (rw (overwrite-length d at s (omega arith)) h)
    ∙ overwrite-append d at s (x ∷ []) (omega arith)

-- bytes written in front of bytes are both written at once
pub overwrite-before : (d : List ℕ) (at : ℕ) (s t : List ℕ) → at + length s ≤ length d → overwrite (overwrite d (at + length s) t) at s ≡ overwrite d at (s ++ t)
overwrite-before d at s t h =
    let k : ℕ = at + length s in
    let w : List ℕ = drop (k + length t) d in
    let l : length (take k d) ≡ k = length-take-le k d h in
    let front : take at ((take k d ++ t) ++ w) ≡ take at d =
    ap (take at) (append_assoc (take k d) t w) ∙ take-append-le at (take k d) (t ++ w) (omega arith) ∙ take-take at k d (omega arith) in
    let back : drop k ((take k d ++ t) ++ w) ≡ t ++ w = ap (drop k) (append_assoc (take k d) t w) ∙ drop_at (take k d) (t ++ w) k l in
    rw (front, back, length-append s t, ← add_assoc at (length s) (length t)) (simp append_assoc)

pub overwrite-cons : (d : List ℕ) (i x : ℕ) (s : List ℕ) → i + 1 + length s ≤ length d → set (overwrite d (i + 1) s) i x ≡ overwrite d i (x ∷ s)
overwrite-cons d i x s h =
    set-overwrite (overwrite d (i + 1) s) i x (rw (overwrite-length d (i + 1) s h) (omega arith)) ∙ overwrite-before d i (x ∷ []) s (omega arith)

-- the two answers differ
apart : (x : ℕ) → None ≡ Some x → ⊥
apart x h =
    let z : ◌≡◌ {A = ℕ} 0 1 = cc in
    omega arith

-- where the bytes fit, and where they do not
pub put-fits : (d : List ℕ) (at : ℕ) (s : List ℕ) → at + length s ≤ length d
    → (put_answer d at s ≡ Some (at + length s)) × (put_buffer d at s ≡ overwrite d at s)
unfolding put_answer put_buffer answered written
put-fits d at s h = (rw (le-leb (at + length s) (length d) h), rw (le-leb (at + length s) (length d) h))

pub put_short : (d : List ℕ) (at : ℕ) (s : List ℕ) → length d < at + length s → (put_answer d at s ≡ None) × (put_buffer d at s ≡ d)
unfolding put_answer put_buffer answered written
put_short d at s h = (rw (lt-leb (at + length s) (length d) h), rw (lt-leb (at + length s) (length d) h))

-- a pass that writes, and one that only measures
pub pass_fits : (w : Bool) (d : List ℕ) (at : ℕ) (s : List ℕ) → w ≡ true → at + length s ≤ length d → pass_buffer w d at s ≡ overwrite d at s
unfolding pass_buffer
pass_fits w d at s e h = rw e (put-fits d at s h).1

pub pass_measured : (w : Bool) (d : List ℕ) (at : ℕ) (s : List ℕ) → w ≡ false → pass_buffer w d at s ≡ d
unfolding pass_buffer
pass_measured w d at s e = rw e

pub pass_short : (w : Bool) (d : List ℕ) (at : ℕ) (s : List ℕ) → length d < at + length s → pass_buffer w d at s ≡ d
unfolding pass_buffer
pass_short true d at s h = (put_short d at s h).1
pass_short false d at s h = refl

-- neither changes how long the buffer is
pub put-length : (d : List ℕ) (at : ℕ) (s : List ℕ) → length (put_buffer d at s) ≡ length d
put-length d at s = go (leb (at + length s) (length d)) refl
  where
    go : (t : Bool) → leb (at + length s) (length d) ≡ t → length (put_buffer d at s) ≡ length d
    go true h =
        let fit = leb-true (at + length s) (length d) h in
        ap length (put-fits d at s fit).1 ∙ overwrite-length d at s fit
    go false h = ap length (put_short d at s (leb-false (at + length s) (length d) h)).1

pub pass_length : (w : Bool) (d : List ℕ) (at : ℕ) (s : List ℕ) → length (pass_buffer w d at s) ≡ length d
unfolding pass_buffer
pass_length true d at s = put-length d at s
pass_length false d at s = refl

-- nothing written changes nothing, in either pass
pub put-none : (d : List ℕ) (at : ℕ) → put_buffer d at [] ≡ d
unfolding put_buffer written
put-none d at = go (leb (at + 0) (length d))
  where
    go : (t : Bool) → written t d at [] ≡ d
    go true = overwrite-none d at
    go false = refl

pub pass_none : (w : Bool) (d : List ℕ) (at : ℕ) → pass_buffer w d at [] ≡ d
unfolding pass_buffer
pass_none true d at = put-none d at
pass_none false d at = refl

-- bytes behind bytes, where both fit
pub pass_append : (w : Bool) (d : List ℕ) (at : ℕ) (s t : List ℕ) → at + length s + length t ≤ length d
    → pass_buffer w (pass_buffer w d at s) (at + length s) t ≡ pass_buffer w d at (s ++ t)
unfolding pass_buffer
pass_append true d at s t h =
    let both : at + length (s ++ t) ≤ length d = omega (arith, length-append s t) in
    let one = (put-fits d at s (omega arith)).1 in
    let again : at + length s + length t ≤ length (put_buffer d at s) = omega (arith, put-length d at s) in
    (put-fits (put_buffer d at s) (at + length s) t again).1
    ∙ ap (λ (b : List ℕ). overwrite b (at + length s) t) one
    ∙ overwrite-append d at s t (omega arith)
    ∙ sym (put-fits d at (s ++ t) both).1
pass_append false d at s t h = refl

-- how much of a room n bytes leave over
module _ (n room : ℕ) where
  pub rest_over : (left : ℕ) → n + left ≡ room → Some left ≡ answered (leb n room) (room - n)
  unfolding answered
  rest_over left h =
      let e : left ≡ room - n = omega arith in
      ap Some e ∙ rw (le-leb n room (omega arith))

  pub rest_short : room < n → None ≡ answered (leb n room) (room - n)
  unfolding answered
  rest_short h = rw (lt-leb n room h)

  -- where what was taken of the room is the n bytes but for the last
  pub rest_of : (r : Option ℕ) (left last : ℕ) → SomeIff r (last ≤ left) (left - last) → n + left ≡ room + last → r ≡ answered (leb n room) (room - n)
  rest_of None left last h e = rest_short (omega (arith, h))
  rest_of (Some x) left last h e = rest_over x (omega (arith, h.0, h.1))

  -- and what is told by it
  pub rest_told : (r : Option ℕ) (x : ℕ) → r ≡ answered (leb n room) (room - n) → r ≡ Some x → n + x ≡ room
  rest_told r x p q = go (leb n room) refl
    where
      go : (t : Bool) → leb n room ≡ t → n + x ≡ room
      go true h =
          let fit = leb-true n room h in
          let e = rest_over (room - n) (omega arith) in
          let y : x ≡ room - n = cc in
          omega arith
      go false h = absurd (apart x (rest_short (leb-false n room h) ∙ sym p ∙ q))

  pub rest_lacks : (r : Option ℕ) → r ≡ answered (leb n room) (room - n) → r ≡ None → room < n
  rest_lacks r p q = go (leb n room) refl
    where
      go : (t : Bool) → leb n room ≡ t → room < n
      go true h =
          let fit = leb-true n room h in
          absurd (apart (room - n) (sym q ∙ p ∙ sym (rest_over (room - n) (omega arith))))
      go false h = leb-false n room h

pub answered_some : (b : Bool) (x : ℕ) → is_some (answered b x) ≡ b
unfolding answered
answered_some true x = refl
answered_some false x = refl

-- document 01's number of the answer, by whether the bytes fit
answer_number : (b : Bool) (behind : ℕ) → put_number (answered b behind) ≡ numbered b
unfolding put_number answered numbered
answer_number true behind = refl
answer_number false behind = refl

-- the answer and the buffer with that number: what each public function promises
number_told : (d : List ℕ) (at : ℕ) (s : List ℕ) (r : Option ℕ) → r ≡ put_answer d at s → put_number r ≡ put_row d at s
unfolding put_answer put_row
number_told d at s r p = ap put_number p ∙ answer_number (leb (at + length s) (length d)) (at + length s)

pub put_told_lem : (d : List ℕ) (at : ℕ) (s : List ℕ) (r : Option ℕ) (e : List ℕ) → r ≡ put_answer d at s → e ≡ put_buffer d at s
    → (r ≡ put_answer d at s) × (e ≡ put_buffer d at s) × (put_number r ≡ put_row d at s)
put_told_lem d at s r e p q = (p, q, number_told d at s r p)

pub pass_told : (w : Bool) (d : List ℕ) (at : ℕ) (s : List ℕ) (r : Option ℕ) (e : List ℕ) → r ≡ put_answer d at s → e ≡ pass_buffer w d at s
    → (r ≡ put_answer d at s) × (e ≡ pass_buffer w d at s) × (put_number r ≡ put_row d at s)
pass_told w d at s r e p q = (p, q, number_told d at s r p)

-- what was written stands there
pub part-overwrite : (d : List ℕ) (at : ℕ) (s : List ℕ) → at ≤ length d → part (overwrite d at s) at (at + length s) ≡ s
part-overwrite d at s h = ap (drop at) (take-overwrite d at s h) ∙ drop_at (take at d) s at (length-take-le at d h)

-- a number that was written is read back
pub number_back : (d : List ℕ) (at n : ℕ) → at ≤ length d → n < 10 ^ 16
    → read_number (part (overwrite d at (digits n)) at (at + length (digits n))) ≡ some (n, length (digits n))
unfolding digit_run
number_back d at n h small =
    ap read_number (part-overwrite d at (digits n) h ∙ sym (append-nil (digits n))) ∙ read-written n [] small refl
