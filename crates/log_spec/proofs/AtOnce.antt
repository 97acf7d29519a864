-- Lines one by one against all their bytes at once: a pass answers what writing them at once does,
-- one that measures changes no byte, and one that writes leaves all of them where they fit.
use Rattle.std.specs.Prelude.{Option, Some, None}
use Prim.Native.Nat.{ℕ, ◌+◌, ◌≤◌, ◌<◌}
use mathlib.Core.Path.{◌≡◌, refl, sym, ap, ◌∙◌}
use mathlib.Core.Bool.{Bool, true, false}
use mathlib.Core.List.{List, [], ◌∷◌, ◌++◌, flatten}
use native.Mathlib.Nat.{add-zero, add_assoc}
use native.Mathlib.Omega.{arith}
use borrow.Author.Tests.{leb-true, leb-false}
use lib.Dec.{leb}
use lib.ListN.{length, length-append}
use Rattle.rules.proofs.Laws.Passes.{Which, which, yes', no'}
use Rattle.writer.specs.Write.{put_answer, put_buffer, pass_buffer}
use Rattle.writer.proofs.Writes.{put-fits, put_short, pass_length, pass_none, pass_append}
use Rattle.log_spec.specs.Cells.{Written, then_lines, put_lines}

-- all lines fit
pub lines_fit : (write : Bool) (ls : List (List ℕ)) (d : List ℕ) (at : ℕ) → at + length (flatten ls) ≤ length d
    → put_lines write ls d at ≡ record { put = Some (at + length (flatten ls)); buffer = pass_buffer write d at (flatten ls) }
unfolding put_lines flatten
lines_fit write [] d at h = λ i. record { put = Some (sym (add-zero at) i); buffer = sym (pass_none write d at) i }
lines_fit write (l ∷ ls) d at h =
    let e : length (l ++ flatten ls) ≡ length l + length (flatten ls) = length-append l (flatten ls) in
    let rest : at + length l + length (flatten ls) ≤ length d = omega arith in
    ap (λ (p : Option ℕ). then_lines (put_lines write ls) p (pass_buffer write d at l)) (put-fits d at l (omega arith)).0
    ∙ lines_fit write ls (pass_buffer write d at l) (at + length l) (omega (arith, pass_length write d at l))
    ∙ (λ i. record {
      put = Some ((add_assoc at (length l) (length (flatten ls)) ∙ ap (λ (n : ℕ). at + n) (sym e)) i);
      buffer = pass_append write d at l (flatten ls) rest i;
    })

-- one of them doesn't
abbrev TooLong : Bool → List (List ℕ) → Type 0
TooLong write ls = (d : List ℕ) (at : ℕ) → at ≤ length d → length d < at + length (flatten ls) → (put_lines write ls d at).put ≡ None

module _ (write : Bool) (l : List ℕ) (ls : List (List ℕ)) (again : TooLong write ls) where
  one_more_short : TooLong write (l ∷ ls)
  unfolding put_lines flatten
  one_more_short d at room h = go (which (leb (at + length l) (length d)))
    where
      go : Which (leb (at + length l) (length d)) → (then_lines (put_lines write ls) (put_answer d at l) (pass_buffer write d at l)).put ≡ None
      go (yes' y) =
          let one = leb-true (at + length l) (length d) y in
          let same = pass_length write d at l in
          let e : length (l ++ flatten ls) ≡ length l + length (flatten ls) = length-append l (flatten ls) in
          ap (λ (p : Option ℕ). (then_lines (put_lines write ls) p (pass_buffer write d at l)).put) (put-fits d at l one).0
          ∙ again (pass_buffer write d at l) (at + length l) (omega arith) (omega arith)
      go (no' n) =
          ap (λ (p : Option ℕ). (then_lines (put_lines write ls) p (pass_buffer write d at l)).put) (put_short d at l (leb-false (at + length l) (length d) n)).0

pub lines_short : (write : Bool) (ls : List (List ℕ)) → TooLong write ls
unfolding put_lines flatten
lines_short write [] d at room h = absurd (omega arith)
lines_short write (l ∷ ls) d at room h = one_more_short write l ls (lines_short write ls) d at room h

-- a pass that measures changes no byte
thus_unchanged : (more : List ℕ → ℕ → Written) → ((b : List ℕ) (z : ℕ) → (more b z).buffer ≡ b) → (p : Option ℕ) (b : List ℕ) → (then_lines more p b).buffer ≡ b
thus_unchanged more h (Some z) b = h b z
thus_unchanged more h None b = refl

pub measured : (ls : List (List ℕ)) (d : List ℕ) (at : ℕ) → (put_lines false ls d at).buffer ≡ d
unfolding put_lines pass_buffer
measured [] d at = refl
measured (l ∷ ls) d at = thus_unchanged (put_lines false ls) (measured ls) (put_answer d at l) d

module _ (ls : List (List ℕ)) (d : List ℕ) where
  -- the answer, from the buffer's start
  pub at_once : (write : Bool) → (put_lines write ls d 0).put ≡ put_answer d 0 (flatten ls)
  at_once write = go (which (leb (0 + length (flatten ls)) (length d)))
    where
      go : Which (leb (0 + length (flatten ls)) (length d)) → (put_lines write ls d 0).put ≡ put_answer d 0 (flatten ls)
      go (yes' y) =
          let h = leb-true (0 + length (flatten ls)) (length d) y in
          ap (λ (w : Written). w.put) (lines_fit write ls d 0 h) ∙ sym (put-fits d 0 (flatten ls) h).0
      go (no' n) =
          let h = leb-false (0 + length (flatten ls)) (length d) n in
          lines_short write ls d 0 (omega arith) h ∙ sym (put_short d 0 (flatten ls) h).0

  -- and the buffer, where they fit
  pub all_written : 0 + length (flatten ls) ≤ length d → (put_lines true ls d 0).buffer ≡ put_buffer d 0 (flatten ls)
  unfolding pass_buffer
  all_written h = ap (λ (w : Written). w.buffer) (lines_fit true ls d 0 h)
