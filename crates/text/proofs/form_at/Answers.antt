-- `text::form_at` meets its contract: the word, and then the numbers behind it. Assumes nothing.
use Rattle.std.proofs.Common.{◌≡◌, sym, ap, ◌∙◌, true, false, List, ℕ, length, drop, None, nat_eq, take, take_all, arith}
use Rattle.std.specs.Cmp.Lexicographic.{pointwise}
use Rattle.text.specs.Form.{read_numbers, read_behind, read_form, form_of}
use Rattle.text.proofs.Words.{starts_pointwise}
use Rattle.text.proofs.form_at.Goals as goal

-- w is what the code compares with
module _ (word line : List ℕ) (count : ℕ) (w : List ℕ) where
  other_word : pointwise nat_eq (take (length w) line) w ≡ false → w ≡ word → None ≡ form_of (read_form word count line)
  unfolding read_form read_behind form_of
  other_word h e = rw (sym (starts_pointwise word line) ∙ rw e at h)

  this_word : (behind : List ℕ) → pointwise nat_eq (take (length w) line) w ≡ true → behind ≡ drop (length w) line → w ≡ word
      → read_numbers count behind ≡ read_form word count line
  unfolding read_form read_behind
  this_word behind h b e = rw (b, e, sym (starts_pointwise word line) ∙ rw e at h)

pub returns-in_err-strip_prefix : goal.returns-in_err-strip_prefix
returns-in_err-strip_prefix c =
    let a = c.args in
    c.from_residual.ensures ∙ other_word a.word.now a.line.now a.count _ c.in_err-strip_prefix.ensures.cases (grind (arith, take_all))

pub returns : goal.returns
returns c =
    let a = c.args in
    let b = c.in_ok-strip_prefix.ensures.cases in
    c.numbers_from.ensures ∙ ap form_of (this_word a.word.now a.line.now a.count _ _ b.0 b.1 (grind (arith, take_all)))
