-- `text::next_line` meets its contract: the bytes that are left are a line up to the first LF, or all of them where there is none.
-- Assumes nothing.
use Rattle.std.proofs.Common.{◌≡◌, refl, sym, ap, ◌∙◌, Bool, true, false, List, ℕ, ◌-◌, min, leb, length, take, drop, take_all, length-drop, arith}
use lib.ListN.{drop_of_length-le}
use borrow.Author.Tests.{eqb-true, eqb-false, leb-true, leb-false}
use Rattle.text.proofs.Lines.{lf_found, lf_missing, nothing_left}
use Rattle.text.proofs.next_line.Goals as goal

-- what is left at a place, which may lie behind the text
left : (text : List ℕ) (at m : ℕ) → m ≡ min at (length text) → take (length text - m) (drop m text) ≡ drop at text
left text at m e = take_all (length text - m) (drop m text) (omega (arith, length-drop m text)) ∙ go (leb at (length text)) refl
  where
    go : (t : Bool) → leb at (length text) ≡ t → drop m text ≡ drop at text
    go true h =
        let inside = leb-true at (length text) h in
        ap (λ (k : ℕ). drop k text) (omega arith)
    go false h =
        let past = leb-false at (length text) h in
        drop_of_length-le text {i = m} (omega arith) ∙ sym (drop_of_length-le text {i = at} (omega arith))

pub returns-in-Some : goal.returns-in-Some
returns-in-Some c =
    let a = c.args in
    let h = c.in-Some.ensures in
    rw c.next_number.ensures (lf_found a.text.now a.c _ (left a.text.now a.c.at c.min.result c.min.ensures) c.in-Some.length h.0 h.1 h.2)

pub returns-in-None : goal.returns-in-None
returns-in-None c =
    let a = c.args in
    nothing_left a.text.now a.c _ (left a.text.now a.c.at c.min.result c.min.ensures) (omega (arith, eqb-true _ 0 (sym c.is_empty.ensures ∙ c.if-is_empty.true)))

pub returns-in-None-2 : goal.returns-in-None-2
returns-in-None-2 c =
    let a = c.args in
    let some = eqb-false _ 0 (sym c.is_empty.ensures ∙ c.if-is_empty.false) in
    lf_missing a.text.now a.c _ (left a.text.now a.c.at c.min.result c.min.ensures) (omega arith) c.in-None-2.ensures
