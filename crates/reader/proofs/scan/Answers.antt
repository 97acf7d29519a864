-- `reader::scan` meets its contract: what the scanner answers, case by case. Assumes nothing.
use mathlib.Core.Path.{◌≡◌, sym, ap, ◌∙◌}
use Prim.Native.Nat.{ℕ}
use mathlib.Core.Bool.{true, false}
use Rattle.text.specs.Line.{next_number}
use Rattle.text.specs.declared.Cursor.{Cursor}
use Rattle.text.specs.declared.Next.{Next}
use Rattle.text.specs.declared.Next.TheVariants.{Line, Unended, Done}
use Rattle.reader.specs.LineReader.{found}
use Rattle.reader.proofs.scan.Goals as goal

line : (c : Cursor) (x : Next) (start end number : ℕ) (next : Cursor) → x ≡ Line start end number next
    → record { end = end; ended = true; at = next.at; number = next.number } ≡ found c x
unfolding found
line c x start end number next e = sym (ap (found c) e)

unended : (c : Cursor) (x : Next) (start end number n : ℕ) → x ≡ Unended start end number → n ≡ next_number c.number
    → record { end = end; ended = false; at = end; number = n } ≡ found c x
unfolding found
unended c x start end number n e l = ap (λ (k : ℕ). record { end = end; ended = false; at = end; number = k }) l ∙ sym (ap (found c) e)

done : (c : Cursor) (x : Next) (number : ℕ) → x ≡ Done number
    → record { end = c.at; ended = false; at = c.at; number = c.number } ≡ found c x
unfolding found
done c x number e = sym (ap (found c) e)

pub returns-in-Line : goal.returns-in-Line
returns-in-Line c =
    let a = c.args in
    line (record { at = a.at; number = a.number }) _ c.in-Line.start c.in-Line.end c.in-Line.number c.in-Line.next (sym c.in-Line.ensures)

pub returns-in-Unended : goal.returns-in-Unended
returns-in-Unended c =
    let a = c.args in
    unended (record { at = a.at; number = a.number }) _ c.in-Unended.start c.in-Unended.end c.in-Unended.number c.next_number.result (sym c.in-Unended.ensures) c.next_number.ensures

pub returns-in-Done : goal.returns-in-Done
returns-in-Done c =
    let a = c.args in
    done (record { at = a.at; number = a.number }) _ _ (sym c.in-Done.ensures)
