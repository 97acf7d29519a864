-- `reader::line_at` meets its contract: what a reader of its own hands out, and where it is left, gives the scanner's answer back.
-- Assumes nothing.
use mathlib.Core.Path.{◌≡◌, ap, ◌∙◌}
use mathlib.Core.Bool.{Bool}
use mathlib.Core.List.{List}
use Prim.Native.Nat.{ℕ}
use lib.ListN.{length}
use Rattle.std.specs.Borrow.{Bor}
use Rattle.text.specs.Part.{part}
use Rattle.text.specs.Line.{next_line}
use Rattle.reader.specs.declared.Reader.{Reader}
use Rattle.reader.specs.LineReader.{ahead, moved_on, answer_of}
use Rattle.reader.proofs.Handed.{answered}
use Rattle.reader.proofs.line_at.Goals as goal

-- a reader's line, and the reader that it leaves
module _ (r g : Reader) (bytes : List ℕ) (n : ℕ) (ended : Bool) where
  back : (text : List ℕ) (at number : ℕ) → r.text.now ≡ text → r.at ≡ at → r.number ≡ number
      → bytes ≡ part r.text.now r.at (ahead r).end → n ≡ r.number → ended ≡ (ahead r).ended → g ≡ moved_on r
      → answer_of at (length bytes) n ended (record { at = g.at; number = g.number }) ≡ next_line text (record { at = at; number = number })
  back text at number here from line part own lf moved = rw (part, own, lf, moved, ← here, ← from, ← line) (answered r.text.now r.at r.number)

pub returns : goal.returns
returns c =
    let a = c.args in
    let r = c.new-r in
    let l = c.next-line in
    c.told.ensures
    ∙ back r.result l.new.self l.result.bytes.now l.result.number l.result.ended a.text.now a.at a.number
    (ap (λ (t : Bor (List ℕ)). t.now) r.ensures.0) r.ensures.1 r.ensures.2 l.ensures.0.0 l.ensures.1 l.ensures.2 l.ensures.3
