-- `root_at` meets its contract, by whether the line is a hub's.
use mathlib.Core.Path.{◌≡◌, sym, ap, ◌∙◌}
use mathlib.Core.Bool.{true, false}
use Rattle.plan_tree.specs.declared.Refused.{Refused}
use Rattle.plan_tree.specs.Part.{Stopped, row_number}
use Rattle.plan_tree.specs.Kind.{kind_of, is_hub}
use Rattle.plan_tree.proofs.Cited.ReaderLaws.{stopped}
use Rattle.header.specs.Lines.{root_at, root_on}
use Rattle.header.proofs.LineLaws.{other_kind}
use Rattle.header.proofs.root_at.Goals as goal

pub returns-in_err-line : goal.returns-in_err-line
unfolding root_at
returns-in_err-line c = stopped _ _ c.from_residual.ensures.1 ∙ ap root_on c.in_err-line.ensures

pub returns-then-ne : goal.returns-then-ne
unfolding root_at
returns-then-ne c =
    let other : is_hub (kind_of c.in_ok-line.line.bytes.now) ≡ false = ap is_hub (sym c.kind_of.ensures) ∙ other_kind _ (sym c.ne.ensures ∙ c.if-ne.true) in
    ap (λ (r : Refused). Stopped r.line (row_number r.row)) c.new.ensures ∙ rw other at (ap root_on c.in_ok-line.ensures)

pub returns : goal.returns
unfolding root_at
returns c =
    let hub : is_hub (kind_of c.in_ok-line.line.bytes.now) ≡ true = ap is_hub (sym c.kind_of.ensures) ∙ other_kind _ (sym c.ne.ensures ∙ c.if-ne.false) in
    rw hub at (ap root_on c.in_ok-line.ensures)
