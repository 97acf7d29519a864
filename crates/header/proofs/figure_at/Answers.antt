-- `figure_at` meets its contract, by the laws of LineLaws: one a return.
use mathlib.Core.Path.{◌≡◌, sym, ap, ◌∙◌}
use Rattle.plan_tree.specs.declared.Refused.{Refused}
use Rattle.plan_tree.specs.Part.{Found, row_number}
use Rattle.header.specs.Figure.{Not}
use Rattle.header.specs.Lines.{figure_at, figure_on}
use Rattle.header.proofs.LineLaws.{refused, figure_none, figure_some}
use Rattle.header.proofs.figure_at.Goals as goal

pub returns-in_err-line : goal.returns-in_err-line
unfolding figure_at
returns-in_err-line c =
    let a = c.args in
    refused _ _ c.from_residual.ensures.1 ∙ ap (λ (f : Found). figure_on f a.word.now a.low a.high) c.in_err-line.ensures

pub returns-in_err-x : goal.returns-in_err-x
unfolding figure_at
returns-in_err-x c =
    let a = c.args in
    let l = c.in_ok-line.line in
    let e = rw c.in_err-x.ensures.ok_part at c.in_err-x.ensures.value in
    let same : c.in_err-x.field-0.0 ≡ c.new-other.result = cc in
    refused _ _ c.from_residual-in_err-x.ensures.1
    ∙ ap (λ (r : Refused). Not r.line (row_number r.row)) (same ∙ c.new-other.ensures)
    ∙ figure_none l.number l.next a.low a.high _ (sym c.in_err-x.ensures.ok_part ∙ c.form_at.ensures)
    ∙ ap (λ (f : Found). figure_on f a.word.now a.low a.high) c.in_ok-line.ensures

pub returns : goal.returns
unfolding figure_at
returns c =
    let a = c.args in
    let l = c.in_ok-line.line in
    c.in_range.ensures
    ∙ figure_some l.number l.next a.low a.high _ _ (sym c.in_ok-x.ensures.ok_part ∙ c.form_at.ensures)
    ∙ ap (λ (f : Found). figure_on f a.word.now a.low a.high) c.in_ok-line.ensures
