-- `optional_at` meets its contract, by the laws of LineLaws: one a return.
use mathlib.Core.Path.{ap, ◌∙◌}
use Rattle.plan_tree.specs.Part.{Found}
use Rattle.header.specs.Lines.{optional_at, optional_on}
use Rattle.header.proofs.LineLaws.{optional_none, optional_some, no_line, a_line}
use Rattle.header.proofs.optional_at.Goals as goal

pub returns-in_err-line : goal.returns-in_err-line
unfolding optional_at
returns-in_err-line c =
    let a = c.args in
    c.from_residual.ensures ∙ no_line _ a.word.now a.count c.in_err-line.ensures.value ∙ ap (λ (f : Found). optional_on f a.word.now a.count) c.line_at.ensures

pub returns-in_err-x : goal.returns-in_err-x
unfolding optional_at
returns-in_err-x c =
    let a = c.args in
    let l = c.in_ok-line.line in
    c.from_residual-in_err-x.ensures
    ∙ optional_none l.number l.next _ c.in_err-x.ensures
    ∙ ap (λ (f : Found). optional_on f a.word.now a.count) (a_line _ l c.in_ok-line.ensures.value ∙ c.line_at.ensures)

pub returns : goal.returns
unfolding optional_at
returns c =
    let a = c.args in
    let l = c.in_ok-line.line in
    optional_some l.number l.next _ _ c.in_ok-x.ensures
    ∙ ap (λ (f : Found). optional_on f a.word.now a.count) (a_line _ l c.in_ok-line.ensures.value ∙ c.line_at.ensures)
