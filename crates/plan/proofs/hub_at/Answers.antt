-- `hub_at` meets its contract: the root's line, then the hub reader, by the laws of PlanLaws.
use mathlib.Core.Path.{◌≡◌, refl, sym, ap, ◌∙◌}
use mathlib.Core.List.{List}
use Prim.Native.Nat.{ℕ}
use lib.ListN.{length}
use Rattle.text.specs.declared.Cursor.{Cursor}
use Rattle.plan_tree.specs.declared.Refused as tree
use Rattle.plan_tree.specs.Part.{row_number}
use Rattle.plan.specs.declared.figures.Figures as code
use Rattle.plan.specs.Answer.{Refused}
use Rattle.plan.specs.Reading.{Read, leaves}
use Rattle.plan.specs.PlanReader.{hub_at}
use Rattle.plan.specs.Header.{figures_of}
use Rattle.plan.proofs.PlanLaws.{plan_refused, by_root, by_tree, no_node, some_node}
use Rattle.plan.proofs.hub_at.Goals as goal

-- what is read
abbrev here : List ℕ → code.Figures → Cursor → Read
here text figures c = hub_at text (length text) (figures_of figures) c

pub returns-in_err-root : goal.returns-in_err-root
returns-in_err-root c =
    let a = c.args in
    let e = by_root (here a.text.now a.figures a.c) a.text.now (figures_of a.figures) a.c refl c.in_err-root.ensures in
    record { value = plan_refused _ _ c.from_residual.ensures.1 ∙ sym (ap (λ (r : Read). r.answer) e); plan_after = sym (ap (λ (r : Read). leaves r a.plan.now) e) }

pub returns-in_err-end : goal.returns-in_err-end
returns-in_err-end c =
    let a = c.args in
    let e = by_tree (here a.text.now a.figures a.c) a.text.now (figures_of a.figures) a.c refl c.in_ok-root.root c.in_ok-root.ensures c.in_err-end.ensures.value c.in_err-end.ensures.s_after in
    record { value = plan_refused _ _ c.from_residual-in_err-end.ensures.1 ∙ sym (ap (λ (r : Read). r.answer) e); plan_after = sym (ap (λ (r : Read). leaves r a.plan.now) e) }

pub returns-then-end-eq0 : goal.returns-then-end-eq0
returns-then-end-eq0 c =
    let a = c.args in
    let y = c.in_ok-end.end in
    let e = no_node (here a.text.now a.figures a.c) a.text.now (figures_of a.figures) a.c refl c.in_ok-root.root c.in_ok-root.ensures y c.root_reader.new.s c.in_ok-end.ensures.value c.in_ok-end.ensures.s_after c.if-end-eq0.true in
    let s = ap (λ (r : tree.Refused). Refused r.line (row_number r.row)) c.new.ensures ∙ ap (λ (n : ℕ). Refused n 3) c.saturating_sub.ensures in
    record { value = s ∙ sym (ap (λ (r : Read). r.answer) e); plan_after = sym (ap (λ (r : Read). leaves r a.plan.now) e) }

pub returns : goal.returns
returns c =
    let a = c.args in
    let y = c.in_ok-end.end in
    let e = some_node (here a.text.now a.figures a.c) a.text.now (figures_of a.figures) a.c refl c.in_ok-root.root c.in_ok-root.ensures y c.root_reader.new.s c.in_ok-end.ensures.value c.in_ok-end.ensures.s_after c.if-end-eq0.false in
    record { value = sym (ap (λ (r : Read). r.answer) e); plan_after = c.put_figures.ensures ∙ sym (ap (λ (r : Read). leaves r a.plan.now) e) }
