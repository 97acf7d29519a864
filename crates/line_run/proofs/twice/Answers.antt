-- `line_run::twice` meets its contract. Assumes nothing.
use native.Mathlib.Omega.{arith}
use borrow.Author.Tests.{eq-eqb, ne_eqb}
use Rattle.line_run.proofs.twice.Goals as goal

pub returns-then-busy-eq0 : goal.returns-then-busy-eq0
returns-then-busy-eq0 c = simp (eq-eqb _ _ c.if-busy-eq0.true) (omega arith)

pub returns : goal.returns
returns c = simp (ne_eqb _ _ c.if-busy-eq0.false)
