-- `sought` meets its contract: each return by the tests that led there.
use mathlib.Core.Bool.{false}
use native.Mathlib.Omega.{arith}
use lib.ListN.{get_or}
use borrow.Author.Tests.{eq-eqb, ne_eqb}
use Rattle.cells.specs.Layout.{mask_cell}
use Rattle.cells.specs.Instants.{sought_by}
use Rattle.instants.proofs.sought.Goals as goal

pub returns-then-s-ne0 : goal.returns-then-s-ne0
unfolding sought_by
returns-then-s-ne0 c = simp (ne_eqb _ _ c.if-s-ne0.true)

pub returns-then-s-ne0-2 : goal.returns-then-s-ne0-2
unfolding sought_by
returns-then-s-ne0-2 c = simp (eq-eqb _ _ c.if-s-ne0.false, ne_eqb (get_or c.args.s.now (mask_cell false 1) 0) 0 (λ z. omega arith))

pub returns : goal.returns
unfolding sought_by
returns c = simp (eq-eqb _ _ c.if-s-ne0.false, eq-eqb (get_or c.args.s.now (mask_cell false 1) 0) 0 (omega arith))
