-- `fitting` meets its contract: the tests are the definition's, in its order.
use Prim.Native.Nat.{◌*◌}
use mathlib.Core.Path.{sym, ◌∙◌}
use native.Mathlib.Omega.{arith}
use borrow.Author.Tests.{eq-eqb, ne_eqb, lt-ltb, le-ltb}
use lib.ListN.{length}
use Rattle.call_list.specs.Table.{count_of, list_number}
use Rattle.call_list.proofs.fitting.Goals as goal
use Rattle.call_list.proofs.fitting.Goals.{then-calls-ne0-via-then-calls-ne0, then-calls-ne0-via-else-calls-ne0+then-not-kinds}

pub returns-then-calls-ne0 : goal.returns-then-calls-ne0
unfolding list_number
returns-then-calls-ne0 c =
    elim c.then-calls-ne0.branch [
      | then-calls-ne0-via-then-calls-ne0 w ↦ rw (ne_eqb _ _ w.if-calls-ne0.true)
      | then-calls-ne0-via-else-calls-ne0+then-not-kinds w ↦
          rw (eq-eqb _ _ w.if-calls-ne0.false, sym w.kinds.ensures ∙ w.if-not-kinds.true)
    ]

pub returns-then-answers-calls : goal.returns-then-answers-calls
unfolding list_number
returns-then-answers-calls c =
    let a = c.args in
    rw (
      eq-eqb _ _ c.if-calls-ne0.false,
      sym c.kinds.ensures ∙ c.if-not-kinds.false,
      lt-ltb (length a.answers.now) (count_of a.calls.now * 7) (omega arith),
    )

pub returns : goal.returns
unfolding list_number
returns c =
    let a = c.args in
    rw (
      eq-eqb _ _ c.if-calls-ne0.false,
      sym c.kinds.ensures ∙ c.if-not-kinds.false,
      le-ltb (length a.answers.now) (count_of a.calls.now * 7) (omega arith),
    )
