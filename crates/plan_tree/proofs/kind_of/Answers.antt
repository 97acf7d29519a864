-- `kind_of` meets its contract, by the laws of KindLaws: one a return.
use Rattle.plan_tree.proofs.Cited.KindLaws.{equal, kind_close, kind_node, kind_empty, kind_hub, kind_other}
use Rattle.plan_tree.proofs.kind_of.Goals as goal

pub returns-then-eq : goal.returns-then-eq
returns-then-eq c = kind_close _ (equal _ _ c.as_slice.ensures c.eq.ensures c.if-eq.true)

pub returns-then-eq-2 : goal.returns-then-eq-2
returns-then-eq-2 c =
    kind_node _ (equal _ _ c.as_slice.ensures c.eq.ensures c.if-eq.false) (equal _ _ c.as_slice-2.ensures c.eq-2.ensures c.if-eq-2.true)

pub returns-then-eq-3 : goal.returns-then-eq-3
returns-then-eq-3 c =
    kind_empty _ (equal _ _ c.as_slice.ensures c.eq.ensures c.if-eq.false) (equal _ _ c.as_slice-2.ensures c.eq-2.ensures c.if-eq-2.false)
    (equal _ _ c.as_slice-3.ensures c.eq-3.ensures c.if-eq-3.true)

pub returns-then-eq-4 : goal.returns-then-eq-4
returns-then-eq-4 c =
    kind_hub _ (equal _ _ c.as_slice.ensures c.eq.ensures c.if-eq.false) (equal _ _ c.as_slice-2.ensures c.eq-2.ensures c.if-eq-2.false)
    (equal _ _ c.as_slice-3.ensures c.eq-3.ensures c.if-eq-3.false) (equal _ _ c.as_slice-4.ensures c.eq-4.ensures c.if-eq-4.true)

pub returns : goal.returns
returns c =
    kind_other _ (equal _ _ c.as_slice.ensures c.eq.ensures c.if-eq.false) (equal _ _ c.as_slice-2.ensures c.eq-2.ensures c.if-eq-2.false)
    (equal _ _ c.as_slice-3.ensures c.eq-3.ensures c.if-eq-3.false) (equal _ _ c.as_slice-4.ensures c.eq-4.ensures c.if-eq-4.false)
