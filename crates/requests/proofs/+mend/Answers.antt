-- `requests::mend` meets its contract, and ends since `levels` falls. Each return is a law of MendLaws.
use mathlib.Core.Path.{sym, ◌∙◌}
use native.Mathlib.Omega.{arith}
use Rattle.requests.proofs.MendLaws.{none_left, beyond_hubs, ends_here, goes_on}
use Rattle.requests.proofs.+mend.Goals as goal

pub returns-then-levels-eq0 : goal.returns-then-levels-eq0
returns-then-levels-eq0 t c =
    let a = c.args in
    none_left a.p.now a.high a.levels a.g a.q a.b a.s.now c.if-levels-eq0.true

pub returns-in_default : goal.returns-in_default
returns-in_default t c =
    let a = c.args in
    beyond_hubs a.p.now a.high a.levels a.g a.q a.b a.s.now c.in_default.ensures

pub returns-then-alike : goal.returns-then-alike
returns-then-alike t c =
    let a = c.args in
    rw (← c.in-Some.ensures)
    (ends_here a.p.now a.high c.in-Some.hub.number a.q a.b a.s.now c.mask-at.result c.put_port-mask.result
    (omega arith) (omega arith) c.mask-at.ensures.value c.put_port-mask.ensures
    a.levels c.if-levels-eq0.false (sym c.alike.ensures ∙ c.if-alike.true))

pub returns : goal.returns
returns t c =
    let a = c.args in
    rw (← c.in-Some.ensures)
    (goes_on a.p.now a.high c.in-Some.hub.number a.q a.b a.s.now c.mask-at.result c.put_port-mask.result
    (omega arith) (omega arith) c.mask-at.ensures.value c.put_port-mask.ensures
    a.levels c.if-levels-eq0.false (sym c.alike.ensures ∙ c.if-alike.false)
    c.mend.new.s c.mend.ensures)
