-- `requests::grant_node` meets its contract. Each return is a law of NodeLaws.
use native.Mathlib.Omega.{arith}
use Rattle.requests.proofs.NodeLaws.{grant_beyond, granted}
use Rattle.requests.proofs.grant_node.Goals as goal

pub returns-in_default : goal.returns-in_default
returns-in_default c =
    let a = c.args in
    grant_beyond a.p.now a.k a.s.now a.high c.in_default.ensures

pub returns : goal.returns
returns c =
    let a = c.args in
    rw (← c.in-Some.ensures)
    (granted a.p.now c.in-Some.node.number a.s.now a.high (omega arith) (omega arith)
    c.granted_more.result c.replace.new.s c.granted_more.ensures c.replace.ensures)
