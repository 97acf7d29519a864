-- `requests::replace` meets its contract: its return is a law of NodeLaws.
use native.Mathlib.Omega.{arith}
use Rattle.requests.proofs.NodeLaws.{requested}
use Rattle.requests.proofs.replace.Goals as goal

pub returns : goal.returns
returns c =
    let a = c.args in
    requested a.p.now a.node.number a.s.now a.x (omega arith) (omega arith)
    c.standing_after.result c.put_bits.new.s c.standing_after.ensures c.put_bits.ensures
