-- `requests::put_bit` meets its contract: its return is a law of NodeLaws.
use Rattle.requests.proofs.NodeLaws.{bit_put}
use Rattle.requests.proofs.put_bit.Goals as goal

pub returns : goal.returns
returns c =
    let a = c.args in
    bit_put a.p.now a.high a.node.number a.x a.s.now c.counts-b.result c.mend.new.s c.counts-b.ensures
    c.mend.ensures
