-- `requests::put_request` meets its contract. Each return is a law of NodeLaws.
use Rattle.requests.proofs.NodeLaws.{request_beyond}
use Rattle.requests.proofs.put_request.Goals as goal

pub returns-in_default : goal.returns-in_default
returns-in_default c =
    let a = c.args in
    request_beyond a.p.now a.k a.s.now a.x c.in_default.ensures

pub returns : goal.returns
returns c = rw (← c.in-Some.ensures) c.replace.ensures
