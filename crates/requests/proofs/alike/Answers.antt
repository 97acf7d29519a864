-- `requests::alike` meets its contract.
use mathlib.Core.Path.{ap₂}
use mathlib.Core.Bool.{beq}
use Rattle.requests.proofs.alike.Goals as goal

pub returns : goal.returns
returns c = ap₂ beq c.any_shown.ensures c.any_shown-2.ensures
