-- Demand 3 of hub-by-hub control, for every plan that is taken.
use mathlib.Core.List.{List}
use Rattle.rules.specs.Plan.{Plan}
use Rattle.rules.specs.Drawn.{Drawn}
use Rattle.rules.specs.Call.{Call}
use Rattle.rules.specs.Control.{control}
use Rattle.rules.specs.Run.{made}
use Rattle.rules.specs.Demand.{Holds3}
use Rattle.rules.proofs.Control.FollowsFlat.{control_follows}
use Rattle.rules.proofs.Demand3.Theorem.{demand3}

pub control_demand3 : (p : Plan) → Drawn p → (calls : List Call) → Holds3 p (made p (control p) calls).past
control_demand3 p drawn calls = demand3 p drawn.figures (control p) (control_follows p drawn) calls
