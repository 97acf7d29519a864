-- `lembuya_strict` meets its contract, by the plan's own cell.
use lib.ListN.{get_or}
use Rattle.plan.specs.Tables.{plan_of, strict_cell, strict_of}
use Rattle.plan.proofs.PlanLaws.{byte_code}
use Rattle.lembuya.proofs.lembuya_strict.Goals as goal

pub returns : goal.returns
unfolding plan_of
returns c = byte_code (strict_of (get_or c.args.p.now strict_cell 0))
