-- `put_figures` meets its contract: seven stores.
use Rattle.plan.specs.Tables.{put_figures}
use Rattle.plan.proofs.PlanLaws.{byte_code}
use borrow.Author.Rules.{rules}
use Rattle.plan.proofs.put_figures.Goals as goal

pub returns : goal.returns
unfolding put_figures
returns c = search (rules, byte_code)
