-- `put_hub` meets its contract: four stores.
use borrow.Author.Rules.{rules}
use Rattle.plan_tree.specs.Tables.{put_hub}
use Rattle.plan_tree.proofs.stores.put_hub.Goals as goal

pub returns : goal.returns
unfolding put_hub
returns c = search rules
