-- `close_hub` meets its contract: one store.
use borrow.Author.Rules.{rules}
use Rattle.plan_tree.specs.Tables.{put_ports}
use Rattle.plan_tree.proofs.readers.close_hub.Goals as goal

pub returns : goal.returns
unfolding put_ports
returns c = search rules
