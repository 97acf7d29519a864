-- `put_node` meets its contract: three stores.
use borrow.Author.Rules.{rules}
use Rattle.plan_tree.specs.Tables.{put_node}
use Rattle.plan_tree.proofs.stores.put_node.Goals as goal

pub returns : goal.returns
unfolding put_node
returns c = search rules
