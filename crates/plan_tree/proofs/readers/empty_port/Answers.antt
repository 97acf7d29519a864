-- `empty_port` meets its contract: one store.
use borrow.Author.Rules.{rules}
use Rattle.plan_tree.specs.Tables.{put_empty}
use Rattle.plan_tree.proofs.readers.empty_port.Goals as goal

pub returns : goal.returns
unfolding put_empty
returns c = search rules
