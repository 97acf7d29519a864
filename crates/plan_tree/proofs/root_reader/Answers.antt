-- `root_reader` meets its contract: the root's level is stored, and the hub reader goes on from there.
use Rattle.plan_tree.specs.Tables.{put_root}
use Rattle.plan_tree.proofs.root_reader.Goals as goal

pub returns : goal.returns
unfolding put_root
returns c = c.hub_reader.ensures
