-- `put` meets its contract: the seven stores are the definition's.
use mathlib.Core.Path.{refl}
use Rattle.call_list.specs.Table.{put_seven}
use Rattle.call_list.proofs.Seven.put.Goals as goal

pub returns : goal.returns
unfolding put_seven
returns c = refl
