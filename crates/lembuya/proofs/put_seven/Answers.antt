-- `put_seven` meets its contract: the seven stores are the definition's, at row 0. Assumes nothing.
use mathlib.Core.Path.{refl}
use Rattle.call_list.specs.Table.{put_seven}
use Rattle.lembuya.proofs.put_seven.Goals as goal

pub returns : goal.returns
unfolding put_seven
returns c = refl
