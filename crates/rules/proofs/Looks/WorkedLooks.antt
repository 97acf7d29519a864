-- The worked lists, by one computation: a lesser bound would be passed by each of them.
use mathlib.Core.Path.{refl}
use Rattle.rules.specs.Choice.{any, sum, first}
use Rattle.rules.specs.Plan.{deepest}
use Rattle.rules.specs.Core.{advance, counts_in, counts, held, due, sought}
use Rattle.rules.specs.Control.{below, lowest, walk, led, nearest, choose_by}
use Rattle.rules.specs.Machine.{perform}
use Rattle.rules.specs.Run.{made}
use Rattle.rules.specs.Looks.{walk_looks, nearest_looks, choose_looks}
use Rattle.rules.specs.LooksRuns.{looks, figures, worked_looks, AllRight}

pub worked_right : AllRight worked_looks
unfolding figures any sum first deepest advance counts_in counts held due sought below lowest walk led nearest choose_by perform made
    walk_looks nearest_looks choose_looks looks
worked_right = refl
