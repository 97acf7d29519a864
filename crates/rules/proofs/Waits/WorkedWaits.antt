-- The worked waits, by one computation each: as they are recorded, and as the words tell them.
use mathlib.Core.Path.{refl}
use Rattle.rules.specs.Choice.{any, sum, first}
use Rattle.rules.specs.Core.{advance, counts_in, counts, held, due, sought}
use Rattle.rules.specs.Control.{below, lowest, walk, led, nearest, choose_by}
use Rattle.rules.specs.Machine.{perform}
use Rattle.rules.specs.Run.{made}
use Rattle.rules.specs.Words.{reserved}
use Rattle.rules.specs.WaitWords.{up_at}
use Rattle.rules.specs.Waits.{come_to, watched}
use Rattle.rules.specs.WaitRuns.{waits_seen, waits_told, figures, expected, worked_waits, AllRight}
use Rattle.rules.proofs.Laws.Rows.{all_right}

pub worked_right : AllRight worked_waits
unfolding figures any sum first advance counts_in counts held due sought below lowest walk led nearest choose_by perform made
    reserved up_at come_to watched waits_seen waits_told
worked_right = all_right figures expected worked_waits (refl, (refl, (refl, (refl, (refl, (refl, (refl, (refl, (refl, (refl, (refl, (refl, (refl, (refl, (refl, (refl, (refl, (refl, tt))))))))))))))))))
