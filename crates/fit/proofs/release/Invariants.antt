use mathlib.Core.Path.{◌≡◌}
use Rattle.fit.proofs.OnePass.{so_far, costs}
use Rattle.fit.proofs.release.Given as goal

abbrev pub invariant-loop-j : goal.invariant-loop-j
invariant-loop-j l = (l.best ≡ so_far l.p l.s l.room l.k l.needed l.j) × (l.least ≡ costs l.p l.s l.room l.k l.needed l.best)
