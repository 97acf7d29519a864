-- `at_clock` meets its contract: the time is the clock's.
use mathlib.Core.Path.{◌∙◌, ap}
use Prim.Native.Nat.{ℕ}
use Rattle.offers.specs.Offers.{offers_left}
use Rattle.offers.proofs.at_clock.Goals as goal

pub returns : goal.returns
returns c =
    let w = c.at_time.ensures in
    let a = c.args in
    (w.0, w.1 ∙ ap (λ (t : ℕ). offers_left a.p.now t a.s.now a.offers.now a.answers.now) c.clock.ensures)
