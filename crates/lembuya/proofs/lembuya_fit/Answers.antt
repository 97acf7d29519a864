-- `lembuya_fit` meets its contract: what is written in each case of what `fit::at_time` answers, and nothing where it isn't a change.
use mathlib.Core.Path.{refl}
use Rattle.offers.specs.Offers.{Offer}
use Rattle.lembuya.specs.Exports.{put_fit}
use Rattle.lembuya.proofs.Laws.{fit_number, fitted}
use Rattle.lembuya.proofs.lembuya_fit.Goals as goal

pub returns-in-Ok-Granted : goal.returns-in-Ok-Granted
unfolding fit_number put_fit
returns-in-Ok-Granted c =
    let a = c.args in
    let asked : Offer = record { node = a.k; packets = a.n; bits = a.b } in
    let w = c.in-Ok-Granted in
    let told = fitted a.p.now a.s.now asked a.change.now (rw w.field-0-is at w.ensures) c.clock.ensures refl refl in
    record { value = told.0; change_after = told.1 }

pub returns-in-Ok-Packets : goal.returns-in-Ok-Packets
unfolding fit_number put_fit
returns-in-Ok-Packets c =
    let a = c.args in
    let asked : Offer = record { node = a.k; packets = a.n; bits = a.b } in
    let w = c.in-Ok-Packets in
    let told = fitted a.p.now a.s.now asked a.change.now (rw w.field-0-is at w.ensures) c.clock.ensures c.put_change.ensures.value c.put_change.ensures.change_after in
    record { value = told.0; change_after = told.1 }

pub returns-in-Ok-Bits : goal.returns-in-Ok-Bits
unfolding fit_number put_fit
returns-in-Ok-Bits c =
    let a = c.args in
    let asked : Offer = record { node = a.k; packets = a.n; bits = a.b } in
    let w = c.in-Ok-Bits in
    let told = fitted a.p.now a.s.now asked a.change.now (rw w.field-0-is at w.ensures) c.clock.ensures c.put_change-in-Ok-Bits.ensures.value c.put_change-in-Ok-Bits.ensures.change_after in
    record { value = told.0; change_after = told.1 }

pub returns-in-Ok-Release : goal.returns-in-Ok-Release
unfolding fit_number put_fit
returns-in-Ok-Release c =
    let a = c.args in
    let asked : Offer = record { node = a.k; packets = a.n; bits = a.b } in
    let w = c.in-Ok-Release in
    let told = fitted a.p.now a.s.now asked a.change.now (rw w.field-0-is at w.ensures) c.clock.ensures c.put_change-in-Ok-Release.ensures.value c.put_change-in-Ok-Release.ensures.change_after in
    record { value = told.0; change_after = told.1 }

pub returns-in-Ok-Nothing : goal.returns-in-Ok-Nothing
unfolding fit_number put_fit
returns-in-Ok-Nothing c =
    let a = c.args in
    let asked : Offer = record { node = a.k; packets = a.n; bits = a.b } in
    let w = c.in-Ok-Nothing in
    let told = fitted a.p.now a.s.now asked a.change.now (rw w.field-0-is at w.ensures) c.clock.ensures c.put_change-in-Ok-Nothing.ensures.value c.put_change-in-Ok-Nothing.ensures.change_after in
    record { value = told.0; change_after = told.1 }

pub returns-in-Err : goal.returns-in-Err
unfolding fit_number put_fit
returns-in-Err c =
    let a = c.args in
    let asked : Offer = record { node = a.k; packets = a.n; bits = a.b } in
    let w = c.in-Err in
    let told = fitted a.p.now a.s.now asked a.change.now (w.ensures) c.clock.ensures c.from.ensures refl in
    record { value = told.0; change_after = told.1 }
