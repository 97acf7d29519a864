-- The changes of an offer by a room, whatever room it is and whatever the tables hold: so a hall can hand over a lesser one.
use Rattle.std.specs.Prelude.{ℕ, ◌+◌, ◌≤◌, ◌<◌}
use Rattle.rules.specs.Plan.{Plan}
use Rattle.rules.specs.Core.{Core}
use Rattle.rules.specs.Rows.{load}
use Rattle.offers.specs.Offers.{Offer}
use Rattle.fit.specs.Fit.{fit_within}
use Rattle.fit_theory.specs.Changes.{Change, packets, bits, release, Means}

-- n × c of the offer so changed
abbrev pub takes : Plan → Offer → Change → ℕ
takes p o (packets n) = load p (record { packets = n; bits = o.bits })
takes p o (bits b) = load p (record { packets = o.packets; bits = b })
takes p o (release j) = load p (record { packets = o.packets; bits = o.bits })

-- the room that there is for it then
abbrev pub has : Plan → Core → ℕ → Change → ℕ
has p s room (packets n) = room
has p s room (bits b) = room
has p s room (release j) = room + load p (s.latest j)

-- what `fit::within` answers, which is asked only of a 17
abbrev pub ByRoom : Plan → Core → ℕ → Offer → Type 0
ByRoom p s room o =
    Means p s o (λ d. takes p o d ≤ has p s room d) (λ d. has p s room d < takes p o d) 17
    (fit_within p s room o.node o.packets o.bits)
