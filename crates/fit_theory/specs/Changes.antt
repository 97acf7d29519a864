-- The single changes of an offer in the request's order, and what each case of the answer means.
use Rattle.std.specs.Prelude.{ℕ, ◌≤◌, ◌<◌, ◌≡◌, ◌⊎◌}
use Rattle.rules.specs.Plan.{Plan, shortest}
use Rattle.rules.specs.Drawn.{Within}
use Rattle.rules.specs.Core.{Core}
use Rattle.rules.specs.Rows.{load}
use Rattle.offers.specs.Offers.{Offer}
use Rattle.fit.specs.Change.{Fit, Answer, Packets, Bits, Release, Nothing}

pub data Change : Type 0 where
  -- so many packets, for the same node and b
  packets : ℕ → Change
  -- packets of so many bits, for the same node and n
  bits : ℕ → Change
  -- the whole release of a node
  release : ℕ → Change

module _ (p : Plan) (s : Core) where
  -- Which of two stands before the other: the larger n, then the larger b, then "the least n × c, the lower number winning a tie".
  abbrev pub Before : Change → Change → Type 0
  Before (packets m) (packets n) = n < m
  Before (packets m) (bits b) = Unit {0}
  Before (packets m) (release j) = Unit {0}
  Before (bits a) (packets n) = ⊥
  Before (bits a) (bits b) = b < a
  Before (bits a) (release j) = Unit {0}
  Before (release i) (packets n) = ⊥
  Before (release i) (bits b) = ⊥
  Before (release i) (release j) =
      (load p (s.latest i) < load p (s.latest j)) ⊎ ((load p (s.latest i) ≡ load p (s.latest j)) × (i < j))

  module _ (o : Offer) where
    -- "lower n of at least 1", "lower b from 512 on", and "the other node", for which something is reserved: else its release is of no
    -- use (`no_use` in Smallest)
    abbrev pub Possible : Change → Type 0
    Possible (packets m) = (1 ≤ m) × (m < o.packets)
    Possible (bits b) = (shortest p ≤ b) × (b < o.bits)
    Possible (release j) = Within p.nodes j × (j ≡ o.node → ⊥) × (1 ≤ (s.latest j).packets)

    module _ (Fits Fails : Change → Type 0) where
      -- "Each change named is shown to fit, and every change before it in this order to fail"
      pub record First (d : Change) : Type 0 where
        pub possible : Possible d
        pub fits : Fits d
        pub before : (e : Change) → Possible e → Before e d → Fails e

      -- What each case means, where request 9 gave this answer: "an offer whose Slip 9 answer isn't 17 gets that answer back"; of a 17
      -- the change that is named is the first that fits, and every one fails "if none is named".
      abbrev pub Means : ℕ → Fit → Type 0
      Means answer (Answer r) = (r ≡ answer) × (answer ≡ 17 → ⊥)
      Means answer (Packets n) = (answer ≡ 17) × First (packets n)
      Means answer (Bits b) = (answer ≡ 17) × First (bits b)
      Means answer (Release j) = (answer ≡ 17) × First (release j)
      Means answer Nothing = (answer ≡ 17) × ((d : Change) → Possible d → Fails d)
