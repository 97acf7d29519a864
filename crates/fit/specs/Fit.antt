-- "After a 17, tell the planner the smallest single change that would turn it into a grant."
use Rattle.std.specs.Prelude.{ℕ, zero, suc, ◌+◌, ◌-◌, Bool, not, ◌&&◌, ◌||◌, List, eqb, ltb, leb, if◌then◌else◌}
use Rattle.rules.specs.Choice.{put}
use Rattle.rules.specs.Plan.{Plan, shortest}
use Rattle.rules.specs.Core.{Core, nothing_reserved}
use Rattle.rules.specs.Rows.{load, loads}
use Rattle.cells.specs.Decode.{plan_in, core_of}
use Rattle.offers.specs.Offers.{Offer, answer_to}
use Rattle.fit.specs.Change.{Fit, Answer, Packets, Bits, Release, Nothing}

-- What the frame has left for node k beside D and the other nodes' latest accepted reservations: its own is replaced. Where these are more
-- than T, which no run leaves, it is taken as 0.
abbrev pub frame_room : Plan → Core → ℕ → ℕ
frame_room p s k = p.frame - (p.interrupt + loads p (put s.latest k nothing_reserved))

-- whether n packets of b bits have room
abbrev pub fits : Plan → ℕ → ℕ → ℕ → Bool
fits p room n b = leb (load p (record { packets = n; bits = b })) room

-- the largest number below a bound, from `least` on, that passes a test; 0 if there is none
unfoldable pub largest_below : ℕ → ℕ → (ℕ → Bool) → ℕ
largest_below zero least passes = 0
largest_below (suc m) least passes = if leb least m && passes m then m else largest_below m least passes

-- "the largest lower n of at least 1 for the same node and b"; 0 if none
abbrev pub lower_packets : Plan → ℕ → ℕ → ℕ → ℕ
lower_packets p room n b = largest_below n 1 (λ m. fits p room m b)

-- "the largest lower b from 512 on at the same n"; 0 if none
abbrev pub lower_bits : Plan → ℕ → ℕ → ℕ → ℕ
lower_bits p room n b = largest_below b (shortest p) (λ lower. fits p room n lower)

-- of nodes 1 to m, the one "whose whole release suffices with the least n × c, the lower number winning a tie"; 0 if none
unfoldable pub cheapest : (ℕ → Bool) → (ℕ → ℕ) → ℕ → ℕ
cheapest suffices cost zero = 0
cheapest suffices cost (suc m) =
    let j = cheapest suffices cost m in
    if suffices (suc m) && (eqb j 0 || ltb (cost (suc m)) (cost j)) then suc m else j

-- "First choice", then "if none", and "if none, say so": 0 is none
abbrev pub first_change : ℕ → ℕ → ℕ → Fit
first_change n b j = if not (eqb n 0) then Packets n else (if not (eqb b 0) then Bits b else (if not (eqb j 0) then Release j else Nothing))

module _ (p : Plan) (s : Core) where
  -- n × c of node j's latest accepted reservation
  abbrev pub cost : ℕ → ℕ
  cost j = load p (s.latest j)

  -- Whether the release of node j suffices for node k, whose offer needs so much: it is "the other node", something is reserved for it,
  -- and with its n × c there is room.
  abbrev pub suffices : ℕ → ℕ → ℕ → ℕ → Bool
  suffices room k needed j = not (eqb j k) && (not (eqb (s.latest j).packets 0) && leb needed (room + cost j))

  -- of all nodes of the plan
  abbrev pub release_for : ℕ → ℕ → ℕ → ℕ
  release_for room k needed = cheapest (suffices room k needed) cost p.nodes

  -- The change of an offer of n packets of b bits for node k. The room is what k's reservation may take at most: in a frame `frame_room`.
  unfoldable pub fit_within : ℕ → ℕ → ℕ → ℕ → Fit
  fit_within room k n b =
      first_change (lower_packets p room n b) (lower_bits p room n b) (release_for room k (load p (record { packets = n; bits = b })))

-- "An offer whose Slip 9 answer isn't 17 gets that answer back." P and s are the plan's and the cascade's cells, t is the time.
unfoldable pub fit_for : List ℕ → ℕ → List ℕ → Offer → Fit
fit_for P t s o =
    let p = plan_in P in
    let answer = answer_to P t s o in
    if eqb answer 17 then fit_within p (core_of p s) (frame_room p (core_of p s) o.node) o.node o.packets o.bits
    else Answer answer
