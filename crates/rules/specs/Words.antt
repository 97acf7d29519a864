-- The words of "Demand 3 over a list of calls". Each is read off the calls and
-- their answers alone: `past` is what stands before a place, the latest first.
use Rattle.std.specs.Prelude.{ℕ, ◌+◌, ◌*◌, ◌≤◌, ◌<◌, min, ◌≡◌, Bool, false, ◌&&◌, List, [], ◌∷◌, ltb, leb, eqb, if◌then◌else◌}
use Rattle.rules.specs.Choice.{sum}
use Rattle.rules.specs.Plan.{Plan}
use Rattle.rules.specs.Call.{Class, normal, high, Call, ask, off, reserve, until, step, time, Answer, taken, refused, grant, rest, quiet}
use Rattle.rules.specs.Core.{Share, nothing_reserved, frame_of}
use Rattle.rules.specs.Rows.{load}
use Rattle.rules.specs.Run.{Entry}

-- the time that an entry brings the clock to: an accepted event's, or a handled instant's
pub data Moved : Type 0 where
  stays : Moved
  to : ℕ → Moved

abbrev pub clock_by : Call → Answer → Moved
clock_by call taken = to (time call)
clock_by call (refused n) = stays
clock_by call (grant s k c end moves) = to s
clock_by call (rest s moves) = to s
clock_by call quiet = stays

abbrev pub moved_to : Moved → ℕ → ℕ
moved_to stays t = t
moved_to (to s) t = s

-- the clock at a place, at first 0
unfoldable pub clock_at : List Entry → ℕ
clock_at [] = 0
clock_at (e ∷ past) = moved_to (clock_by e.call e.answer) (clock_at past)

-- the reservation that an entry makes for node k to hold in frames that start after it
abbrev pub reserved_by : ℕ → ℕ → Call → Answer → Share → Share
reserved_by start k (reserve t j n b) taken r = if eqb j k && ltb t start then record { packets = n; bits = b } else r
reserved_by start k (reserve t j n b) (refused m) r = r
reserved_by start k (reserve t j n b) (grant s i c end moves) r = r
reserved_by start k (reserve t j n b) (rest s moves) r = r
reserved_by start k (reserve t j n b) quiet r = r
reserved_by start k (ask c t j b) answer r = r
reserved_by start k (off t j) answer r = r
reserved_by start k (until t) answer r = r
reserved_by start k (step t) answer r = r

-- Reserved in frame f, and in force there: the n and b of k's last accepted reserve with t below f × T, or n = 0 if there is none
unfoldable pub reserved : Plan → ℕ → ℕ → List Entry → Share
reserved p k f [] = nothing_reserved
reserved p k f (e ∷ past) = reserved_by (f * p.frame) k e.call e.answer (reserved p k f past)

-- k's request at a place: none, or the class that its event asked for, the event's time and its length
pub data Asked : Type 0 where
  none : Asked
  asked : Class → ℕ → ℕ → Asked

abbrev pub asked_by : ℕ → Call → Answer → Asked → Asked
asked_by k (ask c t j b) taken r = if eqb j k then asked c t b else r
asked_by k (ask c t j b) (refused m) r = r
asked_by k (ask c t j b) (grant s i d end moves) r = r
asked_by k (ask c t j b) (rest s moves) r = r
asked_by k (ask c t j b) quiet r = r
asked_by k (off t j) taken r = if eqb j k then none else r
asked_by k (off t j) (refused m) r = r
asked_by k (off t j) (grant s i d end moves) r = r
asked_by k (off t j) (rest s moves) r = r
asked_by k (off t j) quiet r = r
asked_by k (reserve t j n b) answer r = r
asked_by k (until t) answer r = r
asked_by k (step t) taken r = r
asked_by k (step t) (refused m) r = r
asked_by k (step t) (grant s j c end moves) r = if eqb j k then none else r
asked_by k (step t) (rest s moves) r = r
asked_by k (step t) quiet r = r

-- its last accepted normal or high before the place, unless an accepted off of k or a grant to k came since
unfoldable pub request_at : ℕ → List Entry → Asked
request_at k [] = none
request_at k (e ∷ past) = asked_by k e.call e.answer (request_at k past)

-- a frame start leaves a high request of b bits high where n is at least 1 and b at most the b in force
pub record Keeps (r : Share) (b : ℕ) : Type 0 where
  pub some : 1 ≤ r.packets
  pub fits : b ≤ r.bits

-- k's request is high at a place: a high event put it up while k's n in force
-- was at least 1, and no frame start since, up to the clock, made it normal
pub record High (p : Plan) (k : ℕ) (past : List Entry) : Type 0 where
  pub put_up : ℕ
  pub length : ℕ
  pub stands : request_at k past ≡ asked high put_up length
  pub in_force : 1 ≤ (reserved p k (frame_of p put_up) past).packets
  pub kept : (f : ℕ) → frame_of p put_up < f → f ≤ frame_of p (clock_at past) → Keeps (reserved p k f past) length

-- A high grant of k in f: a step's answer that grants k in class high, with s in f; its end is put before the earlier ones'
abbrev pub ends_by : Plan → ℕ → ℕ → Call → Answer → List ℕ → List ℕ
ends_by p k f (step t) (grant s j high end moves) ends = if eqb j k && eqb (frame_of p s) f then end ∷ ends else ends
ends_by p k f (step t) (grant s j normal end moves) ends = ends
ends_by p k f (step t) taken ends = ends
ends_by p k f (step t) (refused m) ends = ends
ends_by p k f (step t) (rest s moves) ends = ends
ends_by p k f (step t) quiet ends = ends
ends_by p k f (ask c t j b) answer ends = ends
ends_by p k f (off t j) answer ends = ends
ends_by p k f (reserve t j n b) answer ends = ends
ends_by p k f (until t) answer ends = ends

-- the ends of k's high grants in f, the latest first
unfoldable pub high_grants : Plan → ℕ → ℕ → List Entry → List ℕ
high_grants p k f [] = []
high_grants p k f (e ∷ past) = ends_by p k f e.call e.answer (high_grants p k f past)

-- whether an entry is a step that answers a grant or a rest at a time in f
abbrev pub turn_in : Plan → ℕ → Call → Answer → Bool
turn_in p f (step t) (grant s j c end moves) = eqb (frame_of p s) f
turn_in p f (step t) (rest s moves) = eqb (frame_of p s) f
turn_in p f (step t) taken = false
turn_in p f (step t) (refused m) = false
turn_in p f (step t) quiet = false
turn_in p f (ask c t j b) answer = false
turn_in p f (off t j) answer = false
turn_in p f (reserve t j n b) answer = false
turn_in p f (until t) answer = false

-- whether an entry is a step with at least this bound, answered quiet
abbrev pub quiet_to : ℕ → Call → Answer → Bool
quiet_to bound (step t) quiet = leb bound t
quiet_to bound (step t) taken = false
quiet_to bound (step t) (refused m) = false
quiet_to bound (step t) (grant s j c end moves) = false
quiet_to bound (step t) (rest s moves) = false
quiet_to bound (ask c t j b) answer = false
quiet_to bound (off t j) answer = false
quiet_to bound (reserve t j n b) answer = false
quiet_to bound (until t) answer = false

-- the delay limit of node k in a frame by the reservations r in force: D + n
-- × c of k + the sum over every other node j of min(n, n of j) × c of j
abbrev pub delay_part : Plan → ℕ → (ℕ → Share) → ℕ → ℕ
delay_part p k r j =
    if eqb j k then load p (r k)
    else min (r k).packets (r j).packets * ((r j).bits + p.overhead)

unfoldable pub delay_limit : Plan → ℕ → (ℕ → Share) → ℕ
delay_limit p k r = p.interrupt + sum p.nodes (delay_part p k r)
