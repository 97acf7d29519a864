-- What a hub holds whatever way it gives turns: clock, line, requests,
-- reservations, high grants. "Events" (frames) and "Selection" (instants).
use Rattle.std.specs.Prelude.{ℕ, ◌+◌, ◌*◌, ◌/◌, Bool, true, false, not, ◌&&◌, ◌||◌, ltb, eqb, if◌then◌else◌}
use Rattle.rules.specs.Choice.{any}
use Rattle.rules.specs.Plan.{Plan}
use Rattle.rules.specs.Call.{Class, normal, high}

-- a node's request: none stands, or one of a class with its length in bits
pub data Request : Type 0 where
  none : Request
  standing : Class → ℕ → Request

-- a reservation: n packets a frame, each at most b bits
pub record Share : Type 0 where
  pub packets : ℕ
  pub bits : ℕ

-- the line rests, or is busy until an end
pub data Line : Type 0 where
  resting : Line
  busy : ℕ → Line

-- of node k: its request, the reservation in force, the latest accepted one, and its high grants in the clock's frame
pub record Core : Type 0 where
  pub clock : ℕ
  pub line : Line
  pub request : ℕ → Request
  pub force : ℕ → Share
  pub latest : ℕ → Share
  pub granted : ℕ → ℕ

abbrev pub nothing_reserved : Share
nothing_reserved = record { packets = 0; bits = 0 }

-- a hub before any event: in frame 0 nothing is reserved
abbrev pub fresh : Core
fresh =
    record {
      clock = 0;
      line = resting;
      request = λ k. none;
      force = λ k. nothing_reserved;
      latest = λ k. nothing_reserved;
      granted = λ k. 0;
    }

-- Frame f runs from f × T up to, not including, (f + 1) × T
abbrev pub frame_of : Plan → ℕ → ℕ
frame_of p t = t / p.frame

-- a standing high request whose node has n = 0, or which is longer than the b in force, becomes a normal request
abbrev pub reclassed : Share → Request → Request
reclassed r none = none
reclassed r (standing normal b) = standing normal b
reclassed r (standing high b) = if eqb r.packets 0 || ltb r.bits b then standing normal b else standing high b

-- the start of a frame, as the clock comes to t: reservations come into force together, and high grants count from 0
abbrev pub frame_start : ℕ → Core → Core
frame_start t s =
    record {
      clock = t;
      line = s.line;
      request = λ k. reclassed (s.latest k) (s.request k);
      force = s.latest;
      latest = s.latest;
      granted = λ k. 0;
    }

abbrev pub same_frame : ℕ → Core → Core
same_frame t s =
    record {
      clock = t;
      line = s.line;
      request = s.request;
      force = s.force;
      latest = s.latest;
      granted = s.granted;
    }

-- The clock comes to t. Several frame starts on the way do the work of one: nothing is reserved or granted between them.
unfoldable pub advance : Plan → ℕ → Core → Core
advance p t s = if ltb (frame_of p s.clock) (frame_of p t) then frame_start t s else same_frame t s

abbrev pub is_class : Class → Request → Bool
is_class c none = false
is_class normal (standing normal b) = true
is_class normal (standing high b) = false
is_class high (standing normal b) = false
is_class high (standing high b) = true

abbrev pub bits_of : Request → ℕ
bits_of none = 0
bits_of (standing c b) = b

-- whether k's high grants in the frame are below n
abbrev pub share_left : Core → ℕ → Bool
share_left s k = ltb (s.granted k) (s.force k).packets

-- A high request counts while its node's high grants in the frame are below n; a normal request always counts
unfoldable pub counts_in : Class → Core → ℕ → Bool
counts_in normal s k = is_class normal (s.request k)
counts_in high s k = is_class high (s.request k) && share_left s k

unfoldable pub counts : Core → ℕ → Bool
counts s k = counts_in normal s k || counts_in high s k

-- a high request that doesn't count is held, still standing
unfoldable pub held : Core → ℕ → Bool
held s k = is_class high (s.request k) && not (share_left s k)

-- the due instant
pub data Due : Type 0 where
  never : Due
  at : ℕ → Due

abbrev pub due_at_rest : Plan → Core → Due
due_at_rest p s =
    if any p.nodes (counts s) then at s.clock else
    (if any p.nodes (held s) then at ((frame_of p s.clock + 1) * p.frame) else never)

abbrev pub due_on : Line → Plan → Core → Due
due_on (busy e) p s = at e
due_on resting p s = due_at_rest p s

unfoldable pub due : Plan → Core → Due
due p s = due_on s.line p s

-- whether an instant is due strictly before t
abbrev pub before : Due → ℕ → Bool
before never t = false
before (at d) t = ltb d t

-- the class sought is high if any high request counts, else normal; nothing is sought where nothing counts
pub data Sought : Type 0 where
  nothing : Sought
  class : Class → Sought

unfoldable pub sought : Plan → Core → Sought
sought p s =
    if any p.nodes (counts_in high s) then class high else
    (if any p.nodes (counts_in normal s) then class normal else nothing)
