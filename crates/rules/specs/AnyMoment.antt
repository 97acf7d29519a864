-- Request 5 of document 02, "Any moment, not only a frame's start": how long one high request can
-- wait, as one claim about a list of calls and answers, the latest first. No state is mentioned.
use Rattle.std.specs.Prelude.{ℕ, ◌+◌, ◌≤◌, ◌<◌, ◌≡◌, Bool, true, false, not, ◌&&◌, ◌||◌, List, [], ◌∷◌, ◌++◌, eqb, length, if◌then◌else◌}
use Rattle.rules.specs.Choice.{sum}
use Rattle.rules.specs.Plan.{Plan}
use Rattle.rules.specs.Drawn.{Within}
use Rattle.rules.specs.Call.{Class, normal, high, Call, ask, off, reserve, until, step, Answer, taken, refused, grant, rest, quiet}
use Rattle.rules.specs.Core.{Share, frame_of}
use Rattle.rules.specs.Run.{Entry}
use Rattle.rules.specs.Words.{clock_at, reserved, high_grants}
use Rattle.rules.specs.Demand.{RunTo}

-- a grant to a node, with its class and time, or none
pub data Grant : Type 0 where
  none : Grant
  granted : Class → ℕ → Grant

abbrev pub grant_by : ℕ → Call → Answer → Grant
grant_by k (step t) (grant s j c end moves) = if eqb j k then granted c s else none
grant_by k (step t) taken = none
grant_by k (step t) (refused m) = none
grant_by k (step t) (rest s moves) = none
grant_by k (step t) quiet = none
grant_by k (ask c t j b) answer = none
grant_by k (off t j) answer = none
grant_by k (reserve t j n b) answer = none
grant_by k (until t) answer = none

abbrev pub or_else : Grant → Grant → Grant
or_else none later = later
or_else (granted c s) later = granted c s

-- the grant to k in the calls `since`: the first that comes
unfoldable pub first_grant : ℕ → List Entry → Grant
first_grant k [] = none
first_grant k (e ∷ since) = or_else (first_grant k since) (grant_by k e.call e.answer)

-- whether an entry breaks the stand of k's high request: an accepted normal or off of k. Behind an accepted high of k
-- a high request of k still stands: where no change comes into force, k has something reserved, and none is taken as normal
abbrev pub breaks : ℕ → Call → Answer → Bool
breaks k (ask normal t j b) taken = eqb j k
breaks k (ask high t j b) taken = false
breaks k (ask c t j b) (refused m) = false
breaks k (ask c t j b) (grant s i d end moves) = false
breaks k (ask c t j b) (rest s moves) = false
breaks k (ask c t j b) quiet = false
breaks k (off t j) taken = eqb j k
breaks k (off t j) (refused m) = false
breaks k (off t j) (grant s i d end moves) = false
breaks k (off t j) (rest s moves) = false
breaks k (off t j) quiet = false
breaks k (reserve t j n b) answer = false
breaks k (until t) answer = false
breaks k (step t) answer = false

abbrev pub came : Grant → Bool
came none = false
came (granted c s) = true

-- Kept standing: no accepted normal or off of k in the calls `since` before the grant to k, or to their end if none comes
unfoldable pub kept_standing : ℕ → List Entry → Bool
kept_standing k [] = true
kept_standing k (e ∷ since) = kept_standing k since && (came (first_grant k since) || not (breaks k e.call e.answer))

-- the time up to which k waits: the grant's, or the clock if none comes
abbrev pub waits_to : Grant → ℕ → ℕ
waits_to none clock = clock
waits_to (granted c s) clock = s

-- D + the sum of c = b + O of every other node with n at least 1, by the reservations r
abbrev pub wait_part : Plan → ℕ → (ℕ → Share) → ℕ → ℕ
wait_part p k r j =
    if eqb j k then 0 else
    (if eqb (r j).packets 0 then 0 else (r j).bits + p.overhead)

unfoldable pub wait_limit : Plan → ℕ → (ℕ → Share) → ℕ
wait_limit p k r = p.interrupt + sum p.nodes (wait_part p k r)

module _ (p : Plan) (k t : ℕ) (whole : List Entry) where
  -- n: what k has reserved in the frame of t
  abbrev pub packets_then : ℕ
  packets_then = (reserved p k (frame_of p t) whole).packets

  -- the frame of the grant to k in the calls `since`, or of the clock if none comes
  abbrev pub last_frame : List Entry → ℕ
  last_frame since = frame_of p (waits_to (first_grant k since) (clock_at whole))

  -- t + D + the sum of c of every other node with n at least 1 in the frame of t
  abbrev pub latest_grant : ℕ
  latest_grant = t + wait_limit p k (λ j. reserved p j (frame_of p t) whole)

  -- the steps are run that far if they are run to a time above the limit
  abbrev pub far_enough : ℕ
  far_enough = latest_grant + 1

  -- Node k puts up a high request at t: an accepted high with `before` what came before it, and `since` what came since.
  -- A later high of k in the stand only replaces the packet, and the limit counts from the first
  pub record PutUp : Type 0 where
    pub bits : ℕ
    pub since : List Entry
    pub before : List Entry
    pub place : whole ≡ since ++ (record { call = ask high t k bits; answer = taken } ∷ before)
    -- with fewer than n high grants of k in that frame before
    pub left : length (high_grants p k (frame_of p t) before) < packets_then
    -- it is kept standing, perhaps replaced by other high ones
    pub stands : kept_standing k since ≡ true
    -- no change comes into force: in each frame from the request's up to the last
    -- one of the wait, every node has reserved what it has in the request's
    pub unchanged : (j f : ℕ) → Within p.nodes j → frame_of p t ≤ f → f ≤ last_frame since
        → reserved p j f whole ≡ reserved p j (frame_of p t) whole

  -- k is granted, in class high, no later
  pub record Served (since : List Entry) : Type 0 where
    pub time : ℕ
    pub is : first_grant k since ≡ granted high time
    pub soon : time ≤ latest_grant

-- Over a list of calls, with the steps run that far: the clock is above the
-- limit, or the last call is a step with a bound above it, answered quiet
pub record AnyMoment (p : Plan) (whole : List Entry) : Type 0 where
  pub served : (k t : ℕ) (request : PutUp p k t whole) → RunTo (far_enough p k t whole) whole → Served p k t whole request.since
