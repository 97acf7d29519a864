-- The time at which a node's standing request was first put up (request 1 of document 02), in the manner of the words of
-- demand 3: read off the calls and their answers alone. `past` is what stands before a place, the latest first.
use Rattle.std.specs.Prelude.{ℕ, ◌+◌, ◌-◌, ◌*◌, Bool, not, ◌&&◌, List, [], ◌∷◌, leb, eqb, if◌then◌else◌}
use Rattle.rules.specs.Choice.{first}
use Rattle.rules.specs.Plan.{Plan}
use Rattle.rules.specs.Call.{Class, normal, high, same, Call, ask, off, reserve, until, step, Answer, taken, refused, grant, rest, quiet}
use Rattle.rules.specs.Core.{Share, frame_of}
use Rattle.rules.specs.Rows.{put_up}
use Rattle.rules.specs.Run.{Entry}
use Rattle.rules.specs.Words.{reserved}

-- k's request as its latest event put it up: the class, the time since which it stands in it, and the event's own time and length
pub data Up : Type 0 where
  nothing : Up
  up : Class → ℕ → ℕ → ℕ → Up

-- how a request stands at a time: not at all, or in a class since a time
pub data Stand : Type 0 where
  absent : Stand
  stands : Class → ℕ → Stand

-- whether a frame's start leaves a high request of b bits high: n is at least 1 and b at most the b in force
abbrev pub keeps : Share → ℕ → Bool
keeps r b = leb 1 r.packets && leb b r.bits

-- the first frame behind that of u, up to that of t, whose start makes k's high request of b bits normal, or 0 if there is none
abbrev pub turning_frame : Plan → ℕ → ℕ → ℕ → ℕ → List Entry → ℕ
turning_frame p k u b t past = first (λ f. not (keeps (reserved p k f past) b)) (frame_of p u + 1) (frame_of p t - frame_of p u)

-- how it stands once the clock has come to t: a frame's start that made it normal set its time anew, to that start
abbrev pub stand_by : Plan → ℕ → ℕ → List Entry → Up → Stand
stand_by p k t past nothing = absent
stand_by p k t past (up normal since u b) = stands normal since
stand_by p k t past (up high since u b) =
    let f = turning_frame p k u b t past in
    if eqb f 0 then stands high since else stands normal (f * p.frame)

-- the time of a request of class c put up at t: that of the one that it replaces, if that one stands in the same class, else t
abbrev pub first_put_up : Class → ℕ → Stand → ℕ
first_put_up c t absent = t
first_put_up c t (stands d since) = if same c d then since else t

-- an accepted request of k, in the class that it is put up in; an accepted off of k and a grant to k remove it
abbrev pub up_by : Plan → ℕ → Call → Answer → List Entry → Up → Up
up_by p k (ask c t j b) taken past r =
    let d = put_up (reserved p k (frame_of p t) past) c in
    if eqb j k then up d (first_put_up d t (stand_by p k t past r)) t b else r
up_by p k (ask c t j b) (refused m) past r = r
up_by p k (ask c t j b) (grant s i d end moves) past r = r
up_by p k (ask c t j b) (rest s moves) past r = r
up_by p k (ask c t j b) quiet past r = r
up_by p k (off t j) taken past r = if eqb j k then nothing else r
up_by p k (off t j) (refused m) past r = r
up_by p k (off t j) (grant s i d end moves) past r = r
up_by p k (off t j) (rest s moves) past r = r
up_by p k (off t j) quiet past r = r
up_by p k (reserve t j n b) answer past r = r
up_by p k (until t) answer past r = r
up_by p k (step t) taken past r = r
up_by p k (step t) (refused m) past r = r
up_by p k (step t) (grant s j c end moves) past r = if eqb j k then nothing else r
up_by p k (step t) (rest s moves) past r = r
up_by p k (step t) quiet past r = r

unfoldable pub up_at : Plan → ℕ → List Entry → Up
up_at p k [] = nothing
up_at p k (e ∷ past) = up_by p k e.call e.answer past (up_at p k past)

-- k's request at a place, once the clock has come to t
abbrev pub stand_at : Plan → ℕ → ℕ → List Entry → Stand
stand_at p k t past = stand_by p k t past (up_at p k past)
