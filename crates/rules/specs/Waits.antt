-- Request 1 of document 02, "Log by waiting time": the time at which a node's standing request was first put up is recorded beside
-- the core, by a state that watches each call and its answer. So no turn looks at it.
use Rattle.std.specs.Prelude.{ℕ, ◌+◌, ◌-◌, ◌*◌, ◌≤◌, ◌≡◌, Bool, ◌&&◌, ◌↔◌, List, [], ◌∷◌, ◌++◌, map, ltb, if◌then◌else◌}
use Rattle.rules.specs.Choice.{put}
use Rattle.rules.specs.Plan.{Plan}
use Rattle.rules.specs.Call.{Class, normal, high, Call, ask, off, reserve, until, step, time, Answer, taken, refused, grant, rest, quiet}
use Rattle.rules.specs.Core.{Core, Share, Request, none, standing, frame_of, reclassed, advance, is_class}
use Rattle.rules.specs.Rows.{put_up}
use Rattle.rules.specs.Machine.{Machine, Hub, perform}
use Rattle.rules.specs.Control.{control}
use Rattle.rules.specs.Run.{Entry, fresh_hub, made}
use Rattle.rules.specs.Words.{clock_at, High}
use Rattle.rules.specs.WaitWords.{Stand, absent, stands, stand_at}

-- a standing high request that a frame's start, with this reservation in force, makes normal
abbrev pub turns_normal : Share → Request → Bool
turns_normal r q = is_class high q && is_class normal (reclassed r q)

module _ (p : Plan) where
  -- the start of the frame behind the clock's
  abbrev pub next_start : ℕ → ℕ
  next_start clock = (frame_of p clock + 1) * p.frame

  -- The recorded times once the clock has come to t. A request that a frame's start on the way makes normal
  -- gets that start: the first one, since all of them find the same reservation in force.
  unfoldable pub come_to : ℕ → Core → (ℕ → ℕ) → ℕ → ℕ
  come_to t s times k =
      if ltb (frame_of p s.clock) (frame_of p t) && turns_normal (s.latest k) (s.request k) then next_start s.clock else times k

  -- What an accepted event changes, once the clock has come to its time: a request of the class in which one
  -- stands already keeps that one's time, and any other is new
  abbrev pub recorded : Call → Core → (ℕ → ℕ) → ℕ → ℕ
  recorded (ask c t k b) s times = put times k (if is_class (put_up (s.force k) c) (s.request k) then times k else t)
  recorded (off t k) s times = times
  recorded (reserve t k n b) s times = times
  recorded (until t) s times = times
  recorded (step t) s times = times

  -- the recorded times after a call, by the core before it, the call and its answer
  abbrev pub watch : Core → Call → Answer → (ℕ → ℕ) → ℕ → ℕ
  watch s call taken times = recorded call (advance p (time call) s) (come_to (time call) s times)
  watch s call (refused n) times = times
  watch s call (grant d k c end moves) times = come_to d s times
  watch s call (rest d moves) times = come_to d s times
  watch s call quiet times = times

  -- the wait of a grant: its time less the recorded time; no other answer has one
  abbrev pub wait_of : Core → Answer → (ℕ → ℕ) → ℕ
  wait_of s taken times = 0
  wait_of s (refused n) times = 0
  wait_of s (grant d k c end moves) times = d - come_to d s times k
  wait_of s (rest d moves) times = 0
  wait_of s quiet times = 0

-- a hub with the recorded times beside it
pub record Watched (S : Type 0) : Type 0 where
  pub hub : Hub S
  pub times : ℕ → ℕ

-- a call's answer with its wait, and what is left
pub record Answered (S : Type 0) : Type 0 where
  pub answer : Answer
  pub wait : ℕ
  pub left : Watched S

-- an entry of a run with its wait
pub record Timed : Type 0 where
  pub entry : Entry
  pub wait : ℕ

pub record WatchedRun (S : Type 0) : Type 0 where
  pub past : List Timed
  pub left : Watched S

module _ (p : Plan) (M : Machine) where
  -- before any event
  abbrev pub fresh_watched : Watched M.State
  fresh_watched = record { hub = fresh_hub p M; times = λ k. 0 }

  abbrev pub perform_watched : Call → Watched M.State → Answered M.State
  perform_watched call w =
      let o = perform p M call w.hub in
      record {
        answer = o.answer;
        wait = wait_of p w.hub.core o.answer w.times;
        left = record { hub = o.hub; times = watch p w.hub.core call o.answer w.times };
      }

  abbrev pub next_watched : Call → WatchedRun M.State → WatchedRun M.State
  next_watched call m =
      let o = perform_watched call m.left in
      record {
        past = record { entry = record { call = call; answer = o.answer }; wait = o.wait } ∷ m.past;
        left = o.left;
      }

  -- the run of a list of calls, the latest first, with its waits
  unfoldable pub watched : List Call → WatchedRun M.State
  watched [] = record { past = []; left = fresh_watched }
  watched (call ∷ earlier) = next_watched call (watched earlier)

-- the calls and answers of a run, its waits left out
abbrev pub entries_of : List Timed → List Entry
entries_of past = map (λ (e : Timed). e.entry) past

-- how a request of the core stands, with its recorded time, in the words of WaitWords
abbrev pub stand_of : Request → ℕ → Stand
stand_of none since = absent
stand_of (standing c b) since = stands c since

-- k's wait at a grant: by the words its request stood in the grant's class, first put up in it at `since`
pub record WaitTold (p : Plan) (k : ℕ) (c : Class) (s wait : ℕ) (before : List Entry) : Type 0 where
  pub since : ℕ
  pub stood : stand_at p k s before ≡ stands c since
  pub waited : wait + since ≡ s

-- Of every list of calls on a plan's cascade, the latest first
pub record Waits (p : Plan) (calls : List Call) : Type 0 where
  -- "Grants and moves are unaffected": with the waits left out the run is the one that records nothing, and it leaves the same hub
  pub unaffected : entries_of (watched p (control p) calls).past ≡ (made p (control p) calls).past
  pub same_hub : (watched p (control p) calls).left.hub ≡ (made p (control p) calls).hub
  -- what is recorded of each node is the time that the calls and answers alone tell, and the class is theirs too
  pub recorded_told : (k : ℕ)
      → stand_at p k (clock_at (made p (control p) calls).past) (made p (control p) calls).past
      ≡ stand_of ((made p (control p) calls).hub.core.request k) ((watched p (control p) calls).left.times k)
  -- and so is each grant's wait: the grant's time less the time told at the place just before
  pub waits_told : (later : List Timed) (t s k : ℕ) (c : Class) (end moves wait : ℕ) (before : List Timed)
      → (watched p (control p) calls).past
      ≡ later ++ (record { entry = record { call = step t; answer = grant s k c end moves }; wait = wait } ∷ before)
      → WaitTold p k c s wait (entries_of before)
  -- A request stands in class high by these words just where it is high by those of demand 3
  pub high_told : (k : ℕ)
      → ((since : ℕ) × (stand_at p k (clock_at (made p (control p) calls).past) (made p (control p) calls).past ≡ stands high since))
      ↔ High p k (made p (control p) calls).past
  -- One move of the clock crosses at most one frame's start while a request stands: so the start that a request
  -- gets where it turns normal is that of the frame to which the clock comes
  pub one_start : (call : Call) (k b : ℕ) (c : Class) → (made p (control p) calls).hub.core.request k ≡ standing c b
      → frame_of p (made p (control p) (call ∷ calls)).hub.core.clock ≤ frame_of p (made p (control p) calls).hub.core.clock + 1
