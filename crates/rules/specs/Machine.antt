-- A hub is a core and a machine that gives turns. Events and the step are defined once, over any turn machine.
use Rattle.std.specs.Prelude.{ℕ, ◌+◌, Bool, if◌then◌else◌}
use Rattle.rules.specs.Choice.{put}
use Rattle.rules.specs.Plan.{Plan}
use Rattle.rules.specs.Call.{Class, normal, high, Call, ask, off, reserve, until, step, Answer, taken, refused, grant, rest, quiet}
use Rattle.rules.specs.Core.{Core, resting, busy, none, bits_of, advance, counts_in, Due, never, at, due, before, Sought, nothing, class, sought}
use Rattle.rules.specs.Rows.{Verdict, accept, refuse, first_row, rows, change}

-- a turn: the node that it goes to, the machine's next state, and the moves of control
pub record Turn (S : Type 0) : Type 0 where
  pub node : ℕ
  pub state : S
  pub moves : ℕ

-- the machine's next state after a rest, and the moves of control
pub record Rest (S : Type 0) : Type 0 where
  pub state : S
  pub moves : ℕ

pub record Machine : Type 1 where
  pub State : Type 0
  pub start : State
  -- the turn, by the class sought and which nodes count in it
  pub choose : Class → (ℕ → Bool) → State → Turn State
  -- nothing counts where a busy line ends
  pub rested : State → Rest State

pub record Hub (S : Type 0) : Type 0 where
  pub core : Core
  pub turn : S

pub record Outcome (S : Type 0) : Type 0 where
  pub answer : Answer
  pub hub : Hub S

abbrev pub one_more : Class → ℕ → ℕ
one_more normal n = n
one_more high n = n + 1

-- k's request, of class c, is granted and removed, and the line is busy until `end`
abbrev pub granting : ℕ → Class → ℕ → Core → Core
granting k c end s =
    record {
      clock = s.clock;
      line = busy end;
      request = put s.request k none;
      force = s.force;
      latest = s.latest;
      granted = put s.granted k (one_more c (s.granted k));
    }

abbrev pub restful : Core → Core
restful s =
    record {
      clock = s.clock;
      line = resting;
      request = s.request;
      force = s.force;
      latest = s.latest;
      granted = s.granted;
    }

module _ (p : Plan) (M : Machine) where
  -- a grant at s to the turn's node, until s + b + O
  abbrev pub grant_to : ℕ → Class → Core → Turn M.State → Outcome M.State
  grant_to s c core turn =
      let end = s + bits_of (core.request turn.node) + p.overhead in
      record {
        answer = grant s turn.node c end turn.moves;
        hub = record { core = granting turn.node c end core; turn = turn.state };
      }

  -- the instant s is handled, the clock having come to it: a grant, or a rest where nothing counts
  abbrev pub handled : ℕ → Sought → Core → M.State → Outcome M.State
  handled s nothing core σ =
      record {
        answer = rest s (M.rested σ).moves;
        hub = record { core = restful core; turn = (M.rested σ).state };
      }
  handled s (class c) core σ = grant_to s c core (M.choose c (counts_in c core) σ)

  -- a step handles the due instant if it is strictly before its bound; quiet leaves the state as it was
  abbrev pub step_at : Due → ℕ → Hub M.State → Outcome M.State
  step_at never t h = record { answer = quiet; hub = h }
  step_at (at d) t h =
      if before (at d) t then handled d (sought p (advance p d h.core)) (advance p d h.core) h.turn
      else record { answer = quiet; hub = h }

  -- an event moves the clock, then makes its change; a step moves no pointer but by a turn
  abbrev pub accepted : Call → Hub M.State → Outcome M.State
  accepted (step t) h = step_at (due p h.core) t h
  accepted (ask c t k b) h = record { answer = taken; hub = record { core = change (ask c t k b) (advance p t h.core); turn = h.turn } }
  accepted (off t k) h = record { answer = taken; hub = record { core = change (off t k) (advance p t h.core); turn = h.turn } }
  accepted (reserve t k n b) h = record { answer = taken; hub = record { core = change (reserve t k n b) (advance p t h.core); turn = h.turn } }
  accepted (until t) h = record { answer = taken; hub = record { core = change (until t) (advance p t h.core); turn = h.turn } }

  -- a refusal gives its number and changes nothing
  abbrev pub decided : Verdict → Call → Hub M.State → Outcome M.State
  decided (refuse n) call h = record { answer = refused n; hub = h }
  decided accept call h = accepted call h

  unfoldable pub perform : Call → Hub M.State → Outcome M.State
  perform call h = decided (first_row (rows p h.core call)) call h
