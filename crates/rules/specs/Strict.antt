-- Request 8 of document 02, "Unreserved high requests": what a plan's runs with the line `(strict)` and without it have in common.
use Rattle.std.specs.Prelude.{ℕ, ◌≡◌, Bool, true, false, ◌↔◌, List, [], ◌∷◌, ◌++◌, map}
use Rattle.rules.specs.Plan.{Plan, with_strict}
use Rattle.rules.specs.Call.{Class, normal, high, Call, ask, off, reserve, until, step, Answer, grant}
use Rattle.rules.specs.Core.{Core, frame_of, advance}
use Rattle.rules.specs.Rows.{put_up}
use Rattle.rules.specs.Machine.{Hub, Outcome, perform}
use Rattle.rules.specs.Control.{Control, control}
use Rattle.rules.specs.Run.{Entry, Made, made}
use Rattle.rules.specs.Words.{reserved, asked, request_at, High}
use Rattle.rules.specs.Demand.{Holds3}
use Rattle.rules.specs.AnyMoment.{packets_then, PutUp, AnyMoment}

-- the run of a list of calls on the cascade of a plan with the line, or without it, and one call from any state of it
abbrev pub run_with : Bool → Plan → List Call → Made Control
run_with strict p calls = made (with_strict strict p) (control (with_strict strict p)) calls

abbrev pub perform_with : Bool → Plan → Call → Hub Control → Outcome Control
perform_with strict p call h = perform (with_strict strict p) (control (with_strict strict p)) call h

-- a call as it is taken without the line: a high request of a node with nothing reserved in force at its time as a normal one
abbrev pub as_taken : Plan → Core → Call → Call
as_taken p s (ask c t k b) = ask (put_up ((advance p t s).force k) c) t k b
as_taken p s (off t k) = off t k
as_taken p s (reserve t k n b) = reserve t k n b
as_taken p s (until t) = until t
as_taken p s (step t) = step t

-- "Under either default a reserved unit keeps the share and limit it had"
pub record EitherDefault (p : Plan) : Type 0 where
  -- over every list of calls, with the line and without it: demand 3, of the share and the delay limit that p has
  pub share_and_limit : (strict : Bool) (calls : List Call) → Holds3 p (run_with strict p calls).past
  -- and request 5, of p's own limit
  pub any_moment : (strict : Bool) (calls : List Call) → AnyMoment p (run_with strict p calls).past
  -- the promise is the same one: of any calls and answers it says the same, with the line and without it
  pub same_promise : (strict : Bool) (whole : List Entry) → Holds3 (with_strict strict p) whole ↔ Holds3 p whole
  pub same_moment : (strict : Bool) (whole : List Entry) → AnyMoment (with_strict strict p) whole ↔ AnyMoment p whole
  -- and from any state a call that is taken as it stands, so any but a high request of a node with nothing reserved, goes the same way
  pub otherwise_alike : (h : Hub Control) (call : Call) → as_taken p h.core call ≡ call → perform_with false p call h ≡ perform_with true p call h

-- all calls of a run without the line, the latest first, each as it is taken there
unfoldable pub all_as_taken : Plan → List Call → List Call
all_as_taken p [] = []
all_as_taken p (call ∷ earlier) = as_taken p (run_with false p earlier).hub.core call ∷ all_as_taken p earlier

abbrev pub answers_in : List Entry → List Answer
answers_in past = map (λ (e : Entry). e.answer) past

-- The run without the line is, answer for answer, moves among them, the strict run of the calls as they are taken, and leaves the same hub
pub record TakenAsNormal (p : Plan) (calls : List Call) : Type 0 where
  pub answers : answers_in (run_with false p calls).past ≡ answers_in (run_with true p (all_as_taken p calls)).past
  pub hub : (run_with false p calls).hub ≡ (run_with true p (all_as_taken p calls)).hub

-- k's request at a place was put up by a high event while nothing was in force for k: it was taken as a normal one
pub record TakenNormal (p : Plan) (k : ℕ) (past : List Entry) : Type 0 where
  pub put_up : ℕ
  pub length : ℕ
  pub stands : request_at k past ≡ asked high put_up length
  pub unreserved : (reserved p k (frame_of p put_up) past).packets ≡ 0

-- Over a list of calls: it stays a normal one, also when a reservation comes into force while it stands
pub record StaysNormal (p : Plan) (whole : List Entry) : Type 0 where
  -- it is not k's high request in the words of demand 3,
  pub not_high : (k : ℕ) (past : List Entry) → TakenNormal p k past → High p k past → ⊥
  -- nor the one that request 5 speaks of;
  pub not_put_up : (k t : ℕ) → packets_then p k t whole ≡ 0 → PutUp p k t whole → ⊥
  -- every grant in class high is of a request that is high by demand 3's words at the place just before the step,
  pub high_only : (later : List Entry) (t s k end moves : ℕ) (before : List Entry)
      → whole ≡ later ++ (record { call = step t; answer = grant s k high end moves } ∷ before) → High p k before
  -- so its own grant is a normal grant
  pub granted_normal : (later : List Entry) (t s k : ℕ) (c : Class) (end moves : ℕ) (before : List Entry)
      → whole ≡ later ++ (record { call = step t; answer = grant s k c end moves } ∷ before) → TakenNormal p k before → c ≡ normal
