-- The demands, of the cascade of `rules`: one record, of a plan and a list of calls made on its cascade, the latest first.
use Rattle.std.specs.Prelude.{ℕ, ◌-◌, ◌*◌, ◌≤◌, ◌≡◌, List, map}
use Rattle.rules.specs.Plan.{Plan, levels}
use Rattle.rules.specs.Call.{Call, Answer, refused, quiet, taken}
use Rattle.rules.specs.Machine.{Hub, perform}
use Rattle.rules.specs.Flat.{flat}
use Rattle.rules.specs.Control.{Control, control, from_root}
use Rattle.rules.specs.Run.{Made, made}
use Rattle.rules.specs.Agree.{plain, moves_of, Every}
use Rattle.rules.specs.Saving.{SavesOn}
use Rattle.rules.specs.Travel.{Travels}
use Rattle.rules.specs.Looks.{FewLooks}
use Rattle.rules.specs.Demand.{Holds3}
use Rattle.rules.specs.AnyMoment.{AnyMoment}
use Rattle.rules.specs.Promises.{NoTimeLost, Admits, Acceptable}
use Rattle.rules.specs.Strict.{EitherDefault, TakenAsNormal, StaysNormal}
use Rattle.rules.specs.Waits.{Waits}

module _ (p : Plan) (calls : List Call) where
  -- the cascade after these calls, with the list of calls and answers
  abbrev pub cascade : Made Control
  cascade = made p (control p) calls

  -- the cascade's answer to one more call, and the cascade that it leaves
  abbrev pub answer : Call → Answer
  answer call = (perform p (control p) call cascade.hub).answer

  abbrev pub left : Call → Hub Control
  left call = (perform p (control p) call cascade.hub).hub

  pub record Promises : Type 0 where
    -- Turns agree: the same refusals, and each grant with the same time, node, class and end as the flat hub's
    pub turns_agree : map plain cascade.past ≡ map plain (made p (flat p) calls).past
    -- Moves: at most 4 × (L - 1) in each grant and rest
    pub few_moves : Every (λ a. moves_of a ≤ 4 * (levels p - 1)) cascade.past
    -- Request 4 of document 02, "Grants must be exactly the old ones": the run of the
    -- same calls by document 01's rule 2, up to the root, answers the same but for moves
    pub as_from_root : map plain cascade.past ≡ map plain (made p (from_root p) calls).past
    -- and in the same state that rule answers the same, in no fewer moves
    pub saves : (call : Call) → SavesOn p cascade.hub call
    -- Request 13 of document 02: in a run of grants of one class, with w returns of
    -- the root's pointer, which the answers tell, at most 2 × (H - 1) × (w + 1)
    -- moves after the first
    pub travels : Travels p cascade.past
    -- The worst case: at most 4 × L - 1 looks at a hub in each call, and 3 × L - 1 where the class is that of the latest grant
    pub few_looks : FewLooks p cascade.past
    -- Demand 3
    pub demand_3 : Holds3 p cascade.past
    -- Request 5 of document 02: a high request of a node with packets left in its frame, put up at any t and kept standing, is
    -- granted by t + D + the sum of c of the other nodes that have a reservation, where no change comes into force before
    pub any_moment : AnyMoment p cascade.past
    -- Request 8 of document 02: under either default a reserved unit keeps the share and limit it had; the promise is the same one
    pub either_default : EitherDefault p
    -- and without the line `(strict)` the run is the strict run of the calls as they are taken
    pub as_normal : TakenAsNormal p calls
    -- a request so taken stays a normal one when a reservation comes into force: it is no high request, and its grant is a normal grant
    pub stays_normal : StaysNormal p cascade.past
    -- Request 1 of document 02: with the recorded times beside it the run is the same one; what is recorded is the time that the
    -- calls and answers alone tell, and each grant's wait is its time less that time
    pub waits : Waits p calls
    -- No time is lost, and the clock never goes back
    pub no_time_lost : NoTimeLost p (control p) cascade.hub
    pub clock_grows : (call : Call) → cascade.hub.core.clock ≤ (left call).core.clock
    -- A refusal leaves the state as it was, and so does quiet
    pub refusal_changes_nothing : (call : Call) (n : ℕ) → answer call ≡ refused n → left call ≡ cascade.hub
    pub quiet_changes_nothing : (call : Call) → answer call ≡ quiet → left call ≡ cascade.hub
    -- Admission keeps its promise: no frame is overfilled
    pub admits : Admits p cascade.past cascade.hub.core
    -- An event is refused where a row says so, and nowhere else
    pub takes : (call : Call) → Acceptable p cascade.hub.core call → answer call ≡ taken
    pub takes_only : (call : Call) → answer call ≡ taken → Acceptable p cascade.hub.core call
