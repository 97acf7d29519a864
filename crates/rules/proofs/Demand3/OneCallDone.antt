-- One more call, where k has had its n high grants in f: there comes no other one in f.
use Prim.Native.Nat.{ℕ, suc, ◌+◌, ◌*◌, ◌≤◌}
use mathlib.Core.Path.{◌≡◌, refl}
use mathlib.Core.Bool.{◌&&◌}
use mathlib.Core.List.{List, ◌∷◌}
use native.Mathlib.Omega.{arith}
use lib.ListN.{length, get_or}
use lib.Dec.{eqb}
use borrow.Author.Tests.{eqb-true}
use Rattle.std.specs.Prelude.{if◌then◌else◌}
use Rattle.rules.specs.Plan.{Plan}
use Rattle.rules.specs.Call.{Class, normal, high, Call, step, taken}
use Rattle.rules.specs.Core.{Share, bits_of, frame_of, advance, counts_in}
use Rattle.rules.specs.Machine.{Machine, Hub, Outcome}
use Rattle.rules.specs.Run.{Entry}
use Rattle.rules.specs.Words.{high_grants, delay_limit}
use Rattle.rules.proofs.Laws.Passes.{Which, which, yes', no', and_both}
use Rattle.rules.proofs.Flat.Follows.{Follows}
use Rattle.rules.proofs.Core.CallCases.{in_time_lem, Course, refusal, event, quietly, granting, resting as rested}
use Rattle.rules.proofs.Core.ClockAdvance.{advance_clock}
use Rattle.rules.proofs.Core.OneMoreEntry.{refused_ends, event_ends}
use Rattle.rules.proofs.Demand3.GrantsSoFar.{entry, Facts, counted, within, GrantsSoFar, done}
use Rattle.rules.proofs.Demand3.HighTurn.{turn_at}

module _ (p : Plan) (M : Machine) (k f : ℕ) (R : ℕ → Share) (past : List Entry) (h : Hub M.State)
    (all : length (high_grants p k f past) ≡ (R k).packets) where
  -- another high grant of k in f would pass its share
  no_more : (t d : ℕ) (c : Class)
      → Facts p k f R (entry (step t) (turn_at p M d c (advance p d h.core) h.turn).answer ∷ past)
      (turn_at p M d c (advance p d h.core) h.turn).hub.core
      → high_grants p k f (entry (step t) (turn_at p M d c (advance p d h.core) h.turn).answer ∷ past) ≡ high_grants p k f past
  unfolding high_grants
  no_more t d normal after = refl
  no_more t d high after = go (which (eqb node k && eqb (frame_of p d) f))
    where
      new : Outcome M.State
      new = turn_at p M d high (advance p d h.core) h.turn

      node : ℕ
      node = (M.choose high (counts_in high (advance p d h.core)) h.turn).node

      end : ℕ
      end = d + bits_of ((advance p d h.core).request node) + p.overhead

      ends : List ℕ
      ends = high_grants p k f past

      go : Which (eqb node k && eqb (frame_of p d) f) → (if eqb node k && eqb (frame_of p d) f then end ∷ ends else ends) ≡ ends
      go (no' e) = rw e
      go (yes' e) =
          let in_f = eqb-true (frame_of p d) f (and_both (eqb node k) (eqb (frame_of p d) f) e).1 in
          let here : frame_of p new.hub.core.clock ≡ f = rw (advance_clock p d h.core) in_f in
          let had = counted p k f (entry (step t) new.answer ∷ past) new.hub.core after.told here in
          let one_more : suc (length ends) ≡ new.hub.core.granted k = rw e at had in
          absurd (omega (arith, within p k f R (entry (step t) new.answer ∷ past) new.hub.core after here k))

  same_ends : {call : Call} {o : Outcome M.State} → Course p M h call o → Facts p k f R (entry call o.answer ∷ past) o.hub.core
      → high_grants p k f (entry call o.answer ∷ past) ≡ high_grants p k f past
  unfolding high_grants
  same_ends (refusal call n e) after = refused_ends p k f call n (high_grants p k f past)
  same_ends (event call e a) after = event_ends p k f taken (high_grants p k f past) e
  same_ends (quietly t i n) after = refl
  same_ends (granting t d c i e l n) after = no_more t d c after
  same_ends (rested t d i e l n) after = refl

  pub keep_done : (follows : Follows p M) {call : Call} {o : Outcome M.State} → f ≤ frame_of p o.hub.core.clock
      → get_or (high_grants p k f past) 0 0 ≤ f * p.frame + delay_limit p k R → Course p M h call o
      → Facts p k f R (entry call o.answer ∷ past) o.hub.core → GrantsSoFar p M follows k f R (entry call o.answer ∷ past) o.hub
  keep_done follows late in_time_lem course after = let same = same_ends course after in done late (rw same all) (rw same in_time_lem)
