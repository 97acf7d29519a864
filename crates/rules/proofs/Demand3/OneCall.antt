-- One more call keeps the stage; and at the frame's end a stage that is not done is impossible, since an instant is due within the frame.
use Prim.Native.Nat.{ℕ, ◌+◌, ◌*◌, ◌≤◌, ◌<◌}
use mathlib.Core.Path.{◌≡◌}
use mathlib.Core.Bool.{true}
use mathlib.Core.List.{List}
use mathlib.Core.Logic.{◌⊎◌}
use native.Mathlib.Omega.{arith}
use lib.ListN.{length, get_or}
use Rattle.rules.specs.Plan.{Plan}
use Rattle.rules.specs.Drawn.{Within, Figures}
use Rattle.rules.specs.Call.{Call}
use Rattle.rules.specs.Core.{Core, Share}
use Rattle.rules.specs.Machine.{Machine, Hub, perform}
use Rattle.rules.specs.Run.{Entry, Made, next}
use Rattle.rules.specs.Words.{high_grants, turn_in, delay_limit}
use Rattle.rules.proofs.Flat.Follows.{Follows}
use Rattle.rules.proofs.Laws.Frames.{frame_mono, ends_later, next_start}
use Rattle.rules.proofs.Core.CallCases.{course}
use Rattle.rules.proofs.Demand3.Standing.{DueBefore}
use Rattle.rules.proofs.Demand3.GrantsSoFar.{Facts, NextHigh, GrantsSoFar, waiting, running, done, within_frame}
use Rattle.rules.proofs.Demand3.OneCallRunning.{keep_running, running-due}
use Rattle.rules.proofs.Demand3.OneCallWaiting.{keep_waiting, waiting_due}
use Rattle.rules.proofs.Demand3.OneCallDone.{keep_done}

-- k has exactly n high grants in f, the last of them in time
pub record Finished (p : Plan) (k f : ℕ) (R : ℕ → Share) (past : List Entry) : Type 0 where
  pub exactly : length (high_grants p k f past) ≡ (R k).packets
  pub in_time : get_or (high_grants p k f past) 0 0 ≤ f * p.frame + delay_limit p k R

-- the frame is not over
pub record Unfinished (p : Plan) (f : ℕ) (s : Core) : Type 0 where
  pub clock : s.clock < (f + 1) * p.frame
  pub due : DueBefore p s ((f + 1) * p.frame)

module _ (p : Plan) (fig : Figures p) (M : Machine) (follows : Follows p M) (k f : ℕ) (w : Within p.nodes k) (R : ℕ → Share) where
  pub keep : (m : Made M.State) (call : Call) → Facts p k f R m.past m.hub.core
      → Facts p k f R (next p M call m).past (next p M call m).hub.core
      → (turn_in p f call (perform p M call m.hub).answer ≡ true → NextHigh p k f R m.past)
      → m.hub.core.clock ≤ (next p M call m).hub.core.clock
      → GrantsSoFar p M follows k f R m.past m.hub → GrantsSoFar p M follows k f R (next p M call m).past (next p M call m).hub
  keep m call facts after later on (waiting early π) =
      keep_waiting p fig M follows k f w R m.past m.hub.core m.hub.turn facts early π (course p M m.hub call) after
  keep m call facts after later on (running r) =
      keep_running p fig M follows k f w R m.past m.hub.core m.hub.turn facts r (course p M m.hub call) after.told later
  keep m call facts after later on (done late all in_time_lem) =
      let onward = frame_mono p fig m.hub.core.clock (next p M call m).hub.core.clock on in
      keep_done p M k f R m.past m.hub all follows (omega arith) in_time_lem (course p M m.hub call) after

  pub finished_or_not : (past : List Entry) (h : Hub M.State) → Facts p k f R past h.core → GrantsSoFar p M follows k f R past h
      → Finished p k f R past ⊎ Unfinished p f h.core
  finished_or_not past h facts (waiting early π) =
      let d = waiting_due p fig M follows k f w R past h.core h.turn facts early π in
      let e = next_start p fig f in
      ◌⊎◌.inr
      (record {
        clock = omega arith;
        due = record { time = d.time; is = d.is; soon = omega (arith, d.soon, fig.interrupt_up) };
      })
  finished_or_not past h facts (running r) =
      let d = running-due p fig M follows k f w R past h.core h.turn facts r in
      let e = r.in_frame in
      ◌⊎◌.inr
      (record {
        clock = ends_later p fig f h.core.clock (omega arith);
        due =
            record {
              time = d.time;
              is = d.is;
              soon = omega (arith, d.soon, within_frame p k f R past h.core facts r.in_frame fig w r.left r.size);
            };
      })
  finished_or_not past h facts (done late all in_time_lem) = ◌⊎◌.inl (record { exactly = all; in_time = in_time_lem })
