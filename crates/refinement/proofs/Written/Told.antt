-- What a call's answer tells: where the clock has come to, and that a node named in it is one of the plan.
use Prim.Native.Nat.{ℕ}
use mathlib.Core.Path.{◌≡◌, ◌∙◌}
use Rattle.rules.specs.Plan.{Plan}
use Rattle.rules.specs.Drawn.{Figures, Within}
use Rattle.rules.specs.Call.{Call, ask, off, reserve, until, step, time, Answer, taken, refused, grant, rest, quiet}
use Rattle.rules.specs.Core.{Core, advance, counts_in}
use Rattle.rules.specs.Machine.{Machine, Hub, Outcome, perform}
use Rattle.rules.specs.Promises.{Acceptable, asks, leaves, reserves, waits}
use Rattle.rules.proofs.Flat.Follows.{Follows}
use Rattle.rules.proofs.Flat.Turns.{node_counts}
use Rattle.rules.proofs.Core.CallCases.{Course, refusal, event, quietly, granting, resting, course}
use Rattle.rules.proofs.Core.Acceptance.{acceptable}
use Rattle.rules.proofs.Core.ClockAdvance.{advance_clock}
use Rattle.rules.proofs.Core.AlwaysTold.{event_clock}
use Rattle.rules.proofs.Core.AlwaysSound.{Good, turn_counts}

-- the node whose request an event puts or removes
abbrev pub Named : Plan → Call → Type 0
Named p (ask c t k b) = Within p.nodes k
Named p (off t k) = Within p.nodes k
Named p (reserve t k n b) = Unit {0}
Named p (until t) = Unit {0}
Named p (step t) = Unit {0}

-- of a call that got this answer, and left the clock at `now`
abbrev pub Tells : Plan → Call → Answer → ℕ → Type 0
Tells p call taken now = Named p call × (now ≡ time call)
Tells p call (refused n) now = Unit {0}
Tells p call (grant s k c end moves) now = Within p.nodes k × (now ≡ s)
Tells p call (rest s moves) now = now ≡ s
Tells p call quiet now = Unit {0}

named : {p : Plan} {s : Core} {call : Call} → Acceptable p s call → Named p call
named (asks c t k b a) = a.node
named (leaves t k o w) = w
named (reserves t k n b a) = tt
named (waits t o) = tt

module _ (p : Plan) (fig : Figures p) (M : Machine) (follows : Follows p M) (h : Hub M.State) (ok : Good p fig M follows h) where
  told : {call : Call} {o : Outcome M.State} → Course p M h call o → Tells p call o.answer o.hub.core.clock
  told (refusal call n e) = tt
  told (event call e a) =
      (named (acceptable p h.core e a), event_clock e (advance p (time call) h.core) ∙ advance_clock p (time call) h.core)
  told (quietly t i n) = tt
  told (granting t d c i e l n) = (
    (node_counts p M follows h.turn ok.pointed c (counts_in c (advance p d h.core)) (turn_counts p fig M follows h ok d c n)).within,
    advance_clock p d h.core,
  )
  told (resting t d i e l n) = advance_clock p d h.core

  pub tells : (call : Call) → Tells p call (perform p M call h).answer (perform p M call h).hub.core.clock
  tells call = told (course p M h call)
