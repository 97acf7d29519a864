-- A list that is run to a time: the clock has come there, or its last call is a step that is answered quiet.
use Prim.Native.Nat.{ℕ, ◌≤◌, ◌<◌}
use mathlib.Core.Path.{◌≡◌, refl, sym, subst}
use mathlib.Core.Bool.{true, false}
use mathlib.Core.List.{List, [], ◌∷◌}
use native.Mathlib.Omega.{arith}
use borrow.Author.Tests.{leb-true}
use Rattle.rules.specs.Plan.{Plan}
use Rattle.rules.specs.Drawn.{Figures}
use Rattle.rules.specs.Call.{Call, ask, off, reserve, until, step, refused, taken}
use Rattle.rules.specs.Core.{Core, due, before}
use Rattle.rules.specs.Machine.{Machine, Hub, Outcome, perform}
use Rattle.rules.specs.Run.{Entry, made}
use Rattle.rules.specs.Words.{quiet_to}
use Rattle.rules.specs.Demand.{RunTo, by_clock, by_quiet}
use Rattle.rules.proofs.Laws.Passes.{true-false}
use Rattle.rules.proofs.Laws.Clash.{clash}
use Rattle.rules.proofs.Flat.Follows.{Follows}
use Rattle.rules.proofs.Core.AlwaysTold.{told}
use Rattle.rules.proofs.Demand3.Standing.{DueBefore, not_behind}
use Rattle.rules.proofs.Core.CallCases.{Event, asking, leaving, reserving, waiting, Course, refusal, event, quietly, granting, resting, course}

module _ (p : Plan) (M : Machine) where
  -- a step that is answered quiet leaves no instant due before its bound
  pub record QuietTo (bound : ℕ) (s : Core) : Type 0 where
    pub time : ℕ
    pub far : bound ≤ time
    pub nothing_due : before (due p s) time ≡ false

  quiet_course : (bound : ℕ) (h : Hub M.State) {call : Call} {o : Outcome M.State} → Course p M h call o
      → quiet_to bound call o.answer ≡ true → QuietTo bound o.hub.core
  quiet_course bound h (refusal call n e) q = absurd (true-false q (refused_loud call))
    where
      refused_loud : (x : Call) → quiet_to bound x (refused n) ≡ false
      refused_loud (ask c t k b) = refl
      refused_loud (off t k) = refl
      refused_loud (reserve t k m b) = refl
      refused_loud (until t) = refl
      refused_loud (step t) = refl
  quiet_course bound h (event call e a) q = absurd (true-false q (event_loud e))
    where
      event_loud : {x : Call} → Event x → quiet_to bound x taken ≡ false
      event_loud (asking c t k b) = refl
      event_loud (leaving t k) = refl
      event_loud (reserving t k m b) = refl
      event_loud (waiting t) = refl
  quiet_course bound h (quietly t i n) q = record { time = t; far = leb-true bound t q; nothing_due = n }
  quiet_course bound h (granting t d c i e l n) q = absurd (true-false q refl)
  quiet_course bound h (resting t d i e l n) q = absurd (true-false q refl)

  pub quiet_end : (bound : ℕ) (calls : List Call) (e : Entry) (past : List Entry) → (made p M calls).past ≡ e ∷ past
      → quiet_to bound e.call e.answer ≡ true → QuietTo bound (made p M calls).hub.core
  unfolding made
  quiet_end bound [] e past q h = clash (cc)
  quiet_end bound (call ∷ earlier) e past q h =
      let answer = (perform p M call (made p M earlier).hub).answer in
      let same : record { call = call; answer = answer } ≡ e = cc in
      quiet_course bound (made p M earlier).hub (course p M (made p M earlier).hub call)
      (subst (λ (x : Entry). quiet_to bound x.call x.answer ≡ true) (sym same) h)

-- where an instant is due before a time that the clock is before too, no list is run to that time
pub not_run_to : (p : Plan) (fig : Figures p) (M : Machine) (follows : Follows p M) → 1 ≤ p.nodes → (calls : List Call) (time : ℕ)
    → (made p M calls).hub.core.clock < time → DueBefore p (made p M calls).hub.core time → RunTo time (made p M calls).past → ⊥
not_run_to p fig M follows some calls time early soon (by_clock late) = omega (arith, (told p fig M follows some calls).clock)
not_run_to p fig M follows some calls time early soon (by_quiet e past q h) =
    let quiet = quiet_end p M time calls e past q h in
    omega (arith, quiet.far, not_behind p (made p M calls).hub.core time quiet.time soon quiet.nothing_due)
