-- Demand 3 over every list of calls, for every turn machine that follows the flat rule.
use Prim.Native.Nat.{ℕ, ◌+◌, ◌*◌, ◌≤◌}
use mathlib.Core.Path.{◌≡◌, sym, ap, ◌∙◌, subst}
use mathlib.Core.Bool.{true}
use mathlib.Core.List.{List, [], ◌∷◌, ◌++◌, append_assoc, append_cancel_right}
use mathlib.Core.Logic.{◌⊎◌, ⊎_elim}
use native.Mathlib.Omega.{arith}
use Rattle.rules.specs.Plan.{Plan}
use Rattle.rules.specs.Drawn.{Within, Figures}
use Rattle.rules.specs.Call.{Call}
use Rattle.rules.specs.Core.{Share, frame_of}
use Rattle.rules.specs.Machine.{Machine, perform}
use Rattle.rules.specs.Run.{Entry, made}
use Rattle.rules.specs.Words.{clock_at, reserved, High, high_grants, turn_in}
use Rattle.rules.specs.Demand.{Unbroken, NextTurns, RunTo, Demand3, Holds3}
use Rattle.rules.proofs.Flat.Follows.{Follows}
use Rattle.rules.proofs.Core.AlwaysSound.{sound}
use Rattle.rules.proofs.Core.AlwaysTold.{told}
use Rattle.rules.proofs.Core.Stable.{clock_grows, reserved_stays_on}
use Rattle.rules.proofs.Core.Places.{place, entries, entries_of_lem}
use Rattle.rules.proofs.Demand3.GrantsSoFar.{Facts, NextHigh, GrantsSoFar}
use Rattle.rules.proofs.Demand3.FrameStart.{opened}
use Rattle.rules.proofs.Demand3.RunTo.{not_run_to}
use Rattle.rules.proofs.Demand3.Standing.{DueBefore}
use Rattle.rules.proofs.Demand3.OneCall.{Finished, Unfinished, keep, finished_or_not}
use Rattle.rules.proofs.Demand3.UnbrokenFrom.{at_start}

module _ (p : Plan) (fig : Figures p) (M : Machine) (follows : Follows p M) (calls : List Call) (k f : ℕ) (w : Within p.nodes k) where
  -- the whole list, and what is reserved in f by it
  abbrev whole : List Entry
  whole = (made p M calls).past

  abbrev share : ℕ → Share
  share j = reserved p j f (made p M calls).past

  some : 1 ≤ p.nodes
  some = omega (arith, w.low, w.up)

  module _ (unbroken : Unbroken p k f whole) (turns : NextTurns p k f whole (share k).packets)
      (earlier : List Call) (begun : unbroken.before ≡ (made p M earlier).past) where
    -- a place between the one where the request stands unbroken and the list's end
    split : (a m : List Call) → calls ≡ a ++ m → whole ≡ entries p M a m ++ (made p M m).past
    split a m e = ap (λ (x : List Call). (made p M x).past) e ∙ entries_of_lem p M a m

    since_there : (b : List Call) → (made p M (b ++ earlier)).past ≡ entries p M b earlier ++ unbroken.before
    since_there b = entries_of_lem p M b earlier ∙ ap (λ (x : List Entry). entries p M b earlier ++ x) (sym begun)

    force_there : (a m : List Call) → calls ≡ a ++ m → frame_of p (made p M m).hub.core.clock ≡ f
        → (j : ℕ) → (made p M m).hub.core.force j ≡ share j
    force_there a m e here j =
        let stays = reserved_stays_on p fig M follows some a m j f (omega arith) in
        let reads = (told p fig M follows some m).force j in
        let in_force = subst (λ (x : ℕ). reserved p j x (made p M m).past ≡ (made p M m).hub.core.force j) here reads in
        sym in_force ∙ sym stays ∙ sym (ap (λ (x : List Call). reserved p j f (made p M x).past) e)

    first_there : (a b : List Call) → calls ≡ a ++ (b ++ earlier) → high_grants p k f (made p M (b ++ earlier)).past ≡ []
        → High p k (made p M (b ++ earlier)).past
    first_there a b e none_yet =
        let newer = entries p M a (b ++ earlier) in
        let passed = entries p M b earlier in
        let there = split a (b ++ earlier) e ∙ ap (λ (x : List Entry). newer ++ x) (since_there b) in
        let same = sym unbroken.place ∙ there ∙ sym (append_assoc newer passed unbroken.before) in
        subst (λ (x : List Entry). High p k x) (sym (since_there b))
        (unbroken.high newer passed (append_cancel_right unbroken.since (newer ++ passed) unbroken.before same)
        (subst (λ (x : List Entry). high_grants p k f x ≡ []) (since_there b) none_yet))

    facts : (a b : List Call) → calls ≡ a ++ (b ++ earlier) → Facts p k f share (made p M (b ++ earlier)).past (made p M (b ++ earlier)).hub.core
    facts a b e =
        record {
          sound = sound p fig M follows some (b ++ earlier);
          told = told p fig M follows some (b ++ earlier);
          force = force_there a (b ++ earlier) e;
          first = first_there a b e;
        }

    turn_there : (a : List Call) (call : Call) (m : List Call) → calls ≡ a ++ (call ∷ m)
        → turn_in p f call (perform p M call (made p M m).hub).answer ≡ true → NextHigh p k f share (made p M m).past
    unfolding made
    turn_there a call m e turn low up =
        turns.high (entries p M a (call ∷ m)) _ (made p M m).past (split a (call ∷ m) e) turn (omega arith) (omega arith)

    run : (b a : List Call) → calls ≡ a ++ (b ++ earlier) → GrantsSoFar p M follows k f share (made p M earlier).past (made p M earlier).hub
        → GrantsSoFar p M follows k f share (made p M (b ++ earlier)).past (made p M (b ++ earlier)).hub
    unfolding made
    run [] a e stage = stage
    run (call ∷ b) a e stage =
        let again : calls ≡ (a ++ (call ∷ [])) ++ (b ++ earlier) = e ∙ sym (append_assoc a (call ∷ []) (b ++ earlier)) in
        keep p fig M follows k f w share (made p M (b ++ earlier)) call (facts (a ++ (call ∷ [])) b again) (facts a (call ∷ b) e)
        (turn_there a call (b ++ earlier) e)
        (clock_grows p fig M follows some call (b ++ earlier))
        (run b (a ++ (call ∷ [])) again stage)

    begin : (newer : List Call) → calls ≡ newer ++ earlier → GrantsSoFar p M follows k f share (made p M earlier).past (made p M earlier).hub
    begin newer e =
        let clock = ap clock_at begun ∙ (told p fig M follows some earlier).clock in
        at_start p fig M follows k f w share (made p M earlier).past (made p M earlier).hub (facts newer [] e) (opened p fig M follows some earlier)
        (omega (arith, unbroken.early))
        (ap (λ (x : List Entry). high_grants p k f x) (sym begun) ∙ unbroken.first)

    -- at the list's end k has had its n high grants, or the frame is not over
    at_end : (newer : List Call) → calls ≡ newer ++ earlier → Finished p k f share whole ⊎ Unfinished p f (made p M calls).hub.core
    at_end newer e =
        subst (λ (x : List Call). Finished p k f share (made p M x).past ⊎ Unfinished p f (made p M x).hub.core) (sym e)
        (finished_or_not p fig M follows k f w share (made p M (newer ++ earlier)).past (made p M (newer ++ earlier)).hub (facts [] newer e)
        (run newer [] e (begin newer e)))

  -- the list may be run further than to the frame's end
  demand : {time : ℕ} → Unbroken p k f whole → NextTurns p k f whole (share k).packets → RunTo time whole → (f + 1) * p.frame ≤ time → Demand3 p k f whole
  demand {time} unbroken turns ended far =
      let at = place p M calls unbroken.since unbroken.before unbroken.place in
      ⊎_elim (λ done. record { exactly = done.exactly; in_time = omega (arith, done.in_time) })
      (λ left. absurd (not_run_to p fig M follows some calls time (omega (arith, left.clock)) (later left) ended))
      (at_end unbroken turns at.earlier at.past at.newer at.split)
    where
      later : Unfinished p f (made p M calls).hub.core → DueBefore p (made p M calls).hub.core time
      later left = record { time = left.due.time; is = left.due.is; soon = omega (arith, left.due.soon) }

pub demand3 : (p : Plan) (fig : Figures p) (M : Machine) → Follows p M → (calls : List Call) → Holds3 p (made p M calls).past
demand3 p fig M follows calls =
    record {
      demand = λ k f low up unbroken turns ended. demand p fig M follows calls k f (record { low = low; up = up }) unbroken turns ended (omega arith);
    }
