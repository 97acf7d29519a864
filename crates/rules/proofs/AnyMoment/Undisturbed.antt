-- The calls behind a place, while a request of node k that was put up there is kept standing and no
-- change of the reservations comes into force: what holds of them all holds up to each place between.
use Prim.Native.Nat.{ℕ, ◌≤◌}
use mathlib.Core.Path.{◌≡◌, refl, sym, ◌∙◌}
use mathlib.Core.Bool.{true}
use mathlib.Core.List.{List, [], ◌∷◌, ◌++◌}
use mathlib.Core.Logic.{◌⊎◌, ⊎_elim}
use native.Mathlib.Omega.{arith}
use lib.Dec.{eqb}
use Rattle.std.specs.Prelude.{if◌then◌else◌}
use Rattle.rules.specs.Plan.{Plan}
use Rattle.rules.specs.Drawn.{Within, Figures}
use Rattle.rules.specs.Call.{Call}
use Rattle.rules.specs.Core.{Share, frame_of, advance, counts_in}
use Rattle.rules.specs.Machine.{Machine, Hub, Outcome}
use Rattle.rules.specs.Run.{made}
use Rattle.rules.specs.Words.{reserved}
use Rattle.rules.specs.AnyMoment.{Grant, none, granted, grant_by, first_grant, kept_standing, waits_to}
use Rattle.rules.proofs.Laws.Passes.{Which, which, yes', no', and_both}
use Rattle.rules.proofs.Flat.Follows.{Follows}
use Rattle.rules.proofs.Laws.Frames.{frame_mono}
use Rattle.rules.proofs.Core.CallCases.{Course, refusal, event, quietly, granting, resting, course}
use Rattle.rules.proofs.Core.ClockAdvance.{advance_clock}
use Rattle.rules.proofs.Core.Stable.{clock_grows, reserved_stays}
use Rattle.rules.proofs.Core.Places.{entries}
use Rattle.rules.proofs.AnyMoment.Serving.{refused_none, event_none}

-- a call that grants k does so at the time to which it brings the clock
grant_now : (p : Plan) (M : Machine) (k : ℕ) (h : Hub M.State) {call : Call} {o : Outcome M.State} → Course p M h call o
    → waits_to (grant_by k call o.answer) o.hub.core.clock ≡ o.hub.core.clock
grant_now p M k h (refusal call n e) = rw (refused_none k n call)
grant_now p M k h (event call e a) = rw (event_none k e)
grant_now p M k h (quietly t i n) = refl
grant_now p M k h (granting t d c i e l n) = go (which (eqb (M.choose c (counts_in c (advance p d h.core)) h.turn).node k))
  where
    node : ℕ
    node = (M.choose c (counts_in c (advance p d h.core)) h.turn).node

    go : Which (eqb node k) → waits_to (if eqb node k then granted c d else none) (advance p d h.core).clock ≡ (advance p d h.core).clock
    go (yes' q) = rw q (sym (advance_clock p d h.core))
    go (no' q) = rw q
grant_now p M k h (resting t d i e l n) = refl

abbrev pub clock : (p : Plan) (M : Machine) → List Call → List Call → ℕ
clock p M place newer = (made p M (newer ++ place)).hub.core.clock

module _ (p : Plan) (M : Machine) (k : ℕ) (place newer : List Call) where
  -- the time up to which k waits
  abbrev pub waited : ℕ
  waited = waits_to (first_grant k (entries p M newer place)) (clock p M place newer)

  -- R is what is reserved in f, the request's frame
  pub record Undisturbed (f : ℕ) (R : ℕ → Share) : Type 0 where
    pub stands : kept_standing k (entries p M newer place) ≡ true
    pub unchanged : (j g : ℕ) → Within p.nodes j → f ≤ g → g ≤ frame_of p waited → reserved p j g (made p M (newer ++ place)).past ≡ R j

module _ (p : Plan) (fig : Figures p) (M : Machine) (follows : Follows p M) (some : 1 ≤ p.nodes) (k : ℕ) (place : List Call) where
  -- k waits up to the clock while it has no grant, and up to its grant then
  pub waits_now : (call : Call) (newer : List Call) → first_grant k (entries p M newer place) ≡ none
      → waited p M k place (call ∷ newer) ≡ clock p M place (call ∷ newer)
  unfolding first_grant made
  waits_now call newer n =
      let h = (made p M (newer ++ place)).hub in
      rw n (grant_now p M k h (course p M h call))

  waited_then : (call : Call) (newer : List Call) (g : Grant) → first_grant k (entries p M newer place) ≡ g
      → (waited p M k place (call ∷ newer) ≡ clock p M place (call ∷ newer)) ⊎ (waited p M k place (call ∷ newer) ≡ waited p M k place newer)
  unfolding first_grant
  waited_then call newer none n = ◌⊎◌.inl (waits_now call newer n)
  waited_then call newer (granted c s) n = ◌⊎◌.inr (rw n)

  on : (call : Call) (newer : List Call) → clock p M place newer ≤ clock p M place (call ∷ newer)
  on call newer = clock_grows p fig M follows some call (newer ++ place)

  waits_by : (newer : List Call) → waited p M k place newer ≤ clock p M place newer
  unfolding first_grant
  waits_by [] = omega arith
  waits_by (call ∷ newer) =
      ⊎_elim (λ e. omega arith) (λ e. omega (arith, waits_by newer, on call newer)) (waited_then call newer (first_grant k (entries p M newer place)) refl)

  waits_on : (call : Call) (newer : List Call) → waited p M k place newer ≤ waited p M k place (call ∷ newer)
  waits_on call newer =
      ⊎_elim (λ e. omega (arith, waits_by newer, on call newer)) (λ e. omega arith)
      (waited_then call newer (first_grant k (entries p M newer place)) refl)

  pub shorter : (call : Call) (newer : List Call) (f : ℕ) (R : ℕ → Share) → Undisturbed p M k place (call ∷ newer) f R → Undisturbed p M k place newer f R
  unfolding kept_standing
  shorter call newer f R u =
      record {
        stands = (and_both (kept_standing k (entries p M newer place)) _ u.stands).0;
        unchanged = λ j g v low up.
            (let by = frame_mono p fig (waited p M k place newer) (clock p M place newer) (waits_by newer) in
            let onward = frame_mono p fig (waited p M k place newer) (waited p M k place (call ∷ newer)) (waits_on call newer) in
            sym (reserved_stays p fig M follows some call (newer ++ place) j g (omega arith)) ∙ u.unchanged j g v low (omega arith));
      }
