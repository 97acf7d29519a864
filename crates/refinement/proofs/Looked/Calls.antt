-- Each call over the cells makes as many looks as on the hub of `rules` that the cells are.
use Prim.Native.Nat.{ℕ, zero, suc, ◌+◌, ◌-◌, ◌≤◌}
use mathlib.Core.Path.{◌≡◌, refl, sym, ap, subst, subst₂, ◌∙◌}
use mathlib.Core.Bool.{Bool, true, false}
use mathlib.Core.List.{List}
use native.Mathlib.Omega.{arith}
use lib.Dec.{ltb, eqb}
use lib.ListN.{get_or}
use borrow.Author.Tests.{eqb-false}
use Rattle.std.specs.Prelude.{if◌then◌else◌, Option, Some, None}
use Rattle.rules.specs.Plan.{Plan, most_levels}
use Rattle.rules.specs.Drawn.{Drawn, Within}
use Rattle.rules.specs.Call.{Class, same, Call, ask, off, reserve, until, step}
use Rattle.rules.specs.Core as rules
use Rattle.rules.specs.Core.{Core, advance, counts_in, sought}
use Rattle.rules.specs.Machine.{Turn}
use Rattle.rules.specs.Control as hubs
use Rattle.rules.specs.Control.{Control, hand_to, climb, turning, most_looks, walk, control}
use Rattle.rules.specs.Looks.{walk_looks, nearest_looks, choose_looks, call_looks}
use Rattle.rules.proofs.Laws.Passes.{Which, which, yes', no'}
use Rattle.rules.proofs.Control.Pointers.{chain_within}
use Rattle.rules.proofs.Control.Nearest.{nearest_near}
use Rattle.rules.proofs.Control.FollowsFlat.{control_follows}
use Rattle.rules.proofs.Flat.Turns.{node_counts}
use Rattle.rules.proofs.Core.AlwaysSound.{Good, turn_counts}
use Rattle.ports.specs.Mask.{digit}
use Rattle.plan.specs.Tables.{plan_of}
use Rattle.cells.specs.Sought.{Sought}
use Rattle.cells.specs.Sought as seek
use Rattle.cells.specs.Layout.{holder_cell, class_cell, class_of}
use Rattle.cells.specs.Decode.{plan_in, core_of, control_of, hub_of}
use Rattle.cells.specs.Frames.{advance_by}
use Rattle.cells.specs.Instants.{due_by, sought_by, sought_in}
use Rattle.cells.specs.Step.{class_number}
use Rattle.cells.specs.Calls.{row_by, grant_by, rest_by, handled_by, step_due, step_by, event_answer, step_answer, class_numbered, event_left, perform_by}
use Rattle.cells.specs.Looks.{walk_by_looks, nearest_by_looks, walked_looks, handled_looks, step_due_looks, step_looks, looks_by}
use Rattle.refinement.specs.Kept.{Ready, Kept, counts_of}
use Rattle.refinement.proofs.Requested.{Left}
use Rattle.refinement.proofs.Started.{advance_left}
use Rattle.refinement.proofs.Instants.{sought_tied}
use Rattle.refinement.proofs.Walked.Steps.{if_hub_lem}
use Rattle.refinement.proofs.Walked.Frame.{Walkable}
use Rattle.refinement.proofs.Walked.Nearest.{nearest_tied}
use Rattle.refinement.proofs.Walked.Walk.{WalkAt, walk_tied}
use Rattle.refinement.proofs.Walked.Chosen.{class_tied}
use Rattle.refinement.proofs.Looked.Least.{as_many}
use Rattle.refinement.proofs.Looked.Ways.{ruled, ruled_steps, coded, coded_steps}

module _ (P : List ℕ) (R : Ready P) where
  abbrev p : Plan
  p = plan_in P

  abbrev D : Drawn p
  D = R.drawn

  -- from hub g up to the root
  nearest-looks : (l g : ℕ) → Within p.hubs g → nearest_by_looks P l g ≡ nearest_looks p l g
  unfolding nearest_by_looks nearest_looks plan_of
  nearest-looks zero g w = refl
  nearest-looks (suc l) g w =
      if_hub_lem g _ 0 (record { low = w.low; up = omega (arith, w.up, D.few_hubs) }) ∙ go (nearest-looks l) (which (eqb g 1))
    where
      go : ((h : ℕ) → Within p.hubs h → nearest_by_looks P l h ≡ nearest_looks p l h) → Which (eqb g 1)
          → (if eqb g 1 then 1 else nearest_by_looks P l (p.parent g) + 1) ≡ nearest_looks p (suc l) g
      go onward (yes' e) = rw e
      go onward (no' e) =
          let low : 2 ≤ g = omega (arith, eqb-false g 1 e, w.low) in
          rw (e, onward (p.parent g) (D.hung_parent g low w.up))

  module _ (s : List ℕ) (K : Kept p s) (is_high : Bool) where
    abbrev c : Class
    c = class_of is_high

    abbrev f : ℕ → Bool
    f = counts_of p is_high s

    abbrev σ : Control
    σ = control_of p s

    -- a walk from hub g that grants a node
    walk_looks_lem : (g m : ℕ) → Within p.hubs g → ((walk p c f most_looks (hand_to g σ) m).node ≡ 0 → ⊥)
        → walk_by_looks P is_high most_looks g s ≡ walk_looks p c f most_looks (hand_to g σ)
    unfolding WalkAt
    walk_looks_lem g m w z =
        let can : Walkable p is_high f s = record { size = K.size; masks = K.masks is_high; pointers = K.pointers } in
        sym
        (as_many (ruled p c f) (ruled_steps p c f) (coded P is_high) (coded_steps P is_high) (hand_to g σ, m) (g, m, s)
        (λ n. ap (λ (t : Turn Control). t.node) (walk_tied P R is_high f n g m s w can).turn) most_looks z)

    -- a turn
    turn_looks : ((hubs.choose_by p c f σ).node ≡ 0 → ⊥) → walked_looks P is_high s ≡ choose_looks p c f σ
    unfolding walked_looks choose_looks hubs.choose_by control_of
    turn_looks z = go (which (eqb (get_or s class_cell 0) (digit is_high)))
      where
        tied : eqb (get_or s class_cell 0) (digit is_high) ≡ same c σ.latest
        tied = class_tied (get_or s class_cell 0) is_high K.class

        go : Which (eqb (get_or s class_cell 0) (digit is_high)) → walked_looks P is_high s ≡ choose_looks p c f σ
        go (yes' e) = rw (sym tied, e) (walk_looks_lem (get_or s holder_cell 0) 0 K.holder (rw (sym tied, e) at z))
        go (no' e) =
            let t = turning p c σ in
            let w = chain_within p D (nearest_near p D (σ.pointer c) (get_or s holder_cell 0) K.holder).chain in
            rw (sym tied, e, nearest_tied P R s is_high (get_or s holder_cell 0) K.holder, nearest-looks most_levels (get_or s holder_cell 0) K.holder)
            (ap (λ (n : ℕ). nearest_looks p most_levels (get_or s holder_cell 0) + n)
            (walk_looks_lem t (climb p (get_or s holder_cell 0) - climb p t) w (rw (sym tied, e) at z)))

-- class 1 is normal, 2 high
class_read : (is_high : Bool) → class_numbered (class_number is_high) ≡ class_of is_high
class_read true = refl
class_read false = refl

module _ (P : List ℕ) (R : Ready P) (s : List ℕ) (K : Kept (plan_in P) s)
    (G : Good (plan_in P) R.drawn.figures (control (plan_in P)) (control_follows (plan_in P) R.drawn) (hub_of (plan_in P) s)) where
  event_looks : (n : ℕ) → 0 ≡ call_looks (plan_in P) (hub_of (plan_in P) s) (event_answer n)
  event_looks n = go (which (eqb n 0))
    where
      go : Which (eqb n 0) → 0 ≡ call_looks (plan_in P) (hub_of (plan_in P) s) (event_answer n)
      go (yes' e) = rw e
      go (no' e) = rw e

  -- the clock having come to the due instant
  module _ (d : ℕ) where
    abbrev r : List ℕ
    r = advance_by P d s

    came : Left (plan_in P) r (advance (plan_in P) d (core_of (plan_in P) s)) (control_of (plan_in P) s)
    came = advance_left P R d s K

    -- a turn of the class sought grants a node
    granting : (c : Class) → sought (plan_in P) (advance (plan_in P) d (core_of (plan_in P) s)) ≡ rules.class c
        → (hubs.choose_by (plan_in P) c (counts_in c (advance (plan_in P) d (core_of (plan_in P) s))) (control_of (plan_in P) s)).node ≡ 0 → ⊥
    granting c q z =
        omega (
          arith,
          (node_counts (plan_in P) (control (plan_in P)) (control_follows (plan_in P) R.drawn) (control_of (plan_in P) s) G.pointed c
              (counts_in c (advance (plan_in P) d (core_of (plan_in P) s)))
              (turn_counts (plan_in P) R.drawn.figures (control (plan_in P)) (control_follows (plan_in P) R.drawn) (hub_of (plan_in P) s) G d c q)).within.low,
        )

    turned : (is_high : Bool)
        → ((hubs.choose_by (plan_in P) (class_of is_high) (counts_in (class_of is_high) (advance (plan_in P) d (core_of (plan_in P) s))) (control_of (plan_in P) s)).node ≡ 0
        → ⊥)
        → walked_looks P is_high r
        ≡ choose_looks (plan_in P) (class_of is_high) (counts_in (class_of is_high) (advance (plan_in P) d (core_of (plan_in P) s))) (control_of (plan_in P) s)
    turned is_high =
        subst₂
        (λ (x : Core) (τ : Control). ((hubs.choose_by (plan_in P) (class_of is_high) (counts_in (class_of is_high) x) τ).node ≡ 0 → ⊥)
        → walked_looks P is_high r ≡ choose_looks (plan_in P) (class_of is_high) (counts_in (class_of is_high) x) τ)
        came.core came.control (turn_looks P R r came.kept is_high)

    handled_looks_lem : (x : Sought) → sought_by r ≡ x
        → handled_looks P x r ≡ call_looks (plan_in P) (hub_of (plan_in P) s) (step_answer (handled_by P d x r).answer)
    unfolding handled_looks handled_by grant_by rest_by step_answer
    handled_looks_lem (seek.Class is_high) e =
        let q = ap (sought (plan_in P)) (sym came.core) ∙ sym (sought_tied P R r came.kept) ∙ ap sought_in e in
        subst
        (λ (c : Class). walked_looks P is_high r ≡ choose_looks (plan_in P) c (counts_in c (advance (plan_in P) d (core_of (plan_in P) s))) (control_of (plan_in P) s))
        (sym (class_read is_high)) (turned is_high (granting (class_of is_high) q))
    handled_looks_lem seek.Nothing e = refl

  due-looks : (t : ℕ) (x : Option ℕ) → step_due_looks P x t s ≡ call_looks (plan_in P) (hub_of (plan_in P) s) (step_answer (step_due P x t s).answer)
  unfolding step_due_looks step_due step_answer
  due-looks t None = refl
  due-looks t (Some d) = go (which (ltb d t))
    where
      go : Which (ltb d t) → step_due_looks P (Some d) t s ≡ call_looks (plan_in P) (hub_of (plan_in P) s) (step_answer (step_due P (Some d) t s).answer)
      go (yes' l) = rw l (handled_looks_lem d (sought_by (advance_by P d s)) refl)
      go (no' l) = rw l

  step_looks_lem : (t : ℕ) → step_looks P t s ≡ call_looks (plan_in P) (hub_of (plan_in P) s) (step_answer (step_by P t s).answer)
  unfolding step_looks step_by step_answer
  step_looks_lem t = go (which (eqb (row_by P (step t) s) 0))
    where
      go : Which (eqb (row_by P (step t) s) 0) → step_looks P t s ≡ call_looks (plan_in P) (hub_of (plan_in P) s) (step_answer (step_by P t s).answer)
      go (yes' e) = rw e (due-looks t (due_by (plan_in P) s))
      go (no' e) = rw e

  pub same-looks : (call : Call) → looks_by P call s ≡ call_looks (plan_in P) (hub_of (plan_in P) s) (perform_by P call s).answer
  unfolding looks_by perform_by event_left
  same-looks (ask c t k b) = event_looks (row_by P (ask c t k b) s)
  same-looks (off t k) = event_looks (row_by P (off t k) s)
  same-looks (reserve t k n b) = event_looks (row_by P (reserve t k n b) s)
  same-looks (until t) = event_looks (row_by P (until t) s)
  same-looks (step t) = step_looks_lem t
