-- A rest over the cells is rules' rest.
use Prim.Native.Nat.{ℕ, ◌+◌, ◌*◌}
use mathlib.Core.Path.{◌≡◌, ap, ap₂, ◌∙◌}
use mathlib.Core.List.{List}
use native.Mathlib.Omega.{arith}
use lib.Dec.{eqb}
use lib.ListN.{length, get_or, set, length-set}
use lib.Seq.{get_or-set_same, get_or-set_other}
use Rattle.std.specs.Prelude.{if◌then◌else◌}
use Rattle.rules.specs.Plan.{Plan}
use Rattle.rules.specs.Core as rules
use Rattle.rules.specs.Machine.{restful}
use Rattle.rules.specs.Control.{rested_by}
use Rattle.cells.specs.Layout.{cells, two_32, time_at, clock_cell, end_cell, busy_cell, holder_cell, class_cell, standing_cell, node_cell, mask_cell, pointer_cell}
use Rattle.cells.specs.Decode.{plan_in, line_of, core_of, control_of}
use Rattle.cells.specs.Calls.{Stepped, rest_by, resting}
use Rattle.cells.specs.Step.{Rest}
use Rattle.refinement.specs.Kept.{Ready, Kept}
use Rattle.refinement.proofs.Walked.Pointers.{holder_stored, control_kept}
use Rattle.refinement.proofs.Walked.Keeping.{with_line, core_but_line, kept_by}
use Rattle.refinement.proofs.Walked.Chosen.{climb_tied}

-- the step r over cells s is rules' rest at d
pub record Rested (p : Plan) (d : ℕ) (s : List ℕ) (r : Stepped) : Type 0 where
  pub answer : r.answer ≡ Rest d (rested_by p (control_of p s)).moves
  pub control : control_of p r.cells ≡ (rested_by p (control_of p s)).state
  pub core : core_of p r.cells ≡ restful (core_of p s)
  pub same : (i : ℕ) → (i ≡ busy_cell → ⊥) → (i ≡ holder_cell → ⊥) → get_or r.cells i 0 ≡ get_or s i 0
  pub kept : Kept p r.cells

module _ (P : List ℕ) (R : Ready P) (d : ℕ) (s : List ℕ) (K : Kept (plan_in P) s) where
  pub rested_tied : Rested (plan_in P) d s (rest_by P d s)
  unfolding rest_by resting
  rested_tied =
      record {
        answer = ap (Rest d) (climb_tied P R s K);
        control =
            control_kept (plan_in P) busy_cell 0 held (omega arith) (λ e. omega arith) (λ e. omega arith)
            ∙ holder_stored (plan_in P) 1 s K.size;
        core = core_but_line (plan_in P) s r clock nodes ∙ ap (λ (l : rules.Line). with_line l (core_of (plan_in P) s)) line;
        same = same;
        kept =
            kept_by (plan_in P) s r clock nodes K size (λ b g. same (mask_cell b g) (λ e. omega arith) (λ e. omega arith))
            (same standing_cell (λ e. omega arith) (λ e. omega arith)) (rw holder (record { low = omega arith; up = R.drawn.some_hub }))
            (rw (same class_cell (λ e. omega arith) (λ e. omega arith)) K.class)
            (λ b g w. rw (same (pointer_cell b g) (λ e. omega arith) (λ e. omega arith)) (K.pointers b g w));
      }
    where
      held : List ℕ
      held = set s holder_cell 1

      r : List ℕ
      r = set held busy_cell 0

      held_size : length held ≡ cells
      held_size = length-set s holder_cell 1 ∙ K.size

      size : length r ≡ cells
      size = length-set held busy_cell 0 ∙ held_size

      same : (i : ℕ) → (i ≡ busy_cell → ⊥) → (i ≡ holder_cell → ⊥) → get_or r i 0 ≡ get_or s i 0
      same i a b = get_or-set_other held busy_cell i 0 0 a ∙ get_or-set_other s holder_cell i 1 0 b

      nodes : (k i : ℕ) → get_or r (node_cell k i) 0 ≡ get_or s (node_cell k i) 0
      nodes k i = same (node_cell k i) (λ e. omega arith) (λ e. omega arith)

      clock : time_at r clock_cell ≡ time_at s clock_cell
      clock =
          ap₂ (λ (x y : ℕ). x + y * two_32) (same 0 (λ e. omega arith) (λ e. omega arith)) (same 1 (λ e. omega arith) (λ e. omega arith))

      line : line_of r ≡ rules.resting
      line = ap (λ (x : ℕ). if eqb x 0 then rules.resting else rules.busy (time_at r end_cell)) (get_or-set_same held busy_cell 0 0 (omega (arith, held_size)))

      holder : get_or r holder_cell 0 ≡ 1
      holder = get_or-set_other held busy_cell holder_cell 0 0 (λ e. omega arith) ∙ get_or-set_same s holder_cell 1 0 (omega (arith, K.size))
