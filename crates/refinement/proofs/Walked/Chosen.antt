-- The turn over the cells is rules' turn, and what holds of the cells holds after it.
use Prim.Native.Nat.{ℕ, ◌+◌, ◌-◌, ◌*◌, ◌≤◌, ◌<◌}
use mathlib.Core.Path.{◌≡◌, sym, ap, ap₂, ◌∙◌}
use mathlib.Core.Bool.{Bool, true, false}
use mathlib.Core.List.{List}
use native.Mathlib.Omega.{arith}
use lib.Dec.{eqb}
use lib.ListN.{length, get_or}
use borrow.Author.Tests.{eq-eqb, ne_eqb, eqb-true, eqb-false}
use Rattle.std.specs.Prelude.{if◌then◌else◌}
use Rattle.rules.specs.Plan.{Plan}
use Rattle.rules.specs.Call.{same}
use Rattle.rules.specs.Core.{resting, busy}
use Rattle.rules.specs.Machine.{Turn}
use Rattle.rules.specs.Control as rules
use Rattle.rules.specs.Control.{Control, climb, turning}
use Rattle.rules.specs.Drawn.{Within}
use Rattle.rules.proofs.Laws.Passes.{Which, which, yes', no'}
use Rattle.rules.proofs.Control.Pointers.{chain_within}
use Rattle.rules.proofs.Control.Nearest.{nearest_near}
use Rattle.ports.specs.Mask.{digit}
use Rattle.plan.specs.Tables.{plan_of}
use Rattle.cells.specs.Layout.{cells, two_32, time_at, clock_cell, end_cell, busy_cell, holder_cell, class_cell, standing_cell, node_cell, mask_cell, pointer_cell, class_of}
use Rattle.cells.specs.Decode.{plan_in, line_of, core_of, control_of}
use Rattle.cells.specs.Turns.{Turned, climb_by, walked, settled, choose_by}
use Rattle.cells.specs.declared.Turn as state
use Rattle.refinement.specs.Kept.{Ready, Kept, counts_of}
use Rattle.refinement.proofs.Walked.Steps.{if_hub_lem}
use Rattle.refinement.proofs.Walked.Frame.{NoPointer, Walkable, digit-up, mask_no_pointer}
use Rattle.refinement.proofs.Walked.Nearest.{nearest_tied}
use Rattle.refinement.proofs.Walked.Walk.{Tied, WalkAt, walk_tied}
use Rattle.refinement.proofs.Walked.Keeping.{core_kept, kept_by}
use Rattle.refinement.proofs.Walked.Settled.{settled_size, settled_same, settled_holder, settled_class, settled-control}

-- i is a cell that no turn changes: no pointer's, and neither the holder's nor the latest class's
pub record NoTurn (i : ℕ) : Type 0 where
  pub pointer : NoPointer i
  pub holder : i ≡ holder_cell → ⊥
  pub class : i ≡ class_cell → ⊥

-- the turn r over cells s is rules' turn t
pub record Chosen (p : Plan) (s : List ℕ) (r : Turned) (t : Turn Control) : Type 0 where
  pub node : r.turn.node ≡ t.node
  pub moves : r.turn.moves ≡ t.moves
  pub control : control_of p r.cells ≡ t.state
  pub core : core_of p r.cells ≡ core_of p s
  pub same : (i : ℕ) → NoTurn i → get_or r.cells i 0 ≡ get_or s i 0
  pub kept : Kept p r.cells

low_no_turn : (i : ℕ) → i < 8 → (i ≡ holder_cell → ⊥) → (i ≡ class_cell → ⊥) → NoTurn i
low_no_turn i l a b = record { pointer = λ d h w e. omega arith; holder = a; class = b }

node_no_turn : (k i : ℕ) → NoTurn (node_cell k i)
node_no_turn k i =
    record { pointer = λ d h w e. omega (arith, w.up, digit-up d); holder = λ e. omega arith; class = λ e. omega arith }

mask_no_turn : (b : Bool) (g : ℕ) → NoTurn (mask_cell b g)
mask_no_turn b g = record { pointer = mask_no_pointer b g; holder = λ e. omega arith; class = λ e. omega arith }

pointer_no_low : (b : Bool) (g i : ℕ) → i < 8 → pointer_cell b g ≡ i → ⊥
pointer_no_low b g i l e = omega arith

-- ---- the walk from where control is, or from the root

climb_of : (P : List ℕ) → Ready P → (g : ℕ) → Within (plan_in P).hubs g → climb_by P g ≡ climb (plan_in P) g
unfolding plan_of
climb_of P R g w = if_hub_lem g (climb (plan_in P) g) 0 (record { low = w.low; up = omega (arith, w.up, R.drawn.few_hubs) })

pub climb_tied : (P : List ℕ) → Ready P → (s : List ℕ) → Kept (plan_in P) s
    → climb_by P (get_or s holder_cell 0) ≡ climb (plan_in P) (control_of (plan_in P) s).holder
unfolding control_of
climb_tied P R s K = climb_of P R (get_or s holder_cell 0) K.holder

-- the class sought is the latest grant's
pub class_tied : (x : ℕ) (is_high : Bool) → x ≤ 1 → eqb x (digit is_high) ≡ same (class_of is_high) (class_of (eqb x 1))
class_tied x true l = go (which (eqb x 1))
  where
    go : Which (eqb x 1) → eqb x 1 ≡ same (class_of true) (class_of (eqb x 1))
    go (yes' e) = rw e
    go (no' e) = rw e
class_tied x false l = go (which (eqb x 1))
  where
    go : Which (eqb x 1) → eqb x 0 ≡ same (class_of false) (class_of (eqb x 1))
    go (yes' e) = let i = eqb-true x 1 e in rw (e, ne_eqb x 0 (λ z. omega arith))
    go (no' e) = let i = eqb-false x 1 e in rw (e, eq-eqb x 0 (omega arith))

module _ (P : List ℕ) (R : Ready P) (s : List ℕ) (K : Kept (plan_in P) s) (is_high : Bool) where
  abbrev sought : ℕ → Bool
  sought = counts_of (plan_in P) is_high s

  walkable : Walkable (plan_in P) is_high sought s
  walkable = record { size = K.size; masks = K.masks is_high; pointers = K.pointers }

  walked_tied : Tied (plan_in P) is_high sought s (walked P is_high s) (rules.choose_by (plan_in P) (class_of is_high) sought (control_of (plan_in P) s))
  unfolding walked rules.choose_by WalkAt control_of
  walked_tied = go (which (eqb (get_or s class_cell 0) (digit is_high)))
    where
      tied : eqb (get_or s class_cell 0) (digit is_high) ≡ same (class_of is_high) (control_of (plan_in P) s).latest
      tied = class_tied (get_or s class_cell 0) is_high K.class

      go : Which (eqb (get_or s class_cell 0) (digit is_high))
          → Tied (plan_in P) is_high sought s (walked P is_high s) (rules.choose_by (plan_in P) (class_of is_high) sought (control_of (plan_in P) s))
      go (yes' e) =
          rw (sym tied, e) (walk_tied P R is_high sought rules.most_looks (get_or s holder_cell 0) 0 s K.holder walkable)
      go (no' e) =
          let t = turning (plan_in P) (class_of is_high) (control_of (plan_in P) s) in
          let w = chain_within (plan_in P) R.drawn (nearest_near (plan_in P) R.drawn ((control_of (plan_in P) s).pointer (class_of is_high)) (get_or s holder_cell 0) K.holder).chain in
          rw (sym tied, e, nearest_tied P R s is_high (get_or s holder_cell 0) K.holder, climb_of P R (get_or s holder_cell 0) K.holder, climb_of P R t w)
          (walk_tied P R is_high sought rules.most_looks t (climb (plan_in P) (get_or s holder_cell 0) - climb (plan_in P) t) s w walkable)

  pub chosen_tied :
      Chosen (plan_in P) s (choose_by P is_high s) (rules.choose_by (plan_in P) (class_of is_high) (counts_of (plan_in P) is_high s) (control_of (plan_in P) s))
  unfolding choose_by
  chosen_tied =
      record {
        node = ap (λ (x : Turn Control). x.node) (sym t.turn);
        moves = ap (λ (x : Turn Control). x.moves) (sym t.turn);
        control = settled-control is_high w.turn w.cells size (plan_in P) ∙ ap (λ (x : Turn Control). x.state) (sym t.turn);
        core = core_kept (plan_in P) s r clock (λ k i. same (node_cell k i) (node_no_turn k i)) line;
        same = same;
        kept =
            kept_by (plan_in P) s r clock (λ k i. same (node_cell k i) (node_no_turn k i)) K (settled_size is_high w.turn w.cells size)
            (λ b g. same (mask_cell b g) (mask_no_turn b g)) (low standing_cell (omega arith) (λ e. omega arith) (λ e. omega arith))
            (rw (settled_holder is_high w.turn w.cells size) t.hub)
            (settled_class is_high w.turn w.cells size (rw (t.same class_cell (λ d h u e. omega arith)) K.class))
            (λ b g u.
            rw (settled_same is_high w.turn w.cells size (pointer_cell b g) (pointer_no_low b g holder_cell (omega arith)) (pointer_no_low b g class_cell (omega arith)))
            (t.left.pointers b g u));
      }
    where
      w : Turned
      w = walked P is_high s

      t : Tied (plan_in P) is_high sought s w (rules.choose_by (plan_in P) (class_of is_high) sought (control_of (plan_in P) s))
      t = walked_tied

      size : length w.cells ≡ cells
      size = t.left.size

      r : List ℕ
      r = settled is_high w.turn w.cells

      same : (i : ℕ) → NoTurn i → get_or r i 0 ≡ get_or s i 0
      same i n = settled_same is_high w.turn w.cells size i n.holder n.class ∙ t.same i n.pointer

      low : (i : ℕ) → i < 8 → (i ≡ holder_cell → ⊥) → (i ≡ class_cell → ⊥) → get_or r i 0 ≡ get_or s i 0
      low i l a b = same i (low_no_turn i l a b)

      time : (i : ℕ) → i < 4 → time_at r i ≡ time_at s i
      time i l =
          ap₂ (λ (x y : ℕ). x + y * two_32) (low i (omega arith) (λ e. omega arith) (λ e. omega arith))
          (low (i + 1) (omega arith) (λ e. omega arith) (λ e. omega arith))

      clock : time_at r clock_cell ≡ time_at s clock_cell
      clock = time clock_cell (omega arith)

      line : line_of r ≡ line_of s
      line =
          ap₂ (λ (x y : ℕ). if eqb x 0 then resting else busy y) (low busy_cell (omega arith) (λ e. omega arith) (λ e. omega arith))
          (time end_cell (omega arith))
