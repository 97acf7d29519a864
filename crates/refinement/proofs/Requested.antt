-- A node's request changes, or is granted: the core changes there alone, control
-- doesn't, and the masks and the number of standing requests are mended.
use Prim.Native.Nat.{ℕ, ◌+◌, ◌*◌, ◌≤◌, ◌<◌}
use mathlib.Core.Path.{◌≡◌, refl, sym, ap, ap₂, subst, ◌∙◌}
use mathlib.Core.Bool.{Bool, true, false}
use mathlib.Core.List.{List}
use native.Mathlib.Omega.{arith}
use borrow.Author.Tests.{le-ltb}
use lib.Dec.{eqb}
use lib.ListN.{length, get_or, set, length-set}
use lib.Seq.{get_or-set_same, get_or-set_other}
use Rattle.std.specs.Prelude.{if◌then◌else◌}
use Rattle.rules.specs.Plan.{Plan}
use Rattle.rules.specs.Drawn.{Within, Drawn}
use Rattle.rules.specs.Core.{Core, none, nothing_reserved}
use Rattle.rules.specs.Call.{Class}
use Rattle.rules.specs.Control.{Control}
use Rattle.rules.specs.Rows.{with_request}
use Rattle.rules.proofs.Laws.Passes.{Which, which, yes', no', put_same, put_other}
use Rattle.cells.specs.Layout.{cells, two_32, time_at, clock_cell, standing_cell, node_cell, request_cell, pointer_cell, class_of, request_of, share_of}
use Rattle.cells.specs.Decode.{plan_in, is_node, is_hub, is_class_high, line_of, core_of, control_of}
use Rattle.cells.specs.Masks.{standing_after, put_request}
use Rattle.refinement.specs.Kept.{Ready, RightBut, Kept, Mended, Pointing, standing_in}
use Rattle.refinement.proofs.Same.{agree, core_same, control-same}
use Rattle.refinement.proofs.Mended.{mended}
use Rattle.refinement.proofs.Changed.{Change, KeptBut, right_but, mended_kept, other_cell, node_within, within_node, hub_within}
use Rattle.refinement.proofs.Standing.{standing_after_lem}

-- what a call leaves: cells that are kept, with this core and this control
pub record Left (p : Plan) (r : List ℕ) (c : Core) (σ : Control) : Type 0 where
  pub kept : Kept p r
  pub core : core_of p r ≡ c
  pub control : control_of p r ≡ σ

-- two cores with the same parts
pub core_path : {a b : Core} → a.clock ≡ b.clock → a.line ≡ b.line → ((k : ℕ) → a.request k ≡ b.request k)
    → ((k : ℕ) → a.force k ≡ b.force k) → ((k : ℕ) → a.latest k ≡ b.latest k) → ((k : ℕ) → a.granted k ≡ b.granted k) → a ≡ b
core_path clock line request force latest granted i =
    record {
      clock = clock i;
      line = line i;
      request = λ k. request k i;
      force = λ k. force k i;
      latest = λ k. latest k i;
      granted = λ k. granted k i;
    }

-- what is read of a node of the plan
pub own_field : (p : Plan) (k : ℕ) → Within p.nodes k → {A : Type 0} (read : ℕ → A) (default : A) (x : ℕ)
    → (if is_node p k then read x else default) ≡ read x
own_field p k w read default x = rw (within_node p k w)

module _ (p : Plan) (D : Drawn p) (k : ℕ) (w : Within p.nodes k) (s r : List ℕ) (c : Change k s r) where
  header : (i : ℕ) → i < 7 → get_or r i 0 ≡ get_or s i 0
  header i l = c.same i (λ e. omega arith) (omega arith)

  -- clock, line and control are as they were
  pub change_clock : time_at r clock_cell ≡ time_at s clock_cell
  change_clock = ap₂ (λ (x y : ℕ). x + y * two_32) (header 0 (omega arith)) (header 1 (omega arith))

  pub change-line : line_of r ≡ line_of s
  change-line =
      rw (header 4 (omega arith), header 2 (omega arith), header 3 (omega arith))

  pointer_cell_lem : (is_high : Bool) (g : ℕ) → g ≤ 32 → get_or r (pointer_cell is_high g) 0 ≡ get_or s (pointer_cell is_high g) 0
  pointer_cell_lem true g u = c.same (pointer_cell true g) (λ e. omega arith) (omega arith)
  pointer_cell_lem false g u = c.same (pointer_cell false g) (λ e. omega arith) (omega arith)

  pub change-control : control_of p r ≡ control_of p s
  unfolding control_of
  change-control i =
      record {
        holder = header 5 (omega arith) i;
        latest = class_of (eqb (header 6 (omega arith) i) 1);
        pointer = λ d g. at d g i;
      }
    where
      at : (d : Class) (g : ℕ) → (control_of p r).pointer d g ≡ (control_of p s).pointer d g
      at d g = go (which (is_hub p g))
        where
          go : Which (is_hub p g) → (control_of p r).pointer d g ≡ (control_of p s).pointer d g
          go (yes' e) = rw (e, pointer_cell_lem (is_class_high d) g (omega (arith, (hub_within p g e).up, D.few_hubs)))
          go (no' e) = rw e

  -- a field of the core that is read from one cell of each node: as it was for the others
  pub change_field : {A : Type 0} (read : ℕ → A) (default : A) (i : ℕ) → i < 4 → (j : ℕ) → (j ≡ k → ⊥)
      → (if is_node p j then read (get_or r (node_cell j i) 0) else default) ≡ (if is_node p j then read (get_or s (node_cell j i) 0) else default)
  change_field read default i l j d = go (which (is_node p j))
    where
      go : Which (is_node p j)
          → (if is_node p j then read (get_or r (node_cell j i) 0) else default) ≡ (if is_node p j then read (get_or s (node_cell j i) 0) else default)
      go (yes' e) = rw (e, other_cell p D k w s r c j i (node_within p j e) d l)
      go (no' e) = rw e

  -- the clock, the line and what the others have are as they were
  pub change_core : (b : Core) → b.clock ≡ time_at s clock_cell → b.line ≡ line_of s
      → ((j : ℕ) → (j ≡ k → ⊥) → b.request j ≡ (core_of p s).request j) → ((j : ℕ) → (j ≡ k → ⊥) → b.force j ≡ (core_of p s).force j)
      → ((j : ℕ) → (j ≡ k → ⊥) → b.latest j ≡ (core_of p s).latest j) → ((j : ℕ) → (j ≡ k → ⊥) → b.granted j ≡ (core_of p s).granted j)
      → (core_of p r).request k ≡ b.request k → (core_of p r).force k ≡ b.force k → (core_of p r).latest k ≡ b.latest k
      → (core_of p r).granted k ≡ b.granted k → core_of p r ≡ b
  unfolding core_of
  change_core b clock line request force latest granted own_request own_force own_latest own_granted =
      core_path (change_clock ∙ sym clock) (change-line ∙ sym line)
      (agree k own_request (λ j d. change_field request_of none 0 (omega arith) j d ∙ sym (request j d)))
      (agree k own_force (λ j d. change_field share_of nothing_reserved 1 (omega arith) j d ∙ sym (force j d)))
      (agree k own_latest (λ j d. change_field share_of nothing_reserved 2 (omega arith) j d ∙ sym (latest j d)))
      (agree k own_granted (λ j d. change_field (λ x. x) 0 3 (omega arith) j d ∙ sym (granted j d)))

  pub change_but : KeptBut p s → get_or r standing_cell 0 ≡ standing_in p.nodes r → KeptBut p r
  change_but K n =
      record {
        standing = n;
        holder = subst (λ (x : ℕ). Within p.hubs x) (sym (header 5 (omega arith))) K.holder;
        class = subst (λ (x : ℕ). x ≤ 1) (sym (header 6 (omega arith))) K.class;
        pointers = λ is_high g v. subst Pointing (sym (pointer_cell_lem is_high g (omega (arith, v.up, D.few_hubs)))) (K.pointers is_high g v);
      }

-- with its masks mended, a table whose core and control are known is left
mended_left : (p : Plan) → p.hubs ≤ 32 → (s r : List ℕ) → Mended p s r → KeptBut p s
    → {c : Core} {σ : Control} → core_of p s ≡ c → control_of p s ≡ σ → Left p r c σ
mended_left p few s r m kept core control =
    record {
      kept = mended_kept p few s r kept m;
      core = core_same p s r m.same ∙ core;
      control = control-same p few s r m.same ∙ control;
    }

-- node k's request becomes x, where the masks are right but perhaps for k
module _ (P : List ℕ) (R : Ready P) (s : List ℕ) (size : length s ≡ cells) (k : ℕ) (w : Within (plan_in P).nodes k)
    (right : (is_high : Bool) → RightBut (plan_in P) k (get_or s (request_cell k) 0) is_high s) (K : KeptBut (plan_in P) s) (x : ℕ) where
  few_nodes : (plan_in P).nodes ≤ 256
  few_nodes = R.drawn.few_nodes

  number : ℕ
  number = standing_after (get_or s standing_cell 0) (get_or s (request_cell k) 0) x

  -- before the masks are mended
  asked : List ℕ
  asked = set (set s standing_cell number) (request_cell k) x

  asked-change : Change k s asked
  unfolding asked
  asked-change =
      record {
        size = simp length-set size;
        same = λ i d e. get_or-set_other (set s standing_cell number) (request_cell k) i x 0 e.0 ∙ get_or-set_other s standing_cell i number 0 d;
      }

  asked_own : get_or asked (request_cell k) 0 ≡ x
  unfolding asked
  asked_own = get_or-set_same (set s standing_cell number) (request_cell k) x 0 (simp length-set (omega (arith, size, w.up, few_nodes)))

  -- another cell of node k is as it was
  asked_kept : (i : ℕ) → 1 ≤ i → i < 4 → get_or asked (node_cell k i) 0 ≡ get_or s (node_cell k i) 0
  unfolding asked
  asked_kept i l u =
      get_or-set_other (set s standing_cell number) (request_cell k) (node_cell k i) x 0 (λ e. omega arith)
      ∙ get_or-set_other s standing_cell (node_cell k i) number 0 (λ e. omega arith)

  asked_standing : get_or asked standing_cell 0 ≡ standing_in (plan_in P).nodes asked
  unfolding asked number
  asked_standing =
      get_or-set_other (set s standing_cell number) (request_cell k) standing_cell x 0 (λ e. omega arith)
      ∙ get_or-set_same s standing_cell number 0 (omega (arith, size))
      ∙ ap (λ (n : ℕ). standing_after n (get_or s (request_cell k) 0) x) K.standing
      ∙ sym
      (standing_after_lem (plan_in P).nodes few_nodes k w s asked
      (λ j v d. other_cell (plan_in P) R.drawn k w s asked asked-change j 0 v d (omega arith)) x asked_own)

  asked_but : KeptBut (plan_in P) asked
  asked_but = change_but (plan_in P) R.drawn k w s asked asked-change K asked_standing

  asked_core : core_of (plan_in P) asked ≡ with_request k (request_of x) (core_of (plan_in P) s)
  unfolding core_of
  asked_core =
      change_core (plan_in P) R.drawn k w s asked asked-change (with_request k (request_of x) (core_of (plan_in P) s)) refl refl
      (λ j d. put_other (core_of (plan_in P) s).request k (request_of x) j d) (λ j d. refl) (λ j d. refl) (λ j d. refl)
      (own_field (plan_in P) k w request_of none (get_or asked (request_cell k) 0) ∙ ap request_of asked_own
      ∙ sym (put_same (core_of (plan_in P) s).request k (request_of x)))
      (ap (λ (y : ℕ). if is_node (plan_in P) k then share_of y else nothing_reserved) (asked_kept 1 (omega arith) (omega arith)))
      (ap (λ (y : ℕ). if is_node (plan_in P) k then share_of y else nothing_reserved) (asked_kept 2 (omega arith) (omega arith)))
      (ap (λ (y : ℕ). if is_node (plan_in P) k then y else 0) (asked_kept 3 (omega arith) (omega arith)))

  pub request_left : Left (plan_in P) (put_request P k x s) (with_request k (request_of x) (core_of (plan_in P) s)) (control_of (plan_in P) s)
  unfolding put_request asked number
  request_left =
      rw (le-ltb k 1 w.low, le-ltb 256 k (omega (arith, w.up, few_nodes)))
      (mended_left (plan_in P) R.drawn.few_hubs asked _
      (mended P R k w (get_or s (request_cell k) 0) x asked asked-change.size asked_own
      (λ is_high. right_but (plan_in P) R.drawn k w s asked asked-change is_high (right is_high)))
      asked_but asked_core (change-control (plan_in P) R.drawn k w s asked asked-change))
