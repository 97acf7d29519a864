-- The fresh table is the fresh hub of `rules`, and what holds of the cells at every place of a run holds of it.
use Prim.Native.Nat.{ℕ, zero, suc, ◌≤◌, ◌<◌}
use mathlib.Core.Path.{◌≡◌, refl, sym, ap, ◌∙◌}
use mathlib.Core.Bool.{Bool, true, false}
use mathlib.Core.Logic.{⊎_elim}
use mathlib.Core.List.{List}
use native.Mathlib.Omega.{arith}
use native.Mathlib.Nat.{eq-or-lt_of_le}
use lib.Dec.{leb, eqb}
use lib.ListN.{length, get_or, set, replicate, length-set, length-replicate}
use lib.Seq.{get_or-set_same, get_or-set_other}
use borrow.Author.Tests.{leb-true}
use Rattle.std.specs.Prelude.{if◌then◌else◌}
use Rattle.rules.specs.Choice.{sum}
use Rattle.rules.specs.Plan.{Plan}
use Rattle.rules.specs.Drawn.{Within}
use Rattle.rules.specs.Call.{Class}
use Rattle.rules.specs.Core.{fresh, resting, none, nothing_reserved, counts_in}
use Rattle.rules.specs.Control.{at_port, at_first, control}
use Rattle.rules.specs.Run.{fresh_hub}
use Rattle.rules.proofs.Laws.Passes.{Which, which, yes', no', true-false, and_both}
use Rattle.rules.proofs.Control.Intervals.{Shown, some, clear}
use Rattle.rules.proofs.Control.Cover.{shown}
use Rattle.rules.proofs.Control.Pointers.{root_within}
use Rattle.ports.specs.Ports.{ports}
use Rattle.ports.specs.Mask.{digit}
use Rattle.ports.proofs.Coding.{empty_mask}
use Rattle.cells.specs.Layout.{cells, time_at, clock_cell, busy_cell, holder_cell, class_cell, standing_cell, node_cell, mask_cell, pointer_cell, request_cell, granted_cell, class_of, request_of, share_of, pointer_of, unmarked_code}
use Rattle.cells.specs.Decode.{plan_in, is_node, is_hub, is_class_high, line_of, core_of, control_of, hub_of}
use Rattle.cells.specs.Masks.{stands}
use Rattle.cells.specs.Fresh.{pointed, fresh_cells}
use Rattle.refinement.specs.Kept.{Ready, Kept, counts_of, seen_at, standing_in}

-- ---- the cells of the fresh table

-- i is none of the pointers' cells of hubs 1 to n
abbrev pub NoPointer : ℕ → ℕ → Type 0
NoPointer n i = (is_high : Bool) (g : ℕ) → Within n g → i ≡ pointer_cell is_high g → ⊥

-- the stores for hub g
abbrev at_one : ℕ → List ℕ → List ℕ
at_one g s = set (set s (pointer_cell false g) (unmarked_code 1)) (pointer_cell true g) (unmarked_code 1)

one_length : (g : ℕ) (s : List ℕ) → length (at_one g s) ≡ length s
one_length g s =
    length-set (set s (pointer_cell false g) (unmarked_code 1)) (pointer_cell true g) (unmarked_code 1) ∙ length-set s (pointer_cell false g) (unmarked_code 1)

one_other : (g : ℕ) (s : List ℕ) (i : ℕ) → ((is_high : Bool) → i ≡ pointer_cell is_high g → ⊥) → get_or (at_one g s) i 0 ≡ get_or s i 0
one_other g s i h =
    get_or-set_other (set s (pointer_cell false g) (unmarked_code 1)) (pointer_cell true g) i (unmarked_code 1) 0 (h true)
    ∙ get_or-set_other s (pointer_cell false g) i (unmarked_code 1) 0 (h false)

one_same : (is_high : Bool) (g : ℕ) (s : List ℕ) → length s ≡ cells → Within 32 g → get_or (at_one g s) (pointer_cell is_high g) 0 ≡ unmarked_code 1
one_same true g s l w =
    get_or-set_same (set s (pointer_cell false g) (unmarked_code 1)) (pointer_cell true g) (unmarked_code 1) 0
    (omega (arith, length-set s (pointer_cell false g) (unmarked_code 1), w.low, w.up))
one_same false g s l w =
    get_or-set_other (set s (pointer_cell false g) (unmarked_code 1)) (pointer_cell true g) (pointer_cell false g) (unmarked_code 1) 0 (λ e. omega arith)
    ∙ get_or-set_same s (pointer_cell false g) (unmarked_code 1) 0 (omega (arith, w.low, w.up))

pointed-length : (n : ℕ) (s : List ℕ) → length (pointed n s) ≡ length s
unfolding pointed
pointed-length zero s = refl
pointed-length (suc n) s = pointed-length n (at_one (suc n) s) ∙ one_length (suc n) s

pointed_other : (n : ℕ) (s : List ℕ) (i : ℕ) → NoPointer n i → get_or (pointed n s) i 0 ≡ get_or s i 0
unfolding pointed
pointed_other zero s i h = refl
pointed_other (suc n) s i h =
    pointed_other n (at_one (suc n) s) i (λ is_high g w. h is_high g (record { low = w.low; up = omega (arith, w.up) }))
    ∙ one_other (suc n) s i (λ is_high. h is_high (suc n) (record { low = omega arith; up = omega arith }))

-- hub g's pointer is none of those before it
earlier_pointer : (is_high : Bool) (n : ℕ) → NoPointer n (pointer_cell is_high (suc n))
earlier_pointer true n true g w e = omega (arith, w.low, w.up)
earlier_pointer true n false g w e = omega (arith, w.low, w.up)
earlier_pointer false n true g w e = omega (arith, w.low, w.up)
earlier_pointer false n false g w e = omega (arith, w.low, w.up)

pointed-same : (n : ℕ) (s : List ℕ) → length s ≡ cells → n ≤ 32 → (is_high : Bool) (g : ℕ) → Within n g
    → get_or (pointed n s) (pointer_cell is_high g) 0 ≡ unmarked_code 1
unfolding pointed
pointed-same zero s l m is_high g w = absurd (omega (arith, w.low, w.up))
pointed-same (suc n) s l m is_high g w =
    ⊎_elim here (λ h. pointed-same n (at_one (suc n) s) (one_length (suc n) s ∙ l) (omega arith) is_high g (record { low = w.low; up = omega arith }))
    (eq-or-lt_of_le w.up)
  where
    here : g ≡ suc n → get_or (pointed n (at_one (suc n) s)) (pointer_cell is_high g) 0 ≡ unmarked_code 1
    here e =
        rw e
        (pointed_other n (at_one (suc n) s) (pointer_cell is_high (suc n)) (earlier_pointer is_high n)
        ∙ one_same is_high (suc n) s l (record { low = omega arith; up = m }))

abbrev zeros : ℕ → List ℕ
zeros n = replicate n 0

zeros_length : (n : ℕ) → length (zeros n) ≡ n
zeros_length n = length-replicate {A = ℕ} n 0

zeros_cell : (n i : ℕ) → get_or (zeros n) i 0 ≡ 0
zeros_cell zero i = refl
zeros_cell (suc n) zero = refl
zeros_cell (suc n) (suc i) = zeros_cell n i

-- before the pointers are set
abbrev held_by_root : List ℕ
held_by_root = set (zeros cells) holder_cell 1

held-length : length held_by_root ≡ cells
held-length = length-set (zeros cells) holder_cell 1 ∙ zeros_length cells

pub fresh-length : length fresh_cells ≡ cells
unfolding fresh_cells
fresh-length = pointed-length 32 held_by_root ∙ held-length

pub fresh_pointer : (is_high : Bool) (g : ℕ) → Within 32 g → get_or fresh_cells (pointer_cell is_high g) 0 ≡ unmarked_code 1
unfolding fresh_cells
fresh_pointer is_high g w =
    pointed-same 32 held_by_root held-length (omega arith) is_high g w

low_no_pointer : (i : ℕ) → i < 8 → NoPointer 32 i
low_no_pointer i l true g w e = omega arith
low_no_pointer i l false g w e = omega arith

pub fresh_holder : get_or fresh_cells holder_cell 0 ≡ 1
unfolding fresh_cells
fresh_holder =
    pointed_other 32 held_by_root holder_cell (low_no_pointer holder_cell (omega arith))
    ∙ get_or-set_same (zeros cells) holder_cell 1 0 (omega (arith, zeros_length cells))

-- every other cell is 0
pub fresh_cell : (i : ℕ) → NoPointer 32 i → (i ≡ holder_cell → ⊥) → get_or fresh_cells i 0 ≡ 0
unfolding fresh_cells
fresh_cell i n h =
    pointed_other 32 held_by_root i n
    ∙ get_or-set_other (zeros cells) holder_cell i 1 0 h ∙ zeros_cell cells i

pub fresh_low : (i : ℕ) → i < 8 → (i ≡ holder_cell → ⊥) → get_or fresh_cells i 0 ≡ 0
fresh_low i l h = fresh_cell i (low_no_pointer i l) h

pub fresh_node : (k i : ℕ) → get_or fresh_cells (node_cell k i) 0 ≡ 0
fresh_node k i = fresh_cell (node_cell k i) apart (λ e. omega arith)
  where
    apart : NoPointer 32 (node_cell k i)
    apart true g w e = omega arith
    apart false g w e = omega arith

pub fresh_mask : (is_high : Bool) (g : ℕ) → get_or fresh_cells (mask_cell is_high g) 0 ≡ 0
fresh_mask is_high g = fresh_cell (mask_cell is_high g) (apart is_high) (λ e. omega arith)
  where
    apart : (b : Bool) → NoPointer 32 (mask_cell b g)
    apart true true h w e = omega arith
    apart true false h w e = omega arith
    apart false true h w e = omega arith
    apart false false h w e = omega arith

-- ---- the hub that they are

module _ (p : Plan) where
  fresh_request : (k : ℕ) → (core_of p fresh_cells).request k ≡ none
  unfolding core_of
  fresh_request k = go (is_node p k)
    where
      go : (b : Bool) → (if b then request_of (get_or fresh_cells (request_cell k) 0) else none) ≡ none
      go true = ap request_of (fresh_node k 0)
      go false = refl

  fresh_share : (k i : ℕ) (b : Bool) → (if b then share_of (get_or fresh_cells (node_cell k i) 0) else nothing_reserved) ≡ nothing_reserved
  fresh_share k i true = ap share_of (fresh_node k i)
  fresh_share k i false = refl

  fresh-granted : (k : ℕ) (b : Bool) → (if b then get_or fresh_cells (granted_cell k) 0 else 0) ≡ 0
  fresh-granted k true = fresh_node k 3
  fresh-granted k false = refl

  fresh_clock : time_at fresh_cells clock_cell ≡ 0
  fresh_clock = rw (fresh_low 0 (omega arith) (λ e. omega arith), fresh_low 1 (omega arith) (λ e. omega arith))

  fresh-line : line_of fresh_cells ≡ resting
  fresh-line = rw (fresh_low busy_cell (omega arith) (λ e. omega arith))

  pub fresh_core : core_of p fresh_cells ≡ fresh
  unfolding core_of
  fresh_core =
      λ i. record {
        clock = fresh_clock i;
        line = fresh-line i;
        request = λ k. fresh_request k i;
        force = λ k. fresh_share k 1 (is_node p k) i;
        latest = λ k. fresh_share k 2 (is_node p k) i;
        granted = λ k. fresh-granted k (is_node p k) i;
      }

module _ (P : List ℕ) (R : Ready P) where
  first_pointer : (c : Class) (g : ℕ) (b : Bool) → is_hub (plan_in P) g ≡ b
      → (if b then pointer_of (get_or fresh_cells (pointer_cell (is_class_high c) g) 0) else at_port 1) ≡ at_port 1
  first_pointer c g true e =
      let (a, b) = and_both (leb 1 g) (leb g (plan_in P).hubs) e in
      let w : Within 32 g = record { low = leb-true 1 g a; up = omega (arith, leb-true g (plan_in P).hubs b, R.drawn.few_hubs) } in
      ap pointer_of (fresh_pointer (is_class_high c) g w)
  first_pointer c g false e = refl

  fresh-control : control_of (plan_in P) fresh_cells ≡ at_first
  unfolding control_of
  fresh-control =
      λ i. record {
        holder = fresh_holder i;
        latest = class_of (eqb (fresh_low class_cell (omega arith) (λ e. omega arith) i) 1);
        pointer = λ c g. first_pointer c g (is_hub (plan_in P) g) refl i;
      }

  pub fresh_hub_lem : hub_of (plan_in P) fresh_cells ≡ fresh_hub (plan_in P) (control (plan_in P))
  fresh_hub_lem = λ i. record { core = fresh_core (plan_in P) i; turn = fresh-control i }

  -- no request counts
  none-counts : (is_high : Bool) (k : ℕ) → counts_of (plan_in P) is_high fresh_cells k ≡ false
  unfolding counts_in
  none-counts true k = rw (fresh_core (plan_in P))
  none-counts false k = rw (fresh_core (plan_in P))

  none_seen : (is_high : Bool) (g q : ℕ) → Within (plan_in P).hubs g → 1 ≤ q → seen_at (plan_in P) (counts_of (plan_in P) is_high fresh_cells) g q ≡ false
  none_seen is_high g q w l = go (which (leb q ((plan_in P).ports g)))
    where
      f : ℕ → Bool
      f = counts_of (plan_in P) is_high fresh_cells

      clear_of : {a z : ℕ} {b : Bool} → Shown f a z b → b ≡ false
      clear_of (some e s) = absurd (true-false s.holds (none-counts is_high s.number))
      clear_of (clear e n) = e

      go : Which (leb q ((plan_in P).ports g)) → seen_at (plan_in P) f g q ≡ false
      go (yes' e) = rw e (clear_of (shown (plan_in P) R.drawn f g q w (record { low = l; up = leb-true q ((plan_in P).ports g) e })))
      go (no' e) = rw e

  none_stand : (n : ℕ) → standing_in n fresh_cells ≡ 0
  unfolding sum
  none_stand zero = refl
  none_stand (suc n) =
      let e : digit (stands (get_or fresh_cells (request_cell (suc n)) 0)) ≡ 0 = ap (λ (x : ℕ). digit (stands x)) (fresh_node (suc n) 0) in
      omega (arith, none_stand n)

  pub fresh_kept : Kept (plan_in P) fresh_cells
  fresh_kept =
      record {
        size = fresh-length;
        masks = λ is_high g w.
            fresh_mask is_high g
            ∙ empty_mask ports (seen_at (plan_in P) (counts_of (plan_in P) is_high fresh_cells) g) (λ q l u. none_seen is_high g q w l);
        standing = fresh_low standing_cell (omega arith) (λ e. omega arith) ∙ sym (none_stand (plan_in P).nodes);
        holder = rw fresh_holder (root_within (plan_in P) R.drawn);
        class = omega (arith, fresh_low class_cell (omega arith) (λ e. omega arith));
        pointers = λ is_high g w.
            (let e = fresh_pointer is_high g (record { low = w.low; up = omega (arith, w.up, R.drawn.few_hubs) }) in
            record { low = omega arith; up = omega arith });
      }
