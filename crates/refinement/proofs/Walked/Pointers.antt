-- Pointers, holder and latest class over the cells: what is read, and that
-- a store into one of their cells is the change that `rules` makes.
use Prim.Native.Nat.{ℕ, ◌+◌, ◌*◌, ◌/◌, ◌%◌, ◌≤◌, ◌<◌}
use mathlib.Core.Path.{◌≡◌, refl, ap, ◌∙◌}
use mathlib.Core.Bool.{Bool, true, false, ◌&&◌}
use mathlib.Core.List.{List}
use native.Mathlib.Omega.{arith}
use lib.Dec.{leb, eqb}
use lib.ListN.{length, get_or, set}
use lib.Seq.{get_or-set_same, get_or-set_other}
use borrow.Author.Tests.{le-leb, leb-true, eq-eqb, ne_eqb, eqb-true, eqb-false}
use Rattle.std.specs.Prelude.{if◌then◌else◌}
use Rattle.rules.specs.Choice.{put}
use Rattle.rules.specs.Plan.{Plan}
use Rattle.rules.specs.Call.{Class, normal, high, same}
use Rattle.rules.specs.Drawn.{Within}
use Rattle.rules.specs.Control.{at_port, marking, point, hand_to, granted}
use Rattle.rules.proofs.Laws.Passes.{Which, which, yes', no', and_both}
use Rattle.ports.specs.Mask.{digit}
use Rattle.cells.specs.Layout.{cells, holder_cell, class_cell, pointer_cell, class_of, pointer_of, unmarked_code, marked_code}
use Rattle.cells.specs.Decode.{is_hub, is_class_high, control_of}

-- ---- a pointer in one cell

pub pointer_unmarked : (q : ℕ) → pointer_of (unmarked_code q) ≡ at_port q
pointer_unmarked q =
    let port : q * 2 / 2 ≡ q = omega arith in
    let mark = ne_eqb (q * 2 % 2) 1 (λ e. omega arith) in
    λ i. record { port = port i; marked = mark i }

pub pointer_marked : (q : ℕ) → pointer_of (marked_code q) ≡ marking q
pointer_marked q =
    let port : (q * 2 + 1) / 2 ≡ q = omega arith in
    let mark = eq-eqb ((q * 2 + 1) % 2) 1 (omega arith) in
    λ i. record { port = port i; marked = mark i }

-- the cell is port q, marked, just where the pointer's port is q and it is marked
pub marked_here : (x q : ℕ) → (eqb q (x / 2) && eqb (x % 2) 1) ≡ eqb x (marked_code q)
marked_here x q = go (which (eqb q (x / 2))) (which (eqb (x % 2) 1))
  where
    go : Which (eqb q (x / 2)) → Which (eqb (x % 2) 1) → (eqb q (x / 2) && eqb (x % 2) 1) ≡ eqb x (q * 2 + 1)
    go (yes' e) (yes' d) =
        let a = eqb-true q (x / 2) e in
        let b = eqb-true (x % 2) 1 d in
        rw (e, d, eq-eqb x (q * 2 + 1) (omega arith))
    go (yes' e) (no' d) =
        let b = eqb-false (x % 2) 1 d in
        rw (e, d, ne_eqb x (q * 2 + 1) (λ z. b (omega arith)))
    go (no' e) w =
        let a = eqb-false q (x / 2) e in
        rw (e, ne_eqb x (q * 2 + 1) (λ z. a (omega arith)))

-- ---- which hubs have cells

module _ (p : Plan) where
  pub hub_is : (g : ℕ) → Within p.hubs g → is_hub p g ≡ true
  hub_is g w = rw (le-leb 1 g w.low, le-leb g p.hubs w.up)

  hub_within : (g : ℕ) → is_hub p g ≡ true → Within p.hubs g
  hub_within g e =
      let t = and_both (leb 1 g) (leb g p.hubs) e in
      record { low = leb-true 1 g t.0; up = leb-true g p.hubs t.1 }

  -- ---- what is read

  pub pointer_read : (is_high : Bool) (g : ℕ) (s : List ℕ) → Within p.hubs g
      → (control_of p s).pointer (class_of is_high) g ≡ pointer_of (get_or s (pointer_cell is_high g) 0)
  unfolding control_of
  pointer_read true g s w = rw (hub_is g w)
  pointer_read false g s w = rw (hub_is g w)

  -- ---- what a store changes

  -- the pointers that cells s and r are, of a class and a hub, where the hub's cell is the same in both
  read_other : (c : Class) (g : ℕ) (s r : List ℕ) → (Within p.hubs g → get_or r (pointer_cell (is_class_high c) g) 0 ≡ get_or s (pointer_cell (is_class_high c) g) 0)
      → (control_of p r).pointer c g ≡ (control_of p s).pointer c g
  unfolding control_of
  read_other c g s r same = go (which (is_hub p g))
    where
      go : Which (is_hub p g)
          → (if is_hub p g then pointer_of (get_or r (pointer_cell (is_class_high c) g) 0) else at_port 1)
          ≡ (if is_hub p g then pointer_of (get_or s (pointer_cell (is_class_high c) g) 0) else at_port 1)
      go (yes' e) = rw e (ap pointer_of (same (hub_within g e)))
      go (no' e) = rw e

  -- the hub's own cell where it is stored into, any other where it is not
  read-put : (is_high : Bool) (h v g : ℕ) (s : List ℕ) → length s ≡ cells → p.hubs ≤ 32 → Within p.hubs h
      → (control_of p (set s (pointer_cell is_high h) v)).pointer (class_of is_high) g ≡ put ((control_of p s).pointer (class_of is_high)) h (pointer_of v) g
  read-put is_high h v g s size few w = go (which (eqb g h))
    where
      other : (g ≡ h → ⊥) → (b : Bool) → (control_of p (set s (pointer_cell b h) v)).pointer (class_of b) g ≡ (control_of p s).pointer (class_of b) g
      other n true =
          read_other high g s (set s (pointer_cell true h) v)
          (λ u. get_or-set_other s (pointer_cell true h) (pointer_cell true g) v 0 (λ z. n (omega (arith, u.low, w.low))))
      other n false =
          read_other normal g s (set s (pointer_cell false h) v)
          (λ u. get_or-set_other s (pointer_cell false h) (pointer_cell false g) v 0 (λ z. n (omega (arith, u.low, w.low))))

      here : (b : Bool) → get_or (set s (pointer_cell b h) v) (pointer_cell b h) 0 ≡ v
      here true = get_or-set_same s (pointer_cell true h) v 0 (omega (arith, w.up))
      here false = get_or-set_same s (pointer_cell false h) v 0 (omega (arith, w.up))

      go : Which (eqb g h)
          → (control_of p (set s (pointer_cell is_high h) v)).pointer (class_of is_high) g ≡ put ((control_of p s).pointer (class_of is_high)) h (pointer_of v) g
      go (yes' e) =
          rw (e, eqb-true g h e) (pointer_read is_high h (set s (pointer_cell is_high h) v) w ∙ ap pointer_of (here is_high))
      go (no' e) = rw e (other (eqb-false g h e) is_high)

  pub point_stored : (is_high : Bool) (h v : ℕ) (s : List ℕ) → length s ≡ cells → p.hubs ≤ 32 → Within p.hubs h
      → control_of p (set s (pointer_cell is_high h) v) ≡ point (class_of is_high) h (pointer_of v) (control_of p s)
  unfolding control_of
  point_stored is_high h v s size few w =
      λ i. record { holder = holder is_high i; latest = class_of (eqb (class is_high i) 1); pointer = λ d g. pointers is_high d g i }
    where
      holder : (b : Bool) → get_or (set s (pointer_cell b h) v) holder_cell 0 ≡ get_or s holder_cell 0
      holder true = get_or-set_other s (pointer_cell true h) holder_cell v 0 (λ z. omega arith)
      holder false = get_or-set_other s (pointer_cell false h) holder_cell v 0 (λ z. omega arith)

      class : (b : Bool) → get_or (set s (pointer_cell b h) v) class_cell 0 ≡ get_or s class_cell 0
      class true = get_or-set_other s (pointer_cell true h) class_cell v 0 (λ z. omega arith)
      class false = get_or-set_other s (pointer_cell false h) class_cell v 0 (λ z. omega arith)

      pointers : (b : Bool) (d : Class) (g : ℕ)
          → (control_of p (set s (pointer_cell b h) v)).pointer d g ≡ (point (class_of b) h (pointer_of v) (control_of p s)).pointer d g
      pointers true high g = read-put true h v g s size few w
      pointers true normal g =
          read_other normal g s (set s (pointer_cell true h) v)
          (λ u. get_or-set_other s (pointer_cell true h) (pointer_cell false g) v 0 (λ z. omega arith))
      pointers false normal g = read-put false h v g s size few w
      pointers false high g =
          read_other high g s (set s (pointer_cell false h) v)
          (λ u. get_or-set_other s (pointer_cell false h) (pointer_cell true g) v 0 (λ z. omega arith))

  -- a low cell that is stored into is no pointer's
  low_read : (i v : ℕ) (s : List ℕ) → i < 8 → (d : Class) (g : ℕ) → (control_of p (set s i v)).pointer d g ≡ (control_of p s).pointer d g
  low_read i v s l normal g = read_other normal g s (set s i v) (λ u. get_or-set_other s i (pointer_cell false g) v 0 (λ z. omega arith))
  low_read i v s l high g = read_other high g s (set s i v) (λ u. get_or-set_other s i (pointer_cell true g) v 0 (λ z. omega arith))

  pub holder_stored : (g : ℕ) (s : List ℕ) → length s ≡ cells → control_of p (set s holder_cell g) ≡ hand_to g (control_of p s)
  unfolding control_of
  holder_stored g s size =
      let held = get_or-set_same s holder_cell g 0 (omega arith) in
      let class = get_or-set_other s holder_cell class_cell g 0 (λ z. omega arith) in
      λ i. record { holder = held i; latest = class_of (eqb (class i) 1); pointer = λ d h. low_read holder_cell g s (omega arith) d h i }

  class_read : (is_high : Bool) → class_of (eqb (digit is_high) 1) ≡ class_of is_high
  class_read true = refl
  class_read false = refl

  pub class_stored : (is_high : Bool) (s : List ℕ) → length s ≡ cells
      → control_of p (set s class_cell (digit is_high)) ≡ granted (class_of is_high) (control_of p s)
  unfolding control_of
  class_stored is_high s size =
      let held = get_or-set_other s class_cell holder_cell (digit is_high) 0 (λ z. omega arith) in
      let class = ap (λ (x : ℕ). class_of (eqb x 1)) (get_or-set_same s class_cell (digit is_high) 0 (omega arith)) ∙ class_read is_high in
      λ i. record { holder = held i; latest = class i; pointer = λ d h. low_read class_cell (digit is_high) s (omega arith) d h i }

  -- any other low cell is no part of control: the clock's, the line's, and the number of standing requests
  pub control_kept : (i v : ℕ) (s : List ℕ) → i < 8 → (i ≡ holder_cell → ⊥) → (i ≡ class_cell → ⊥) → control_of p (set s i v) ≡ control_of p s
  unfolding control_of
  control_kept i v s l a b =
      let held = get_or-set_other s i holder_cell v 0 (λ z. a (omega arith)) in
      let class = get_or-set_other s i class_cell v 0 (λ z. b (omega arith)) in
      λ j. record { holder = held j; latest = class_of (eqb (class j) 1); pointer = λ d h. low_read i v s l d h j }
