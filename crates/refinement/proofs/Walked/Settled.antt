-- Holder and latest class are stored where a turn ends: what is read then.
use Prim.Native.Nat.{ℕ, ◌≤◌}
use mathlib.Core.Path.{◌≡◌, ap, ◌∙◌}
use mathlib.Core.Bool.{Bool}
use mathlib.Core.List.{List}
use native.Mathlib.Omega.{arith}
use lib.Dec.{eqb}
use lib.ListN.{length, get_or, set, length-set}
use lib.Seq.{get_or-set_same, get_or-set_other}
use Rattle.std.specs.Prelude.{if◌then◌else◌}
use Rattle.rules.specs.Plan.{Plan}
use Rattle.rules.specs.Control.{hand_to, granted}
use Rattle.rules.proofs.Laws.Passes.{Which, which, yes', no'}
use Rattle.ports.specs.Mask.{digit}
use Rattle.cells.specs.Layout.{cells, holder_cell, class_cell, class_of}
use Rattle.cells.specs.Decode.{control_of}
use Rattle.cells.specs.Turns.{settled}
use Rattle.cells.specs.declared.Turn.{Turn}
use Rattle.refinement.proofs.Walked.Pointers.{holder_stored, class_stored}
use Rattle.refinement.proofs.Walked.Frame.{digit-up}

-- the cells s with holder, and those with latest class besides
abbrev held : Turn → List ℕ → List ℕ
held t s = set s holder_cell t.hub

abbrev classed : Bool → Turn → List ℕ → List ℕ
classed is_high t s = set (held t s) class_cell (digit is_high)

module _ (is_high : Bool) (t : Turn) (s : List ℕ) (size : length s ≡ cells) where
  -- what holds of both holds of the cells that a turn leaves
  of_both : (F : List ℕ → Type 0) → F (held t s) → F (classed is_high t s) → F (settled is_high t s)
  unfolding settled
  of_both F a b = go (which (eqb t.node 0))
    where
      go : Which (eqb t.node 0) → F (settled is_high t s)
      go (yes' e) = rw e a
      go (no' e) = rw e b

  pub settled_size : length (settled is_high t s) ≡ cells
  settled_size =
      let one = length-set s holder_cell t.hub ∙ size in
      of_both (λ r. length r ≡ cells) one (length-set (held t s) class_cell (digit is_high) ∙ one)

  pub settled_same : (i : ℕ) → (i ≡ holder_cell → ⊥) → (i ≡ class_cell → ⊥) → get_or (settled is_high t s) i 0 ≡ get_or s i 0
  settled_same i a b =
      let one = get_or-set_other s holder_cell i t.hub 0 a in
      of_both (λ r. get_or r i 0 ≡ get_or s i 0) one (get_or-set_other (held t s) class_cell i (digit is_high) 0 b ∙ one)

  pub settled_holder : get_or (settled is_high t s) holder_cell 0 ≡ t.hub
  settled_holder =
      let one = get_or-set_same s holder_cell t.hub 0 (omega arith) in
      of_both (λ r. get_or r holder_cell 0 ≡ t.hub) one (get_or-set_other (held t s) class_cell holder_cell (digit is_high) 0 (λ z. omega arith) ∙ one)

  pub settled_class : get_or s class_cell 0 ≤ 1 → get_or (settled is_high t s) class_cell 0 ≤ 1
  settled_class l =
      let one = get_or-set_other s holder_cell class_cell t.hub 0 (λ z. omega arith) in
      let two = get_or-set_same (held t s) class_cell (digit is_high) 0 (omega (arith, length-set s holder_cell t.hub)) in
      of_both (λ r. get_or r class_cell 0 ≤ 1) (rw one l) (rw two (digit-up is_high))

  pub settled-control : (p : Plan)
      → control_of p (settled is_high t s)
      ≡ (if eqb t.node 0 then hand_to t.hub (control_of p s) else granted (class_of is_high) (hand_to t.hub (control_of p s)))
  unfolding settled
  settled-control p = go (which (eqb t.node 0))
    where
      one : control_of p (held t s) ≡ hand_to t.hub (control_of p s)
      one = holder_stored p t.hub s size

      go : Which (eqb t.node 0)
          → control_of p (settled is_high t s)
          ≡ (if eqb t.node 0 then hand_to t.hub (control_of p s) else granted (class_of is_high) (hand_to t.hub (control_of p s)))
      go (yes' e) = rw e one
      go (no' e) =
          rw e
          (class_stored p is_high (held t s) (length-set s holder_cell t.hub ∙ size) ∙ ap (granted (class_of is_high)) one)
