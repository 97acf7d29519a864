-- The walk from hub to hub, rule 2 and what a turn leaves: a law for each case of the definitions of `cells`.
use Prim.Native.Nat.{ℕ, suc, ◌+◌, ◌-◌, ◌/◌, ◌%◌, ◌≤◌}
use mathlib.Core.Path.{◌≡◌, sym, ap, ◌∙◌}
use mathlib.Core.Bool.{Bool}
use mathlib.Core.List.{List}
use native.Mathlib.Omega.{arith}
use borrow.Author.Tests.{le-ltb, eq-eqb, ne_eqb}
use lib.ListN.{get_or, set}
use Rattle.rules.specs.Plan.{most_hubs}
use Rattle.rules.specs.Control.{most_looks}
use Rattle.ports.specs.Mask.{digit}
use Rattle.cells.specs.declared.Look.TheVariants.{Node, Pass, Round, Stop}
use Rattle.cells.specs.declared.Turn.{Turn}
use Rattle.plan_tree.specs.Tables.{level_cell, parent_cell, place_cell}
use Rattle.cells.specs.Layout.{holder_cell, class_cell, pointer_cell, marked_code}
use Rattle.cells.specs.Turns.{Turned, look_by, after_look, walk_by, climb_by, nearer_by, nearest_by, turning_by, walked, settled, choose_by}
use Rattle.cells.proofs.Within.{no_hub}

-- a walk that is known, taken apart as the contracts say it
pub turned : {x : Turn} {t : List ℕ} {w : Turned} → w ≡ record { turn = x; cells = t } → (x ≡ w.turn) × (t ≡ w.cells)
turned e = (sym (ap (λ (w : Turned). w.turn) e), sym (ap (λ (w : Turned). w.cells) e))

-- control stays at hub g, and node k has the turn; node 0 is none
abbrev pub stays : ℕ → ℕ → ℕ → List ℕ → Turned
stays k g moves s = record { turn = record { node = k; hub = g; moves = moves }; cells = s }

module _ (P : List ℕ) (high : Bool) (looks g moves : ℕ) (s : List ℕ) where
  pub walk_over : looks ≡ 0 → walk_by P high looks g moves s ≡ stays 0 g moves s
  unfolding walk_by
  walk_over e = rw e

  -- one look, and the rest
  module _ (rest : ℕ) (one_more : looks ≡ suc rest) where
    pub walk_beyond : ¬ ((1 ≤ g) × (g ≤ most_hubs)) → walk_by P high looks g moves s ≡ stays 0 g moves s
    unfolding walk_by
    walk_beyond other = rw one_more (sym (no_hub g _ (stays 0 g moves s) other))

    module _ (l : 1 ≤ g) (h : g ≤ most_hubs) where
      walk_looks_lem : walk_by P high looks g moves s
          ≡ after_look P high (walk_by P high rest) g moves (look_by P high g s).look (look_by P high g s).cells
      unfolding walk_by
      walk_looks_lem = ap (λ (n : ℕ). walk_by P high n g moves s) one_more ∙ simp (le-ltb _ _ l, le-ltb _ _ h)

      -- what the look answered and left
      module _ (t : List ℕ) (left : t ≡ (look_by P high g s).cells) where
        pub walk_grants : (k : ℕ) → (look_by P high g s).look ≡ Node k → walk_by P high looks g moves s ≡ stays k g moves t
        unfolding after_look
        walk_grants k e = walk_looks_lem ∙ rw (e, left)

        pub walk_passes : (to : ℕ) → (look_by P high g s).look ≡ Pass to → walk_by P high looks g moves s ≡ walk_by P high rest to (moves + 1) t
        unfolding after_look
        walk_passes to e = walk_looks_lem ∙ rw (e, left)

        pub walk_rounds : (look_by P high g s).look ≡ Round → walk_by P high looks g moves s ≡ walk_by P high rest 1 moves t
        unfolding after_look
        walk_rounds e = walk_looks_lem ∙ rw (e, left)

        pub walk_stops : (look_by P high g s).look ≡ Stop → walk_by P high looks g moves s ≡ stays 0 g moves t
        unfolding after_look
        walk_stops e = walk_looks_lem ∙ rw (e, left)

module _ (P : List ℕ) (high : Bool) (s : List ℕ) where
  pub class_kept : get_or s class_cell 0 ≡ digit high → walked P high s ≡ walk_by P high most_looks (get_or s holder_cell 0) 0 s
  unfolding walked
  class_kept e = simp (eq-eqb _ _ e)

  pub class_changed : (get_or s class_cell 0 ≡ digit high → ⊥)
      → (hub moves : ℕ) → hub ≡ turning_by P high s → moves ≡ climb_by P (get_or s holder_cell 0) - climb_by P hub → walked P high s ≡ walk_by P high most_looks hub moves s
  unfolding walked
  class_changed e hub moves h m = rw (m, h) (simp (ne_eqb _ _ e))

module _ (high : Bool) (t : Turn) (s : List ℕ) where
  pub nobody_granted : t.node ≡ 0 → settled high t s ≡ set s holder_cell t.hub
  unfolding settled
  nobody_granted e = simp (eq-eqb _ _ e)

  pub class_settled : (t.node ≡ 0 → ⊥) → settled high t s ≡ set (set s holder_cell t.hub) class_cell (digit high)
  unfolding settled
  class_settled e = simp (ne_eqb _ _ e)

module _ (P : List ℕ) (g : ℕ) where
  pub climb_beyond : ¬ ((1 ≤ g) × (g ≤ most_hubs)) → 0 ≡ climb_by P g
  climb_beyond other = no_hub g _ 0 other

  pub climb-levels : 1 ≤ g → g ≤ most_hubs → get_or P (level_cell g) 0 - 1 ≡ climb_by P g
  climb-levels l h = simp (le-ltb _ _ l, le-ltb _ _ h)

-- a turn by rule 2 that is settled is the one chosen
pub chosen : (P : List ℕ) (high : Bool) (s : List ℕ) {x : Turn} {t u : List ℕ}
    → x ≡ (walked P high s).turn → t ≡ (walked P high s).cells → u ≡ settled high x t
    → (x ≡ (choose_by P high s).turn) × (u ≡ (choose_by P high s).cells)
unfolding choose_by
chosen P high s {x} {t} {u} e f h = (e, h ∙ rw (e, f))

-- what a hub's pointer says of the nearest hub
module _ (x g q t : ℕ) where
  pub nearer_unmarked : x % 2 ≡ 0 → g ≡ nearer_by x g q t
  unfolding nearer_by
  nearer_unmarked e = simp (ne_eqb x (marked_code q) (λ i. omega arith))

  pub nearer_there : (x % 2 ≡ 0 → ⊥) → x / 2 ≡ q → t ≡ nearer_by x g q t
  unfolding nearer_by
  nearer_there m e = simp (eq-eqb x (marked_code q) (omega arith))

  pub nearer_elsewhere : (x / 2 ≡ q → ⊥) → g ≡ nearer_by x g q t
  unfolding nearer_by
  nearer_elsewhere e = simp (ne_eqb x (marked_code q) (λ i. e (omega arith)))

-- the way up the holder's line, by hub g
module _ (P : List ℕ) (high : Bool) (levels g q t : ℕ) (s : List ℕ) where
  pub line_over : levels ≡ 0 → 1 ≡ nearest_by P high levels g q t s
  unfolding nearest_by
  line_over e = rw e

  module _ (some : levels ≡ 0 → ⊥) where
    one_level : levels ≡ suc (levels - 1)
    one_level = omega arith

    pub line_beyond : ¬ ((1 ≤ g) × (g ≤ most_hubs)) → 1 ≡ nearest_by P high levels g q t s
    unfolding nearest_by
    line_beyond other = rw one_level (no_hub g _ 1 other)

    module _ (l : 1 ≤ g) (h : g ≤ most_hubs) (u at : ℕ) (e : at ≡ pointer_cell high g) (near : u ≡ nearer_by (get_or s at 0) g q t) where
      pub line_ends : g ≡ 1 → u ≡ nearest_by P high levels g q t s
      unfolding nearest_by
      line_ends r = rw (near, e, one_level) (simp (le-ltb _ _ l, le-ltb _ _ h, eq-eqb _ _ r))

      pub line_goes_on : (g ≡ 1 → ⊥)
          → nearest_by P high (levels - 1) (get_or P (parent_cell g) 0) (get_or P (place_cell g) 0) u s ≡ nearest_by P high levels g q t s
      unfolding nearest_by
      line_goes_on r = rw (near, e) (sym (ap (λ (n : ℕ). nearest_by P high n g q t s) one_level ∙ unrolled))
        where
          unrolled : nearest_by P high (suc (levels - 1)) g q t s
              ≡ nearest_by P high (levels - 1) (get_or P (parent_cell g) 0) (get_or P (place_cell g) 0) (nearer_by (get_or s (pointer_cell high g) 0) g q t) s
          unrolled = simp (le-ltb _ _ l, le-ltb _ _ h, ne_eqb _ _ r)
