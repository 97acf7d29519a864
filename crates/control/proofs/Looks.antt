-- One look at a hub, by what is found there: a law for each case of the definitions of `cells`.
use Rattle.std.specs.Prelude.{Option, Some, None}
use Prim.Native.Nat.{ℕ, ◌+◌, ◌-◌, ◌/◌, ◌<◌, ◌≤◌}
use mathlib.Core.Path.{◌≡◌, refl, sym, ap, subst}
use mathlib.Core.Bool.{Bool}
use mathlib.Core.List.{List}
use native.Mathlib.Omega.{arith}
use borrow.Author.Tests.{lt-ltb, le-ltb, le-leb, lt-leb, eq-eqb, ne_eqb}
use lib.ListN.{get_or, set}
use Rattle.rules.specs.Plan.{most_hubs, most_ports}
use Rattle.ports.specs.Mask.{shows}
use Rattle.ports.specs.Ports.{at_or_after}
use Rattle.ports.specs.Search.{lowest_from}
use Rattle.ports.proofs.Answers.{Answers, first_answers}
use Rattle.plan_tree.specs.Tables as plan
use Rattle.cells.specs.declared.Look.{Look}
use Rattle.cells.specs.declared.Look.TheVariants.{Node, Pass, Round, Stop}
use Rattle.cells.specs.Layout.{mask_cell, pointer_cell, unmarked_code, marked_code}
use Rattle.cells.specs.Turns.{Looked, down_by, take_by, up_by, hand_up_by, found_by, look_by}
use Rattle.cells.proofs.Within.{no_hub}

-- what is found is a port
pub found_port : (f : ℕ → Bool) (pointer q : ℕ) → lowest_from f pointer ≡ Some q → (1 ≤ q) × (q ≤ most_ports)
unfolding lowest_from
found_port f pointer q e =
    let a = subst (λ (r : Option ℕ). Answers (at_or_after pointer f) 1 33 r) e (first_answers 32 (at_or_after pointer f) 1 33 refl) in
    (a.from, omega arith)

-- a look that is known, taken apart as the contracts say it
pub looked : {r : Look} {t : List ℕ} {w : Looked} → w ≡ record { look = r; cells = t } → (r ≡ w.look) × (t ≡ w.cells)
looked e = (sym (ap (λ (w : Looked). w.look) e), sym (ap (λ (w : Looked). w.cells) e))

module _ (high : Bool) (g q : ℕ) (s : List ℕ) where
  module _ (h at : ℕ) (e : at ≡ pointer_cell high g) where
    pub down_resumed : get_or s at 0 ≡ marked_code q → set s at (marked_code q) ≡ down_by high g q h s
    unfolding down_by
    down_resumed same = rw e (let f = rw e at same in simp (eq-eqb _ _ f))

    pub down_afresh : (get_or s at 0 ≡ marked_code q → ⊥) → set (set s at (marked_code q)) (pointer_cell high h) (unmarked_code 1) ≡ down_by high g q h s
    unfolding down_by
    down_afresh other = rw e (let f = rw e at other in simp (ne_eqb _ _ f))

  module _ (x : ℕ) where
    pub take_empty : x ≡ 0 → take_by high g q (plan.port_of x) s ≡ record { look = Stop; cells = s }
    unfolding take_by
    take_empty none = simp (eq-eqb _ _ none)

    pub take_node : (x ≡ 0 → ⊥) → x ≤ plan.hub_code
        → take_by high g q (plan.port_of x) s ≡ record { look = Node x; cells = set s (pointer_cell high g) (unmarked_code (q + 1)) }
    unfolding take_by
    take_node some low = simp (ne_eqb _ _ some, le-leb _ _ low)

    pub take_beyond : plan.hub_code < x → ¬ ((1 ≤ x - plan.hub_code) × (x - plan.hub_code ≤ most_hubs))
        → take_by high g q (plan.port_of x) s ≡ record { look = Stop; cells = s }
    unfolding take_by
    take_beyond above other =
        let some : 1 ≤ x - plan.hub_code = omega arith in
        let far : most_hubs < x - plan.hub_code = omega (arith, λ (u : x - plan.hub_code ≤ most_hubs). other (some, u)) in
        simp (ne_eqb x 0 (omega arith), lt-leb _ _ above, lt-ltb _ _ far)

    pub take_hub : (h : ℕ) → h ≡ x - plan.hub_code → plan.hub_code < x → h ≤ most_hubs
        → take_by high g q (plan.port_of x) s ≡ record { look = Pass h; cells = down_by high g q h s }
    unfolding take_by
    take_hub h e above near = rw e (let n = rw e at near in simp (ne_eqb x 0 (omega arith), lt-leb _ _ above, le-ltb _ _ n))

-- a hub h above, in whose port q the hub that hands up stands
module _ (high : Bool) (h q : ℕ) (s : List ℕ) where
  pub up_beyond : ¬ ((1 ≤ h) × (h ≤ most_hubs)) → up_by high h q s ≡ record { look = Stop; cells = s }
  unfolding up_by
  up_beyond other = sym (no_hub h _ (record { look = Stop; cells = s }) other)

  pub up_no_port : 1 ≤ h → h ≤ most_hubs → most_ports < q → up_by high h q s ≡ record { look = Stop; cells = s }
  unfolding up_by
  up_no_port some near far = simp (le-ltb _ _ some, le-ltb _ _ near, lt-ltb _ _ far)

  pub up-passes : 1 ≤ h → h ≤ most_hubs → q ≤ most_ports
      → up_by high h q s ≡ record { look = Pass h; cells = set s (pointer_cell high h) (unmarked_code (q + 1)) }
  unfolding up_by
  up-passes some near port = simp (le-ltb h 1 some, le-ltb most_hubs h near, le-ltb most_ports q port)

module _ (P : List ℕ) (high : Bool) (g : ℕ) (s : List ℕ) where
  pub root_round : g ≡ 1 → hand_up_by P high g s ≡ record { look = Round; cells = set s (pointer_cell high g) (unmarked_code 1) }
  unfolding hand_up_by
  root_round e = rw e

  pub handed_up : (g ≡ 1 → ⊥) → hand_up_by P high g s ≡ up_by high (get_or P (plan.parent_cell g) 0) (get_or P (plan.place_cell g) 0) s
  unfolding hand_up_by
  handed_up lower = simp (ne_eqb _ _ lower)

  -- the search that a look makes, from the cells where the hub's mask and its pointer stand
  module _ (at place : ℕ) (e : at ≡ mask_cell high g) (d : place ≡ pointer_cell high g) where
    abbrev sought : Option ℕ
    sought = lowest_from (shows (get_or s at 0)) (get_or s place 0 / 2)

    pub look_takes : (q : ℕ) → sought ≡ Some q
        → look_by P high g s ≡ take_by high g q (plan.port_of (get_or P (plan.port_cell g q) 0)) s
    unfolding look_by found_by
    look_takes q f = let h = rw (d, e) at f in rw h

    pub look_hands_up : sought ≡ None → look_by P high g s ≡ hand_up_by P high g s
    unfolding look_by found_by
    look_hands_up f = let h = rw (d, e) at f in rw h
