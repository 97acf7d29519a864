-- The walk over the cells, look by look: the turn of rules' walk, and no cells change but pointers.
use Prim.Native.Nat.{ℕ, zero, suc, ◌+◌, ◌/◌, ◌≤◌}
use mathlib.Core.Path.{◌≡◌, refl, ap, ◌∙◌}
use mathlib.Core.Bool.{Bool, true, ◌&&◌}
use mathlib.Core.List.{List}
use native.Mathlib.Omega.{arith}
use lib.Dec.{eqb}
use lib.ListN.{get_or, set}
use borrow.Author.Tests.{ne_eqb, eqb-true, eqb-false}
use Rattle.std.specs.Prelude.{if◌then◌else◌, Option, Some, None}
use Rattle.rules.specs.Plan.{Plan, Port, node, empty, hub, most_levels}
use Rattle.rules.specs.Drawn.{Within, Hung}
use Rattle.rules.specs.Machine.{Turn}
use Rattle.rules.specs.Control.{Pointer, Control, at_port, marking, seen, below, shows, lowest, point, hand_to, granted, up, walk}
use Rattle.rules.proofs.Laws.Passes.{Which, which, yes', no', true-false}
use Rattle.rules.proofs.Control.Steps.{entered, resumed, own, walk_node, walk_afresh, walk_resume, walk_round, walk_up}
use Rattle.ports.specs.Mask as mask
use Rattle.ports.specs.Search.{lowest_from}
use Rattle.cells.specs.Layout.{mask_cell, pointer_cell, class_of, unmarked_code, marked_code}
use Rattle.cells.specs.Decode.{plan_in, control_of}
use Rattle.cells.specs.Turns.{Turned, walk_by}
use Rattle.refinement.specs.Kept.{Ready}
use Rattle.refinement.proofs.Walked.Pointers.{pointer_unmarked, pointer_marked, marked_here, pointer_read, point_stored}
use Rattle.refinement.proofs.Walked.Frame.{SameButPointers, Walkable, stored, stored_same}
use Rattle.refinement.proofs.Walked.Looks.{Finds, nothing, finds, found_tied}
use Rattle.refinement.proofs.Walked.Steps.{by_node, by_afresh, by_resume, by_round, by-up}

-- rules' turn that a turn over the cells is: only a grant changes the latest class
abbrev pub turn_of : Plan → Bool → Turned → Turn Control
turn_of p is_high w =
    let left = hand_to w.turn.hub (control_of p w.cells) in
    record {
      node = w.turn.node;
      state = if eqb w.turn.node 0 then left else granted (class_of is_high) left;
      moves = w.turn.moves;
    }

pub record Tied (p : Plan) (is_high : Bool) (f : ℕ → Bool) (s : List ℕ) (w : Turned) (t : Turn Control) : Type 0 where
  pub turn : t ≡ turn_of p is_high w
  pub hub : Within p.hubs w.turn.hub
  pub left : Walkable p is_high f w.cells
  pub same : SameButPointers s w.cells

-- ---- one look

module _ (P : List ℕ) (R : Ready P) (is_high : Bool) (f : ℕ → Bool) where
  -- with n looks the walks are tied
  unfoldable pub WalkAt : ℕ → Type 0
  WalkAt n =
      (g m : ℕ) (s : List ℕ) → Within (plan_in P).hubs g → Walkable (plan_in P) is_high f s
      → Tied (plan_in P) is_high f s (walk_by P is_high n g m s) (walk (plan_in P) (class_of is_high) f n (hand_to g (control_of (plan_in P) s)) m)

  -- the walk goes on at hub h, over cells that are rules' control τ
  goes_on : (n : ℕ) → WalkAt n → (s : List ℕ) (h m : ℕ) (r : List ℕ) (τ : Control) → Within (plan_in P).hubs h → Walkable (plan_in P) is_high f r
      → SameButPointers s r → hand_to h (control_of (plan_in P) r) ≡ τ
      → Tied (plan_in P) is_high f s (walk_by P is_high n h m r) (walk (plan_in P) (class_of is_high) f n τ m)
  unfolding WalkAt
  goes_on n onward s h m r τ w k same e =
      let t = onward h m r w k in
      rw (← e) (record { turn = t.turn; hub = t.hub; left = t.left; same = λ i no_pointer. t.same i no_pointer ∙ same i no_pointer })

  module _ (n : ℕ) (onward : WalkAt n) (g m : ℕ) (s : List ℕ) (w : Within (plan_in P).hubs g) (k : Walkable (plan_in P) is_high f s) where
    abbrev Step : Type 0
    Step = Tied (plan_in P) is_high f s (walk_by P is_high (suc n) g m s) (walk (plan_in P) (class_of is_high) f (suc n) (hand_to g (control_of (plan_in P) s)) m)

    few : (plan_in P).hubs ≤ 32
    few = R.drawn.few_hubs

    cell_low : Within 32 g
    cell_low = record { low = w.low; up = omega (arith, w.up, few) }

    -- what both searches find
    abbrev Lowest : ℕ → Type 0
    Lowest q = lowest (plan_in P) f g ((control_of (plan_in P) s).pointer (class_of is_high) g).port ≡ q

    abbrev LowestBy : Option ℕ → Type 0
    LowestBy r = lowest_from (mask.shows (get_or s (mask_cell is_high g) 0)) (get_or s (pointer_cell is_high g) 0 / 2) ≡ r

    -- the holder's pointer, or another's
    unmarked_stored : (h q : ℕ) → Within (plan_in P).hubs h
        → control_of (plan_in P) (set s (pointer_cell is_high h) (unmarked_code q)) ≡ point (class_of is_high) h (at_port q) (control_of (plan_in P) s)
    unmarked_stored h q u =
        point_stored (plan_in P) is_high h (unmarked_code q) s k.size few u
        ∙ ap (λ (x : Pointer). point (class_of is_high) h x (control_of (plan_in P) s)) (pointer_unmarked q)

    node_step : (q j : ℕ) → Lowest q → LowestBy (Some q) → Within ((plan_in P).ports g) q → (plan_in P).port g q ≡ node j → Step
    node_step q j a b v e =
        let covers = rw e at (R.drawn.covers g q w v) in
        let some : j ≡ 0 → ⊥ = λ z. omega (arith, covers.0) in
        let up : q ≤ 32 = omega (arith, v.up, R.drawn.few_ports g w) in
        rw (walk_node (plan_in P) (class_of is_high) f n (hand_to g (control_of (plan_in P) s)) m q j a v.low e, by_node P is_high n g m s cell_low q j b e)
        (record {
          turn = rw (ne_eqb j 0 some, unmarked_stored g (q + 1) w);
          hub = w;
          left = stored (plan_in P) few is_high f g (unmarked_code (q + 1)) w s (record { low = omega arith; up = omega arith }) k;
          same = stored_same (plan_in P) few is_high f g (unmarked_code (q + 1)) w s;
        })

    marked_stored : (q : ℕ)
        → control_of (plan_in P) (set s (pointer_cell is_high g) (marked_code q)) ≡ point (class_of is_high) g (marking q) (control_of (plan_in P) s)
    marked_stored q =
        point_stored (plan_in P) is_high g (marked_code q) s k.size few w
        ∙ ap (λ (x : Pointer). point (class_of is_high) g x (control_of (plan_in P) s)) (pointer_marked q)

    -- the pointer is port q, marked: what the cells are then
    marked_left : (q : ℕ) → 1 ≤ q → q ≤ 32 → Walkable (plan_in P) is_high f (set s (pointer_cell is_high g) (marked_code q))
    marked_left q low up = stored (plan_in P) few is_high f g (marked_code q) w s (record { low = omega arith; up = omega arith }) k

    own_tied : (q : ℕ) → own (class_of is_high) q (hand_to g (control_of (plan_in P) s)) ≡ eqb (get_or s (pointer_cell is_high g) 0) (marked_code q)
    own_tied q =
        ap (λ (x : Pointer). eqb q x.port && x.marked) (pointer_read (plan_in P) is_high g s w) ∙ marked_here (get_or s (pointer_cell is_high g) 0) q

    hub_step : (q h : ℕ) → Lowest q → LowestBy (Some q) → Within ((plan_in P).ports g) q → (plan_in P).port g q ≡ hub h → Step
    hub_step q h a b v e = go (which (eqb (get_or s (pointer_cell is_high g) 0) (marked_code q)))
      where
        hung : Hung (plan_in P) g q h
        hung = (rw e at (R.drawn.covers g q w v)).0

        up : h ≤ 32
        up = omega (arith, hung.number.up, few)

        left : Walkable (plan_in P) is_high f (set s (pointer_cell is_high g) (marked_code q))
        left = marked_left q v.low (omega (arith, v.up, R.drawn.few_ports g w))

        same : SameButPointers s (set s (pointer_cell is_high g) (marked_code q))
        same = stored_same (plan_in P) few is_high f g (marked_code q) w s

        go : Which (eqb (get_or s (pointer_cell is_high g) 0) (marked_code q)) → Step
        go (yes' o) =
            rw (
              walk_resume (plan_in P) (class_of is_high) f n (hand_to g (control_of (plan_in P) s)) m q h a v.low e (own_tied q ∙ o),
              by_resume P is_high n g m s cell_low q h b e up o,
            )
            (goes_on n onward s h (m + 1) (set s (pointer_cell is_high g) (marked_code q))
            (resumed (class_of is_high) q h (hand_to g (control_of (plan_in P) s))) hung.number left same (ap (hand_to h) (marked_stored q)))
        go (no' o) =
            let marked = set s (pointer_cell is_high g) (marked_code q) in
            rw (
              walk_afresh (plan_in P) (class_of is_high) f n (hand_to g (control_of (plan_in P) s)) m q h a v.low e (own_tied q ∙ o),
              by_afresh P is_high n g m s cell_low q h b e up o,
            )
            (goes_on n onward s h (m + 1) (set marked (pointer_cell is_high h) (unmarked_code 1))
            (entered (class_of is_high) q h (hand_to g (control_of (plan_in P) s))) hung.number
            (stored (plan_in P) few is_high f h (unmarked_code 1) hung.number marked (record { low = omega arith; up = omega arith }) left)
            (λ i no_pointer. stored_same (plan_in P) few is_high f h (unmarked_code 1) hung.number marked i no_pointer ∙ same i no_pointer)
            (ap (hand_to h)
            (point_stored (plan_in P) is_high h (unmarked_code 1) marked left.size few hung.number
            ∙ ap (point (class_of is_high) h (at_port 1)) (marked_stored q))))

    -- rule 4 at the root, and at a lower hub
    round_step : Lowest 0 → LowestBy None → g ≡ 1 → Step
    round_step a b r =
        let root : Within (plan_in P).hubs 1 = record { low = omega arith; up = R.drawn.some_hub } in
        rw (walk_round (plan_in P) (class_of is_high) f n (hand_to g (control_of (plan_in P) s)) m a r, by_round P is_high n g m s cell_low b r)
        (goes_on n onward s 1 m (set s (pointer_cell is_high 1) (unmarked_code 1)) (point (class_of is_high) 1 (at_port 1) (hand_to g (control_of (plan_in P) s))) root
        (stored (plan_in P) few is_high f 1 (unmarked_code 1) root s (record { low = omega arith; up = omega arith }) k)
        (stored_same (plan_in P) few is_high f 1 (unmarked_code 1) root s)
        (rw r (ap (hand_to 1) (unmarked_stored 1 1 root))))

    up_step : Lowest 0 → LowestBy None → (g ≡ 1 → ⊥) → Step
    up_step a b r =
        let low : 2 ≤ g = omega (arith, w.low, r) in
        let h = (plan_in P).parent g in
        let q = (plan_in P).place g in
        let u = R.drawn.hung_parent g low w.up in
        let v = R.drawn.hung_place g low w.up in
        let small : q ≤ 32 = omega (arith, v.up, R.drawn.few_ports h u) in
        rw (
          walk_up (plan_in P) (class_of is_high) f n (hand_to g (control_of (plan_in P) s)) m a r,
          by-up P is_high n g m s cell_low b r (record { low = u.low; up = omega (arith, u.up, few) }) small,
        )
        (goes_on n onward s h (m + 1) (set s (pointer_cell is_high h) (unmarked_code (q + 1)))
        (up (plan_in P) (class_of is_high) (hand_to g (control_of (plan_in P) s))) u
        (stored (plan_in P) few is_high f h (unmarked_code (q + 1)) u s (record { low = omega arith; up = omega arith }) k)
        (stored_same (plan_in P) few is_high f h (unmarked_code (q + 1)) u s)
        (ap (hand_to h) (unmarked_stored h (q + 1) u)))

    -- a port that shows a request isn't empty
    port_step : (q : ℕ) → Lowest q → LowestBy (Some q) → Within ((plan_in P).ports g) q
        → (x : Port) → (plan_in P).port g q ≡ x → seen (plan_in P) f (below (plan_in P) f most_levels) x ≡ true → Step
    port_step q a b v (node j) e t = node_step q j a b v e
    port_step q a b v empty e t = absurd (true-false t refl)
    port_step q a b v (hub h) e t = hub_step q h a b v e

    step : Step
    step =
        let point = k.pointers is_high g w in
        let port = ap (λ (x : Pointer). x.port) (pointer_read (plan_in P) is_high g s w) in
        go port (found_tied (plan_in P) f (get_or s (mask_cell is_high g) 0) g (get_or s (pointer_cell is_high g) 0 / 2) (k.masks g w)
        (omega (arith, point.low)) (R.drawn.few_ports g w))
      where
        go : ((control_of (plan_in P) s).pointer (class_of is_high) g).port ≡ get_or s (pointer_cell is_high g) 0 / 2
            → Finds (plan_in P) f (get_or s (mask_cell is_high g) 0) g (get_or s (pointer_cell is_high g) 0 / 2) → Step
        go port (finds q v t a b) = port_step q (rw port a) b v ((plan_in P).port g q) refl t
        go port (nothing a b) = by_root (which (eqb g 1))
          where
            by_root : Which (eqb g 1) → Step
            by_root (yes' e) = round_step (rw port a) b (eqb-true g 1 e)
            by_root (no' e) = up_step (rw port a) b (eqb-false g 1 e)

  pub walk_tied : (n : ℕ) → WalkAt n
  unfolding WalkAt walk_by walk
  walk_tied zero g m s w k = record { turn = refl; hub = w; left = k; same = λ i no_pointer. refl }
  walk_tied (suc n) g m s w k = step n (walk_tied n) g m s w k
