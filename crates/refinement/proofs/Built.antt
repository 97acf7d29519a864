-- The masks built anew are right where every standing request counts: first each port shows the node that stands there,
-- and then, from the last hub to the first, the hub; a hub's own ports are whole by then, since its hubs have higher numbers.
use Prim.Native.Nat.{ℕ, zero, suc, ◌≤◌, ◌<◌}
use mathlib.Core.Path.{◌≡◌, refl, sym, ap, ◌∙◌, subst}
use mathlib.Core.Bool.{Bool, true, false, not, ◌&&◌, ◌||◌, or-false}
use mathlib.Core.List.{List}
use mathlib.Core.Logic.{⊎_elim}
use native.Mathlib.Omega.{arith}
use native.Mathlib.Nat.{eq-or-lt_of_le, min-le_right}
use lib.Dec.{ltb, leb, eqb}
use lib.ListN.{length, get_or, set, length-set}
use lib.Seq.{get_or-set_same, get_or-set_other}
use borrow.Author.Tests.{ltb-true, ltb-false, leb-true, lt-ltb, le-ltb, le-leb, eqb-true, eqb-false, eq-eqb}
use Rattle.std.specs.Prelude.{if◌then◌else◌}
use Rattle.rules.specs.Choice.{any}
use Rattle.rules.specs.Plan.{Plan, Port, node, empty, hub, most_levels, most_hubs}
use Rattle.rules.specs.Drawn.{Drawn, Within, Hung, Covers}
use Rattle.rules.specs.Control.{seen, below}
use Rattle.rules.proofs.Laws.Passes.{Which, which, yes', no', true-false, and_both, any_some, any_none}
use Rattle.ports.specs.Ports.{ports, with_port, any_port}
use Rattle.ports.specs.Mask.{shows, mask_of}
use Rattle.ports.proofs.Coding.{mask_cong, shows_mask, empty_mask}
use Rattle.ports.proofs.Summaries.{any_cong, any_mask}
use Rattle.plan_tree.specs.Tables as plan
use Rattle.plan.specs.Tables.{plan_of}
use Rattle.cells.specs.Layout.{cells, mask_cell, request_cell}
use Rattle.cells.specs.Decode.{plan_in, is_node}
use Rattle.cells.specs.Masks.{counts_at, stands}
use Rattle.cells.specs.Build.{clear_masks, show_port, show_request, show_nodes, summary, show_hub, show_hubs, hubs_in, build_masks}
use Rattle.refinement.specs.Kept.{Ready, SameButMasks, counts_of, seen_at, Mended}
use Rattle.refinement.proofs.Same.{node_no_mask, same_trans}
use Rattle.refinement.proofs.Line.{seen_above}
use Rattle.refinement.proofs.Changed.{node_within, counts-cells}

-- ---- cells of masks

abbrev pub same_class : Bool → Bool → Bool
same_class true b = b
same_class false b = not b

-- hub h of class c is hub g of class d
abbrev own : Bool → ℕ → Bool → ℕ → Bool
own c h d g = same_class c d && eqb h g

own_cell : (c : Bool) (h : ℕ) (d : Bool) (g : ℕ) → own c h d g ≡ true → mask_cell c h ≡ mask_cell d g
own_cell true h true g e = let q = eqb-true h g e in omega arith
own_cell true h false g e = absurd (true-false e refl)
own_cell false h true g e = absurd (true-false e refl)
own_cell false h false g e = let q = eqb-true h g e in omega arith

other_cell : (c : Bool) (h : ℕ) (d : Bool) (g : ℕ) → 1 ≤ h → 1 ≤ g → own c h d g ≡ false → mask_cell c h ≡ mask_cell d g → ⊥
other_cell true h true g l m e q = eqb-false h g e (omega arith)
other_cell true h false g l m e q = omega arith
other_cell false h true g l m e q = omega arith
other_cell false h false g l m e q = eqb-false h g e (omega arith)

low_cell : (c : Bool) (g : ℕ) → g ≤ 32 → mask_cell c g < cells
low_cell true g u = omega arith
low_cell false g u = omega arith

-- what each hub shows of each class, as sets
abbrev Sets : Type 0
Sets = Bool → ℕ → ℕ → Bool

-- the masks of hubs 1 to n code these sets
abbrev Coded : ℕ → Sets → List ℕ → Type 0
Coded n F s = (c : Bool) (h : ℕ) → Within n h → get_or s (mask_cell c h) 0 ≡ mask_of (F c h)

recoded : (n : ℕ) (F G : Sets) (s : List ℕ) → ((c : Bool) (h r : ℕ) → Within n h → 1 ≤ r → r ≤ ports → F c h r ≡ G c h r) → Coded n F s → Coded n G s
recoded n F G s same coded c h w = coded c h w ∙ mask_cong ports (F c h) (G c h) (λ r l u. same c h r w l u)

-- ---- cleared

clear_size : (n : ℕ) (s : List ℕ) → length (clear_masks n s) ≡ length s
unfolding clear_masks
clear_size zero s = refl
clear_size (suc n) s = clear_size n (set (set s (mask_cell false (suc n)) 0) (mask_cell true (suc n)) 0) ∙ simp length-set

clear_keeps : (i n : ℕ) → ((c : Bool) (h : ℕ) → Within n h → i ≡ mask_cell c h → ⊥) → (s : List ℕ) → get_or (clear_masks n s) i 0 ≡ get_or s i 0
unfolding clear_masks
clear_keeps i zero other s = refl
clear_keeps i (suc n) other s =
    let w : Within (suc n) (suc n) = record { low = omega arith; up = omega arith } in
    clear_keeps i n (λ c h v. other c h (record { low = v.low; up = omega (arith, v.up) })) (set (set s (mask_cell false (suc n)) 0) (mask_cell true (suc n)) 0)
    ∙ get_or-set_other (set s (mask_cell false (suc n)) 0) (mask_cell true (suc n)) i 0 0 (other true (suc n) w)
    ∙ get_or-set_other s (mask_cell false (suc n)) i 0 0 (other false (suc n) w)

clear_zero : (n : ℕ) → n ≤ 32 → (s : List ℕ) → length s ≡ cells → (c : Bool) (h : ℕ) → Within n h → get_or (clear_masks n s) (mask_cell c h) 0 ≡ 0
unfolding clear_masks
clear_zero zero u s size c h w = absurd (omega (arith, w.low, w.up))
clear_zero (suc n) u s size c h w = go (clear_zero n (omega arith) r (simp length-set size) c h) (which (eqb h (suc n)))
  where
    r : List ℕ
    r = set (set s (mask_cell false (suc n)) 0) (mask_cell true (suc n)) 0

    last : (c : Bool) → get_or r (mask_cell c (suc n)) 0 ≡ 0
    last true = get_or-set_same (set s (mask_cell false (suc n)) 0) (mask_cell true (suc n)) 0 0 (simp length-set (omega (arith, low_cell true (suc n) u)))
    last false =
        get_or-set_other (set s (mask_cell false (suc n)) 0) (mask_cell true (suc n)) (mask_cell false (suc n)) 0 0 (λ e. omega arith)
        ∙ get_or-set_same s (mask_cell false (suc n)) 0 0 (omega (arith, low_cell false (suc n) u))

    go : (Within n h → get_or (clear_masks n r) (mask_cell c h) 0 ≡ 0) → Which (eqb h (suc n)) → get_or (clear_masks n r) (mask_cell c h) 0 ≡ 0
    go earlier (yes' e) =
        subst (λ (i : ℕ). get_or (clear_masks n r) (mask_cell c i) 0 ≡ 0) (sym (eqb-true h (suc n) e))
        (clear_keeps (mask_cell c (suc n)) n
        (λ d g v q. other_cell c (suc n) d g (omega arith) v.low (off d g v (which (own c (suc n) d g))) q) r ∙ last c)
      where
        off : (d : Bool) (g : ℕ) → Within n g → Which (own c (suc n) d g) → own c (suc n) d g ≡ false
        off d g v (yes' t) = absurd (omega (arith, v.up, eqb-true (suc n) g (and_both (same_class c d) (eqb (suc n) g) t).1))
        off d g v (no' t) = t
    go earlier (no' e) = earlier (record { low = w.low; up = omega (arith, w.up, eqb-false h (suc n) e) })

clear_coded : (n : ℕ) → n ≤ 32 → (s : List ℕ) → length s ≡ cells → Coded n (λ c h r. false) (clear_masks n s)
clear_coded n u s size c h w = clear_zero n u s size c h w ∙ empty_mask ports (λ r. false) (λ r l v. refl)

clear_same : (n : ℕ) → n ≤ 32 → (s : List ℕ) → SameButMasks s (clear_masks n s)
clear_same n u s i other = clear_keeps i n (λ c h w. other c h (record { low = w.low; up = omega (arith, w.up) })) s

-- ---- one port

-- port q of hub g shows b of class d as well
abbrev More : Sets → Bool → ℕ → ℕ → Bool → Sets
More F d g q b c h r = F c h r || (own c h d g && (eqb r q && b))

show_size : (d : Bool) (g q : ℕ) (b : Bool) (s : List ℕ) → length (show_port d g q b s) ≡ length s
unfolding show_port
show_size d g q b s = go (which (ltb g 1)) (which (ltb 32 g))
  where
    go : Which (ltb g 1) → Which (ltb 32 g) → length (show_port d g q b s) ≡ length s
    go (yes' e) t = rw e
    go (no' e) (yes' f) = rw (e, f)
    go (no' e) (no' f) = rw (e, f) (simp length-set)

show_same : (d : Bool) (g q : ℕ) (b : Bool) (s : List ℕ) → SameButMasks s (show_port d g q b s)
unfolding show_port
show_same d g q b s i other = go (which (ltb g 1)) (which (ltb 32 g))
  where
    go : Which (ltb g 1) → Which (ltb 32 g) → get_or (show_port d g q b s) i 0 ≡ get_or s i 0
    go (yes' e) t = rw e
    go (no' e) (yes' f) = rw (e, f)
    go (no' e) (no' f) =
        rw (e, f)
        (get_or-set_other s (mask_cell d g) i (mask_of (with_port (shows (get_or s (mask_cell d g) 0)) q b)) 0
        (other d g (record { low = ltb-false g 1 e; up = ltb-false 32 g f })))

module _ (n : ℕ) (few : n ≤ 32) (F : Sets) (d : Bool) (g q : ℕ) (b : Bool) (s : List ℕ) (size : length s ≡ cells) (coded : Coded n F s) where
  -- another hub's mask, or another class's
  stays : (c : Bool) (h : ℕ) → own c h d g ≡ false → mask_of (F c h) ≡ mask_of (More F d g q b c h)
  stays c h e = mask_cong ports (F c h) (More F d g q b c h) (λ r l u. rw e (sym (or-false (F c h r))))

  abbrev new : ℕ
  new = mask_of (with_port (shows (get_or s (mask_cell d g) 0)) q b)

  gains : (c : Bool) (h : ℕ) → Within n h → own c h d g ≡ true → new ≡ mask_of (More F d g q b c h)
  unfolding with_port
  gains c h w e =
      ap (λ (i : ℕ). mask_of (with_port (shows (get_or s i 0)) q b)) (sym (own_cell c h d g e))
      ∙ ap (λ (m : ℕ). mask_of (with_port (shows m) q b)) (coded c h w)
      ∙ mask_cong ports (with_port (shows (mask_of (F c h))) q b) (More F d g q b c h)
      (λ r l u. rw e (ap (λ (x : Bool). x || (eqb r q && b)) (shows_mask ports (F c h) r l u)))

  show_coded : Coded n (More F d g q b) (show_port d g q b s)
  unfolding show_port
  show_coded c h w = go (which (ltb g 1)) (which (ltb 32 g)) (which (own c h d g))
    where
      off : (h ≡ g → ⊥) → Which (own c h d g) → own c h d g ≡ false
      off other (yes' t) = absurd (other (eqb-true h g (and_both (same_class c d) (eqb h g) t).1))
      off other (no' t) = t

      go : Which (ltb g 1) → Which (ltb 32 g) → Which (own c h d g) → get_or (show_port d g q b s) (mask_cell c h) 0 ≡ mask_of (More F d g q b c h)
      go (yes' e) f t = rw e (coded c h w ∙ stays c h (off (λ i. omega (arith, w.low, ltb-true g 1 e)) t))
      go (no' e) (yes' f) t = rw (e, f) (coded c h w ∙ stays c h (off (λ i. omega (arith, w.up, ltb-true 32 g f)) t))
      go (no' e) (no' f) (yes' t) =
          rw (e, f)
          (ap (λ (i : ℕ). get_or (set s (mask_cell d g) new) i 0) (own_cell c h d g t)
          ∙ get_or-set_same s (mask_cell d g) new 0 (omega (arith, low_cell d g (ltb-false 32 g f))) ∙ gains c h w t)
      go (no' e) (no' f) (no' t) =
          rw (e, f)
          (get_or-set_other s (mask_cell d g) (mask_cell c h) new 0 (other_cell c h d g w.low (ltb-false g 1 e) t) ∙ coded c h w ∙ stays c h t)

-- ---- the nodes

-- the class in which a request's cell shows
abbrev pub shown_in : Bool → ℕ → Bool
shown_in c x = stands x && same_class c (leb 131072 x)

-- node k, whose request's cell is x k, shows at port r of hub h
abbrev node_at : List ℕ → (ℕ → ℕ) → Bool → ℕ → ℕ → ℕ → Bool
node_at P x c h r k = shown_in c (x k) && (eqb h (plan.hub_of_node P k) && eqb r (plan.port_of_node P k))

and-moved : (a b d e : Bool) → ((a && b) && (d && e)) ≡ ((e && a) && (b && d))
and-moved true true true true = refl
and-moved true true true false = refl
and-moved true true false true = refl
and-moved true true false false = refl
and-moved true false d true = refl
and-moved true false d false = refl
and-moved false b d true = refl
and-moved false b d false = refl

or-moved : (a b d : Bool) → ((a || b) || d) ≡ (a || (d || b))
or-moved true b d = refl
or-moved false true true = refl
or-moved false true false = refl
or-moved false false true = refl
or-moved false false false = refl

request_size : (P : List ℕ) (k : ℕ) (s : List ℕ) → length (show_request P k s) ≡ length s
unfolding show_request
request_size P k s =
    let x = get_or s (request_cell k) 0 in
    show_size (leb 131072 x) (plan.hub_of_node P k) (plan.port_of_node P k) (stands x) s

request_same : (P : List ℕ) (k : ℕ) (s : List ℕ) → SameButMasks s (show_request P k s)
unfolding show_request
request_same P k s =
    let x = get_or s (request_cell k) 0 in
    show_same (leb 131072 x) (plan.hub_of_node P k) (plan.port_of_node P k) (stands x) s

module _ (P : List ℕ) (n : ℕ) (few : n ≤ 32) (x : ℕ → ℕ) where
  request_coded : (F : Sets) (k : ℕ) (s : List ℕ) → length s ≡ cells → get_or s (request_cell k) 0 ≡ x k → Coded n F s
      → Coded n (λ c h r. F c h r || node_at P x c h r k) (show_request P k s)
  unfolding show_request
  request_coded F k s size e coded =
      let g = plan.hub_of_node P k in
      let q = plan.port_of_node P k in
      let d = leb 131072 (x k) in
      rw e
      (recoded n (More F d g q (stands (x k))) (λ c h r. F c h r || node_at P x c h r k) (show_port d g q (stands (x k)) s)
      (λ c h r w l u. ap (λ (y : Bool). F c h r || y) (and-moved (same_class c d) (eqb h g) (eqb r q) (stands (x k))))
      (show_coded n few F d g q (stands (x k)) s size coded))

  nodes_coded : (m : ℕ) (F : Sets) (s : List ℕ) → length s ≡ cells → ((k : ℕ) → get_or s (request_cell k) 0 ≡ x k) → Coded n F s
      → Coded n (λ c h r. F c h r || any m (node_at P x c h r)) (show_nodes P m s)
  unfolding show_nodes any
  nodes_coded zero F s size e coded = recoded n F (λ c h r. F c h r || false) s (λ c h r w l u. sym (or-false (F c h r))) coded
  nodes_coded (suc m) F s size e coded =
      recoded n
      (λ c h r. (F c h r || node_at P x c h r (suc m)) || any m (node_at P x c h r))
      (λ c h r. F c h r || (any m (node_at P x c h r) || node_at P x c h r (suc m)))
      (show_nodes P m (show_request P (suc m) s))
      (λ c h r w l u. or-moved (F c h r) (node_at P x c h r (suc m)) (any m (node_at P x c h r)))
      (nodes_coded m (λ c h r. F c h r || node_at P x c h r (suc m)) (show_request P (suc m) s) (request_size P (suc m) s ∙ size)
      (λ k. request_same P (suc m) s (request_cell k) (node_no_mask k 0) ∙ e k)
      (request_coded F (suc m) s size (e (suc m)) coded))

nodes_size : (P : List ℕ) (m : ℕ) (s : List ℕ) → length (show_nodes P m s) ≡ length s
unfolding show_nodes
nodes_size P zero s = refl
nodes_size P (suc m) s = nodes_size P m (show_request P (suc m) s) ∙ request_size P (suc m) s

nodes_same : (P : List ℕ) (m : ℕ) (s : List ℕ) → SameButMasks s (show_nodes P m s)
unfolding show_nodes
nodes_same P zero s = λ i other. refl
nodes_same P (suc m) s =
    same_trans s (show_request P (suc m) s) (show_nodes P m (show_request P (suc m) s)) (request_same P (suc m) s) (nodes_same P m (show_request P (suc m) s))

-- ---- the hubs

module _ (P : List ℕ) where
  hub_size : (g : ℕ) (s : List ℕ) → length (show_hub P g s) ≡ length s
  unfolding show_hub
  hub_size g s =
      let up = get_or P (plan.parent_cell g) 0 in
      let q = get_or P (plan.place_cell g) 0 in
      show_size true up q (summary true g s) (show_port false up q (summary false g s) s) ∙ show_size false up q (summary false g s) s

  hub_same : (g : ℕ) (s : List ℕ) → SameButMasks s (show_hub P g s)
  unfolding show_hub
  hub_same g s =
      let up = get_or P (plan.parent_cell g) 0 in
      let q = get_or P (plan.place_cell g) 0 in
      let r = show_port false up q (summary false g s) s in
      same_trans s r (show_port true up q (summary true g s) r) (show_same false up q (summary false g s) s) (show_same true up q (summary true g s) r)

  hubs_size : (m : ℕ) (s : List ℕ) → length (show_hubs P m s) ≡ length s
  unfolding show_hubs
  hubs_size zero s = refl
  hubs_size (suc m) s = hubs_size m (show_hub P (suc m) s) ∙ hub_size (suc m) s

  hubs_same : (m : ℕ) (s : List ℕ) → SameButMasks s (show_hubs P m s)
  unfolding show_hubs
  hubs_same zero s = λ i other. refl
  hubs_same (suc m) s =
      same_trans s (show_hub P (suc m) s) (show_hubs P m (show_hub P (suc m) s)) (hub_same (suc m) s) (hubs_same m (show_hub P (suc m) s))

module _ (P : List ℕ) (R : Ready P) (f : Bool → ℕ → Bool) where
  abbrev p : Plan
  p = plan_in P

  abbrev D : Drawn p
  D = R.drawn

  -- what a port of hub h shows when the hubs above n have been handed up
  abbrev done : ℕ → Bool → ℕ → Bool
  done n c i = ltb n i && below p (f c) most_levels i

  abbrev Upto : ℕ → Sets
  Upto n c h r = leb r (p.ports h) && seen p (f c) (done n c) (p.port h r)

  -- what is seen at a port, where two tests of hubs agree on the hub that stands there
  at_port_lem : (b d : ℕ → Bool) (c : Bool) (h r : ℕ) → Within p.hubs h → 1 ≤ r → ((i : ℕ) → Hung p h r i → b i ≡ d i)
      → (leb r (p.ports h) && seen p (f c) b (p.port h r)) ≡ (leb r (p.ports h) && seen p (f c) d (p.port h r))
  at_port_lem b d c h r w l same = go (which (leb r (p.ports h)))
    where
      port : (x : Port) → Covers p D.above h r x → seen p (f c) b x ≡ seen p (f c) d x
      port (node k) v = refl
      port empty v = refl
      port (hub i) v = same i v.0

      go : Which (leb r (p.ports h))
          → (leb r (p.ports h) && seen p (f c) b (p.port h r)) ≡ (leb r (p.ports h) && seen p (f c) d (p.port h r))
      go (yes' e) = ap (λ (x : Bool). leb r (p.ports h) && x) (port (p.port h r) (D.covers h r w (record { low = l; up = leb-true r (p.ports h) e })))
      go (no' e) = rw e

  -- a hub whose number isn't below n is whole: the hubs at its ports have been handed up
  whole : (n : ℕ) (c : Bool) (h r : ℕ) → n ≤ h → Within p.hubs h → 1 ≤ r → Upto n c h r ≡ seen_at p (f c) h r
  whole n c h r u w l = at_port_lem (done n c) (below p (f c) most_levels) c h r w l (λ i v. rw (lt-ltb n i (omega (arith, v.below))))

  -- hub m + 1 is handed up: at one port its summary is added
  module _ (m : ℕ) (up : suc m ≤ p.hubs) (s : List ℕ) (size : length s ≡ cells) (coded : Coded p.hubs (Upto (suc m)) s) where
    abbrev self : Within p.hubs (suc m)
    self = record { low = omega arith; up = up }

    abbrev parent : ℕ
    parent = get_or P (plan.parent_cell (suc m)) 0

    abbrev place : ℕ
    place = get_or P (plan.place_cell (suc m)) 0

    -- its summary is what it sees at all
    sums : (c : Bool) → summary c (suc m) s ≡ any_port (seen_at p (f c) (suc m))
    sums c =
        ap (λ (x : ℕ). any_port (shows x)) (coded c (suc m) self) ∙ any_mask (Upto (suc m) c (suc m))
        ∙ any_cong ports (Upto (suc m) c (suc m)) (seen_at p (f c) (suc m)) (λ r l u. whole (suc m) c (suc m) r (omega arith) self l)

    -- its own port
    at_own : (c : Bool) → 2 ≤ suc m
        → (Upto (suc m) c (p.parent (suc m)) (p.place (suc m)) || summary c (suc m) s) ≡ Upto m c (p.parent (suc m)) (p.place (suc m))
    at_own c l =
        rw (
          le-leb (p.place (suc m)) (p.ports (p.parent (suc m))) (D.hung_place (suc m) l up).up,
          D.hung_port (suc m) l up,
          le-ltb (suc m) (suc m) (omega arith),
          lt-ltb m (suc m) (omega arith),
        )
        (sums c ∙ seen_above p D (f c) (suc m) l up ∙ ap (seen p (f c) (below p (f c) most_levels)) (D.hung_port (suc m) l up))

    -- any other port
    at_other : (c : Bool) (h r : ℕ) → Within p.hubs h → 1 ≤ r → (h ≡ p.parent (suc m) → r ≡ p.place (suc m) → ⊥) → Upto (suc m) c h r ≡ Upto m c h r
    at_other c h r w l other = at_port_lem (done (suc m) c) (done m c) c h r w l (λ i v. go i v (which (eqb i (suc m))) (which (ltb m i)))
      where
        go : (i : ℕ) → Hung p h r i → Which (eqb i (suc m)) → Which (ltb m i) → done (suc m) c i ≡ done m c i
        go i v (yes' e) t =
            let q = eqb-true i (suc m) e in
            absurd (other (sym v.parent ∙ ap p.parent q) (sym v.place ∙ ap p.place q))
        go i v (no' e) (yes' t) = rw (t, lt-ltb (suc m) i (omega (arith, eqb-false i (suc m) e, ltb-true m i t)))
        go i v (no' e) (no' t) = rw (t, le-ltb (suc m) i (omega (arith, ltb-false m i t)))

    abbrev Next : Sets
    Next = More (More (Upto (suc m)) false parent place (summary false (suc m) s)) true parent place (summary true (suc m) s)

    -- of each class one of the two puts counts
    one_class : (c : Bool) (h r : ℕ) → Next c h r ≡ (Upto (suc m) c h r || (eqb h parent && (eqb r place && summary c (suc m) s)))
    one_class true h r =
        ap (λ (b : Bool). b || (eqb h parent && (eqb r place && summary true (suc m) s))) (or-false (Upto (suc m) true h r))
    one_class false h r = or-false (Upto (suc m) false h r || (eqb h parent && (eqb r place && summary false (suc m) s)))

    next : (c : Bool) (h r : ℕ) → Within p.hubs h → 1 ≤ r → r ≤ ports → Next c h r ≡ Upto m c h r
    unfolding plan_of
    next c h r w l u = one_class c h r ∙ go (which (eqb h parent)) (which (eqb r place))
      where
        lower : h ≡ parent → 2 ≤ suc m
        lower e =
            ⊎_elim
            (λ i. absurd (omega (arith, w.low, ap (λ (x : ℕ). get_or P (plan.parent_cell x) 0) i, R.root_parent)))
            (λ i. i) (eq-or-lt_of_le self.low)

        go : Which (eqb h parent) → Which (eqb r place) → (Upto (suc m) c h r || (eqb h parent && (eqb r place && summary c (suc m) s))) ≡ Upto m c h r
        go (yes' a) (yes' b) =
            let x = eqb-true h parent a in
            let y = eqb-true r place b in
            rw (a, b)
            (subst (λ (i : ℕ). (Upto (suc m) c i r || summary c (suc m) s) ≡ Upto m c i r) (sym x)
            (subst (λ (i : ℕ). (Upto (suc m) c (p.parent (suc m)) i || summary c (suc m) s) ≡ Upto m c (p.parent (suc m)) i) (sym y) (at_own c (lower x))))
        go (yes' a) (no' b) = rw (a, b) (or-false (Upto (suc m) c h r) ∙ at_other c h r w l (λ x y. eqb-false r place b y))
        go (no' a) b = rw a (or-false (Upto (suc m) c h r) ∙ at_other c h r w l (λ x y. eqb-false h parent a x))

    hub_coded : Coded p.hubs (Upto m) (show_hub P (suc m) s)
    unfolding show_hub
    hub_coded =
        recoded p.hubs Next (Upto m) (show_hub P (suc m) s) next
        (show_coded p.hubs D.few_hubs (More (Upto (suc m)) false parent place (summary false (suc m) s)) true parent place (summary true (suc m) s)
        (show_port false parent place (summary false (suc m) s) s) (show_size false parent place (summary false (suc m) s) s ∙ size)
        (show_coded p.hubs D.few_hubs (Upto (suc m)) false parent place (summary false (suc m) s) s size coded))

  hubs_coded : (m : ℕ) → m ≤ p.hubs → (s : List ℕ) → length s ≡ cells → Coded p.hubs (Upto m) s → Coded p.hubs (Upto 0) (show_hubs P m s)
  unfolding show_hubs
  hubs_coded zero u s size coded = coded
  hubs_coded (suc m) u s size coded =
      hubs_coded m (omega arith) (show_hub P (suc m) s) (hub_size P (suc m) s ∙ size) (hub_coded m u s size coded)

  -- before any hub is handed up each port shows its node, whose request's cell is x k
  module _ (x : ℕ → ℕ) (counted : (c : Bool) (k : ℕ) → Within p.nodes k → f c k ≡ shown_in c (x k))
      (inside : (c : Bool) (k : ℕ) → f c k ≡ true → Within p.nodes k) where
    shown_node : (c : Bool) (h r k : ℕ) → Within p.nodes k → node_at P x c h r k ≡ true → Upto p.hubs c h r ≡ true
    shown_node c h r k w e =
        let a = and_both (shown_in c (x k)) (eqb h (plan.hub_of_node P k) && eqb r (plan.port_of_node P k)) e in
        let b = and_both (eqb h (plan.hub_of_node P k)) (eqb r (plan.port_of_node P k)) a.1 in
        let held = R.node_port k w in
        subst (λ (i : ℕ). Upto p.hubs c i r ≡ true) (sym (eqb-true h (plan.hub_of_node P k) b.0))
        (subst (λ (i : ℕ). Upto p.hubs c (plan.hub_of_node P k) i ≡ true) (sym (eqb-true r (plan.port_of_node P k) b.1))
        (rw (le-leb (plan.port_of_node P k) (p.ports (plan.hub_of_node P k)) held.place.up, held.port) (counted c k w ∙ a.0)))

    unshown : (c : Bool) (h r : ℕ) → Within p.hubs h → 1 ≤ r → any p.nodes (node_at P x c h r) ≡ false → Upto p.hubs c h r ≡ false
    unshown c h r w l none = go (which (leb r (p.ports h)))
      where
        own_node : (k : ℕ) → Within (p.ports h) r → p.port h r ≡ node k → Which (f c k) → f c k ≡ false
        own_node k v e (no' t) = t
        own_node k v e (yes' t) =
            let n = inside c k t in
            let here = R.one_port k h r (record { hub = w; place = v; port = e }) in
            let seen_there : node_at P x c h r k ≡ true =
            rw (sym (counted c k n) ∙ t, eq-eqb h (plan.hub_of_node P k) (sym here.0), eq-eqb r (plan.port_of_node P k) (sym here.1)) refl in
            absurd (true-false seen_there (any_none p.nodes (node_at P x c h r) none k n))

        port : (y : Port) → Within (p.ports h) r → p.port h r ≡ y → Covers p D.above h r y → seen p (f c) (done p.hubs c) y ≡ false
        port (node k) v e i = own_node k v e (which (f c k))
        port empty v e i = refl
        port (hub g) v e i = rw (le-ltb p.hubs g i.0.number.up)

        go : Which (leb r (p.ports h)) → Upto p.hubs c h r ≡ false
        go (yes' e) =
            let v : Within (p.ports h) r = record { low = l; up = leb-true r (p.ports h) e } in
            rw e (port (p.port h r) v refl (D.covers h r w v))
        go (no' e) = rw e

    at_first : (c : Bool) (h r : ℕ) → Within p.hubs h → 1 ≤ r → r ≤ ports → any p.nodes (node_at P x c h r) ≡ Upto p.hubs c h r
    at_first c h r w l u = go (which (any p.nodes (node_at P x c h r)))
      where
        go : Which (any p.nodes (node_at P x c h r)) → any p.nodes (node_at P x c h r) ≡ Upto p.hubs c h r
        go (yes' e) =
            let k = any_some p.nodes (node_at P x c h r) e in
            e ∙ sym (shown_node c h r k.number k.within k.holds)
        go (no' e) = e ∙ sym (unshown c h r w l e)

-- ---- all of them

-- every standing request counts, in its class
abbrev pub AllCount : List ℕ → List ℕ → Type 0
AllCount P s = (is_high : Bool) (k : ℕ) → Within (plan_in P).nodes k → counts_of (plan_in P) is_high s k ≡ shown_in is_high (get_or s (request_cell k) 0)

pub built_same : (P : List ℕ) (s : List ℕ) → SameButMasks s (build_masks P s)
unfolding build_masks
built_same P s =
    let r = clear_masks (hubs_in P) s in
    let t = show_nodes P (plan_in P).nodes r in
    same_trans s r (build_masks P s) (clear_same (hubs_in P) (min-le_right (plan_in P).hubs most_hubs) s)
    (same_trans r t (build_masks P s) (nodes_same P (plan_in P).nodes r) (hubs_same P (hubs_in P) t))

pub built : (P : List ℕ) → Ready P → (s : List ℕ) → length s ≡ cells → AllCount P s → Mended (plan_in P) s (build_masks P s)
unfolding build_masks
built P R s size counted =
    record {
      size = rw all (hubs_size P h t ∙ nodes_size P (plan_in P).nodes r ∙ clear_size h s ∙ size);
      same = built_same P s;
      masks = λ c g w.
          rw all (coded c g w ∙ mask_cong ports (Upto P R f 0 c g) (seen_at (plan_in P) (f c) g) (λ q l u. whole P R f 0 c g q (omega arith) w l));
    }
  where
    h : ℕ
    h = (plan_in P).hubs

    few : h ≤ 32
    few = R.drawn.few_hubs

    all : hubs_in P ≡ h
    all = omega (arith, few)

    r : List ℕ
    r = clear_masks h s

    t : List ℕ
    t = show_nodes P (plan_in P).nodes r

    f : Bool → ℕ → Bool
    f c = counts_of (plan_in P) c s

    inside : (c : Bool) (k : ℕ) → f c k ≡ true → Within (plan_in P).nodes k
    inside c k e = go (which (is_node (plan_in P) k))
      where
        go : Which (is_node (plan_in P) k) → Within (plan_in P).nodes k
        go (yes' i) = node_within (plan_in P) k i
        go (no' i) = absurd (true-false e (counts-cells (plan_in P) c s k ∙ ap (λ (b : Bool). if b then counts_at c k s else false) i))

    x : ℕ → ℕ
    x k = get_or s (request_cell k) 0

    coded : (c : Bool) (g : ℕ) → Within h g → get_or (show_hubs P h t) (mask_cell c g) 0 ≡ mask_of (Upto P R f 0 c g)
    coded =
        hubs_coded P R f h (omega arith) t (nodes_size P (plan_in P).nodes r ∙ clear_size h s ∙ size)
        (recoded h (λ c g q. any (plan_in P).nodes (node_at P x c g q)) (Upto P R f h) t (at_first P R f x counted inside)
        (nodes_coded P h few x (plan_in P).nodes (λ c g q. false) r (clear_size h s ∙ size)
        (λ k. clear_same h few s (request_cell k) (node_no_mask k 0)) (clear_coded h few s size)))
