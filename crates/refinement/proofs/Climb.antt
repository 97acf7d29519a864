-- One class's masks, mended from node k's hub up: they were right but for k, and are right again. Where the climb
-- ends early, a hub shows something as before or nothing as before, so all above it see what they saw.
use Prim.Native.Nat.{ℕ, zero, suc, ◌+◌, ◌≤◌, ◌<◌}
use mathlib.Core.Path.{◌≡◌, refl, sym, ap, ◌∙◌, subst}
use mathlib.Core.Bool.{Bool, true, false, ◌&&◌, beq, or-false}
use mathlib.Core.List.{List}
use mathlib.Core.Logic.{◌⊎◌, inl, inr, ⊎_elim}
use native.Mathlib.Omega.{arith}
use native.Mathlib.Nat.{eq-or-lt_of_le}
use lib.Dec.{ltb, leb, eqb}
use lib.ListN.{length, get_or, set, length-set}
use lib.Seq.{get_or-set_same, get_or-set_other}
use borrow.Author.Tests.{ltb-true, ltb-false, leb-true, leb-false, le-ltb, le-leb, eqb-true, eqb-false}
use Rattle.std.specs.Prelude.{if◌then◌else◌}
use Rattle.rules.specs.Plan.{Plan, node, most_levels}
use Rattle.rules.specs.Drawn.{Drawn, Within}
use Rattle.rules.specs.Control as control
use Rattle.rules.proofs.Laws.Passes.{Which, which, yes', no'}
use Rattle.rules.proofs.Control.Cover.{hangs}
use Rattle.rules.proofs.Control.Nearest.{level_low}
use Rattle.ports.specs.Ports.{ports, put_port, any_port}
use Rattle.ports.specs.Mask.{shows, mask_of}
use Rattle.ports.proofs.Coding.{mask_cong, shows_mask}
use Rattle.ports.proofs.Summaries.{any_cong, any_mask}
use Rattle.plan_tree.specs.Tables as plan
use Rattle.plan.specs.Tables.{plan_of}
use Rattle.plan_theory.specs.Taken.{Holds}
use Rattle.cells.specs.Layout.{cells, mask_cell}
use Rattle.cells.specs.Decode.{plan_in}
use Rattle.cells.specs.Masks.{mask_with, alike, mend}
use Rattle.refinement.specs.Kept.{Ready, seen_at, MasksRight}
use Rattle.refinement.proofs.Line.{Between, Up, here, over, up_within, up_above, At, lined, seen_beside, seen-elsewhere, seen_above, at_above}
use Rattle.refinement.proofs.Mend.{mend_none}

low_mask : (is_high : Bool) (g : ℕ) → g ≤ 32 → mask_cell is_high g < cells
low_mask true g u = omega arith
low_mask false g u = omega arith

put_port_same : (f : ℕ → Bool) (q r : ℕ) (b : Bool) → eqb r q ≡ true → put_port f q b r ≡ b
unfolding put_port
put_port_same f q r b e = rw e (or-false b)

put_port_other : (f : ℕ → Bool) (q r : ℕ) (b : Bool) → eqb r q ≡ false → put_port f q b r ≡ f r
unfolding put_port
put_port_other f q r b e = rw e

both_same : (a b : Bool) → beq a b ≡ true → a ≡ b
both_same true true e = refl
both_same true false e = sym e
both_same false true e = e
both_same false false e = refl

-- a choice whose first way is known to be taken where it is
if_goes : {A : Type 0} (C : A → Type 0) (t : Bool) {a b : A} → (t ≡ true → C a) → C b → C (if t then a else b)
if_goes C true x y = x refl
if_goes C false x y = y

-- the masks of class is_high were right for what counted, `was`, and are to be for what counts now; only node k has changed
module _ (P : List ℕ) (R : Ready P) (is_high : Bool) (k : ℕ) (was now : ℕ → Bool) (same : (j : ℕ) → (j ≡ k → ⊥) → now j ≡ was j) where
  abbrev p : Plan
  p = plan_in P

  abbrev D : Drawn p
  D = R.drawn

  abbrev RightAt : (ℕ → Bool) → ℕ → List ℕ → Type 0
  RightAt f h s = get_or s (mask_cell is_high h) 0 ≡ mask_of (seen_at p f h)

  -- at hub g: its mask and those above it are still right for what counted, and the others for what counts now
  record Climbing (g : ℕ) (s : List ℕ) : Type 0 where
    size : length s ≡ cells
    ahead : (h : ℕ) → Up p h g → RightAt was h s
    behind : (h : ℕ) → Within p.hubs h → Up p h g ⊎ RightAt now h s

  -- k's port of g is put
  mask_put : (g q : ℕ) (b : Bool) (s : List ℕ) → Within p.hubs g → Within (p.ports g) q → At p D k g q → b ≡ control.shows p now g q
      → RightAt was g s → mask_with (get_or s (mask_cell is_high g) 0) q b ≡ mask_of (seen_at p now g)
  mask_put g q b s w v a e right =
      ap (λ (m : ℕ). mask_with m q b) right
      ∙ mask_cong ports (put_port (shows (mask_of (seen_at p was g))) q b) (seen_at p now g) (λ r l u. go r l u (which (eqb r q)))
    where
      own : b ≡ seen_at p now g q
      own = rw (le-leb q (p.ports g) v.up) e

      go : (r : ℕ) → 1 ≤ r → r ≤ ports → Which (eqb r q) → put_port (shows (mask_of (seen_at p was g))) q b r ≡ seen_at p now g r
      go r l u (yes' h) =
          put_port_same (shows (mask_of (seen_at p was g))) q r b h ∙ subst (λ (i : ℕ). b ≡ seen_at p now g i) (sym (eqb-true r q h)) own
      go r l u (no' h) =
          put_port_other (shows (mask_of (seen_at p was g))) q r b h ∙ shows_mask ports (seen_at p was g) r l u
          ∙ seen_beside p D k was now same g q r w v a l (eqb-false r q h)

  -- hub g sees at its ports what it saw
  abbrev SeesSame : ℕ → Type 0
  SeesSame g = (r : ℕ) → 1 ≤ r → r ≤ ports → seen_at p was g r ≡ seen_at p now g r

  -- where hub g shows something as before, or nothing as before, its parent sees what it saw: k stands there at g's place
  parent_same : (g q : ℕ) → 2 ≤ g → Within p.hubs g → Within (p.ports g) q → At p D k g q → any_port (seen_at p was g) ≡ any_port (seen_at p now g)
      → SeesSame (p.parent g)
  parent_same g q i w v a e r l u = go (which (eqb r (p.place g)))
    where
      own : seen_at p was (p.parent g) (p.place g) ≡ seen_at p now (p.parent g) (p.place g)
      own =
          ap (λ (b : Bool). leb (p.place g) (p.ports (p.parent g)) && b)
          (sym (seen_above p D was g i w.up) ∙ e ∙ seen_above p D now g i w.up)

      go : Which (eqb r (p.place g)) → seen_at p was (p.parent g) r ≡ seen_at p now (p.parent g) r
      go (yes' h) = subst (λ (j : ℕ). seen_at p was (p.parent g) j ≡ seen_at p now (p.parent g) j) (sym (eqb-true r (p.place g) h)) own
      go (no' h) =
          seen_beside p D k was now same (p.parent g) (p.place g) r (D.hung_parent g i w.up) (D.hung_place g i w.up)
          (at_above p D k g q i w.up v a) l (eqb-false r (p.place g) h)

  -- and so do all above it
  above_same : (h g q : ℕ) → Within p.hubs g → Within (p.ports g) q → At p D k g q → SeesSame g
      → Up p h g → mask_of (seen_at p was h) ≡ mask_of (seen_at p now h)
  above_same h g q w v a sees (here e) =
      subst (λ (j : ℕ). mask_of (seen_at p was j) ≡ mask_of (seen_at p now j)) (sym e) (mask_cong ports (seen_at p was g) (seen_at p now g) sees)
  above_same h g q w v a sees (over i u) =
      above_same h (p.parent g) (p.place g) (D.hung_parent g i w.up) (D.hung_place g i w.up) (at_above p D k g q i w.up v a)
      (parent_same g q i w v a (any_cong ports (seen_at p was g) (seen_at p now g) sees)) u

  -- with g's mask right too, only those above it are left
  module _ (g m : ℕ) (s : List ℕ) (w : Within p.hubs g) (c : Climbing g s) (right : m ≡ mask_of (seen_at p now g)) where
    abbrev stored : List ℕ
    stored = set s (mask_cell is_high g) m

    stored_here : (h : ℕ) → h ≡ g → RightAt now h stored
    stored_here h e =
        subst (λ (i : ℕ). RightAt now i stored) (sym e)
        (get_or-set_same s (mask_cell is_high g) m 0 (omega (arith, low_mask is_high g (omega (arith, w.up, D.few_hubs)), c.size)) ∙ right)

    stored_other : (f : ℕ → Bool) (h : ℕ) → 1 ≤ h → (h ≡ g → ⊥) → RightAt f h s → RightAt f h stored
    stored_other f h l other r = get_or-set_other s (mask_cell is_high g) (mask_cell is_high h) m 0 (λ e. other (omega (arith, w.low))) ∙ r

    stored_behind : (h : ℕ) → Within p.hubs h → ((2 ≤ g) × Up p h (p.parent g)) ⊎ RightAt now h stored
    stored_behind h v = go (c.behind h v)
      where
        kept : Which (eqb h g) → RightAt now h s → RightAt now h stored
        kept (yes' e) r = stored_here h (eqb-true h g e)
        kept (no' e) r = stored_other now h v.low (eqb-false h g e) r

        go : Up p h g ⊎ RightAt now h s → ((2 ≤ g) × Up p h (p.parent g)) ⊎ RightAt now h stored
        go (inl (here e)) = inr (stored_here h e)
        go (inl (over l u)) = inl (l, u)
        go (inr r) = inr (kept (which (eqb h g)) r)

    climbed : 2 ≤ g → Climbing (p.parent g) stored
    climbed l =
        record {
          size = length-set s (mask_cell is_high g) m ∙ c.size;
          ahead = λ h u. (let a = up_above p D h g l w.up u in stored_other was h a.0 (λ e. omega (arith, a.1)) (c.ahead h (over l u)));
          behind = λ h v. ⊎_elim (λ x. inl x.1) (λ r. inr r) (stored_behind h v);
        }

    -- nothing is left above the root
    at_root : g ≡ 1 → MasksRight p is_high now stored
    at_root e h v = ⊎_elim (λ x. absurd (omega (arith, x.0))) (λ r. r) (stored_behind h v)

    -- nor where g shows something as before, or nothing as before: those above it are right as they are
    at_same : (q : ℕ) → Within (p.ports g) q → At p D k g q → any_port (seen_at p was g) ≡ any_port (seen_at p now g) → MasksRight p is_high now stored
    at_same q v a e h x = ⊎_elim (λ y. above y.0 y.1) (λ r. r) (stored_behind h x)
      where
        above : 2 ≤ g → Up p h (p.parent g) → RightAt now h stored
        above i u =
            let far = up_above p D h g i w.up u in
            stored_other now h far.0 (λ e. omega (arith, far.1))
            (c.ahead h (over i u)
            ∙ above_same h (p.parent g) (p.place g) (D.hung_parent g i w.up) (D.hung_place g i w.up) (at_above p D k g q i w.up v a)
            (parent_same g q i w v a e) u)

  -- with so many levels left, from hub g with k at its port q, the masks come right
  Mends : ℕ → Type 0
  Mends levels =
      (g q : ℕ) (b : Bool) (s : List ℕ) → Within p.hubs g → Within (p.ports g) q → At p D k g q → b ≡ control.shows p now g q
      → p.level g ≤ levels → Climbing g s → MasksRight p is_high now (mend P is_high levels g q b s)

  module _ (levels g q : ℕ) (b : Bool) (s : List ℕ) (w : Within p.hubs g) (v : Within (p.ports g) q) (a : At p D k g q)
      (e : b ≡ control.shows p now g q) (c : Climbing g s) where
    abbrev old : ℕ
    old = get_or s (mask_cell is_high g) 0

    abbrev mask : ℕ
    mask = mask_with old q b

    -- what is left to do once g's mask is stored
    abbrev Rest : Type 0
    Rest = MasksRight p is_high now (mend P is_high levels (p.parent g) (p.place g) (any_port (shows mask)) (set s (mask_cell is_high g) mask))

    right : mask ≡ mask_of (seen_at p now g)
    right = mask_put g q b s w v a e (c.ahead g (here refl))

    -- the climb ends here
    ends : alike old mask ≡ true → MasksRight p is_high now (set s (mask_cell is_high g) mask)
    ends h =
        at_same g mask s w c right q v a
        (sym (any_mask (seen_at p was g)) ∙ ap (λ (n : ℕ). any_port (shows n)) (sym (c.ahead g (here refl)))
        ∙ both_same (any_port (shows old)) (any_port (shows mask)) h
        ∙ ap (λ (n : ℕ). any_port (shows n)) right ∙ any_mask (seen_at p now g))

    root_mends : g ≡ 1 → Rest
    unfolding plan_of
    root_mends i =
        let none : p.parent g ≡ 0 = ap p.parent i ∙ R.root_parent in
        rw (none, mend_none) (at_root g mask s w c right i)

    lower_mends : 2 ≤ g → p.level g ≤ suc levels → Mends levels → Rest
    unfolding Mends
    lower_mends i l more =
        let u = w.up in
        more (p.parent g) (p.place g) (any_port (shows mask)) (set s (mask_cell is_high g) mask) (D.hung_parent g i u) (D.hung_place g i u)
        (at_above p D k g q i u v a)
        (ap (λ (n : ℕ). any_port (shows n)) right ∙ any_mask (seen_at p now g) ∙ seen_above p D now g i u)
        (omega (arith, (hangs p D g i u).hung.level))
        (climbed g mask s w c right i)

  mends : (levels : ℕ) → Mends levels
  unfolding Mends mend plan_of
  mends zero g q b s w v a e l c = absurd (omega (arith, level_low p D g w))
  mends (suc levels) g q b s w v a e l c =
      rw (le-ltb g 1 w.low, le-ltb 32 g (omega (arith, w.up, D.few_hubs)))
      (if_goes (MasksRight p is_high now) (alike (get_or s (mask_cell is_high g) 0) (mask_with (get_or s (mask_cell is_high g) 0) q b))
      (ends levels g q b s w v a e c)
      (⊎_elim (λ i. root_mends levels g q b s w v a e c (sym i)) (λ i. lower_mends levels g q b s w v a e c i l (mends levels)) (eq-or-lt_of_le w.low)))

  -- so from node k's own port
  module _ (s : List ℕ) (size : length s ≡ cells) (w : Within p.nodes k) (masks : MasksRight p is_high was s) where
    abbrev own_hub : ℕ
    own_hub = plan.hub_of_node P k

    abbrev own_port : ℕ
    own_port = plan.port_of_node P k

    abbrev held : Holds p (node k) own_hub own_port
    held = R.node_port k w

    own_at : At p D k own_hub own_port
    own_at =
        let (e, n) = rw held.port at (D.covers own_hub own_port held.hub held.place) in
        record { past = omega arith; up = omega arith }

    -- a hub that k doesn't stand in
    elsewhere : (h : ℕ) → Within p.hubs h → (Between (D.above h 1) (D.above h (p.ports h + 1)) k → ⊥) → RightAt now h s
    elsewhere h v off =
        masks h v ∙ mask_cong ports (seen_at p was h) (seen_at p now h) (λ q l u. seen-elsewhere p D k was now same h q v off l)

    start : Climbing own_hub s
    start =
        record {
          size = size;
          ahead = λ h u. (let x = up_within p D h own_hub held.hub u in masks h (record { low = x.low; up = omega (arith, x.up, held.hub.up) }));
          behind = λ h v. go h v (which (ltb (D.above h 1) k)) (which (leb k (D.above h (p.ports h + 1))));
        }
      where
        go : (h : ℕ) → Within p.hubs h → Which (ltb (D.above h 1) k) → Which (leb k (D.above h (p.ports h + 1))) → Up p h own_hub ⊎ RightAt now h s
        go h v (yes' a) (yes' z) =
            inl
            (lined p D k own_hub (λ i q x. sym (R.one_port k i q x).0) h v
            (record { past = ltb-true (D.above h 1) k a; up = leb-true k (D.above h (p.ports h + 1)) z }))
        go h v (no' a) z = inr (elsewhere h v (λ b. omega (arith, ltb-false (D.above h 1) k a, b.past)))
        go h v (yes' a) (no' z) = inr (elsewhere h v (λ b. omega (arith, leb-false k (D.above h (p.ports h + 1)) z, b.up)))

    pub node_mends : (b : Bool) → b ≡ now k → MasksRight p is_high now (mend P is_high most_levels own_hub own_port b s)
    unfolding Mends
    node_mends b e =
        mends most_levels own_hub own_port b s held.hub held.place own_at (rw held.port e) (D.few_levels own_hub held.hub) start
