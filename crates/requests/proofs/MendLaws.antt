-- One step of `mend` for each way that a climb goes.
use mathlib.Core.Path.{◌≡◌, refl, sym, ap₂, ◌∙◌, subst}
use mathlib.Core.Bool.{Bool, true, false, not, ◌&&◌, ◌||◌, beq, true≢false}
use mathlib.Core.List.{List}
use Prim.Native.Nat.{ℕ, zero, suc, ◌-◌, ◌≤◌}
use native.Mathlib.Omega.{arith}
use borrow.Author.Tests.{le-ltb}
use lib.ListN.{get_or, set}
use lib.Dec.{eqb}
use Rattle.ports.specs.Ports.{ports, put_port, any_port}
use Rattle.ports.specs.Mask.{shows}
use Rattle.ports.proofs.Summaries.{Sums, any_sums, sums_any, any_mask}
use Rattle.rules.specs.Plan.{most_hubs}
use Rattle.rules.proofs.Laws.Passes.{Which, which, yes', no'}
use Rattle.plan_tree.specs.Tables as plan
use Rattle.cells.specs.Layout.{mask_cell}
use Rattle.cells.specs.Masks.{alike, mend, mask_with}
use Rattle.cells.proofs.Within.{no_hub}

-- a port put hides none, and one taken off shows none
put_hides_none : (f : ℕ → Bool) (q r : ℕ) → put_port f q true r ≡ false → f r ≡ false
unfolding put_port
put_hides_none f q r e = go (eqb r q) (f r) e
  where
    go : (t x : Bool) → (t && true) || (not t && x) ≡ false → x ≡ false
    go true true h = h
    go true false h = refl
    go false true h = h
    go false false h = refl

off_shows_none : (f : ℕ → Bool) (q r : ℕ) → put_port f q false r ≡ true → f r ≡ true
unfolding put_port
off_shows_none f q r e = go (eqb r q) (f r) e
  where
    go : (t x : Bool) → (t && false) || (not t && x) ≡ true → x ≡ true
    go true true h = refl
    go true false h = h
    go false true h = refl
    go false false h = h

-- where what a hub shows at all changes, it changes as the bit did
goes_up : (old q : ℕ) (b : Bool) → alike old (mask_with old q b) ≡ false → any_port (shows (mask_with old q b)) ≡ b
goes_up old q true e = go (which (any_port f))
  where
    f : ℕ → Bool
    f = put_port (shows old) q true

    go : Which (any_port f) → any_port (shows (mask_with old q true)) ≡ true
    go (yes' h) = any_mask f ∙ h
    go (no' h) =
        let none = subst (Sums ports f) h (any_sums ports f) in
        let before = sums_any ports (shows old) false (λ r l u. put_hides_none (shows old) q r (none r l u)) in
        absurd (true≢false (sym (ap₂ beq before (any_mask f ∙ h)) ∙ e))
goes_up old q false e = go (which (any_port f))
  where
    f : ℕ → Bool
    f = put_port (shows old) q false

    go : Which (any_port f) → any_port (shows (mask_with old q false)) ≡ false
    go (no' h) = any_mask f ∙ h
    go (yes' h) =
        let some = subst (Sums ports f) h (any_sums ports f) in
        let before = sums_any ports (shows old) true (some.0, some.1, some.2, off_shows_none (shows old) q some.0 some.3) in
        absurd (true≢false (sym (ap₂ beq before (any_mask f ∙ h)) ∙ e))

module _ (P : List ℕ) (is_high : Bool) where
  pub none_left : (levels g q : ℕ) (b : Bool) (s : List ℕ) → levels ≡ 0 → s ≡ mend P is_high levels g q b s
  unfolding mend
  none_left zero g q b s e = refl
  none_left (suc n) g q b s e = absurd (omega arith)

  pub beyond_hubs : (levels g q : ℕ) (b : Bool) (s : List ℕ) → ¬ ((1 ≤ g) × (g ≤ most_hubs)) → s ≡ mend P is_high levels g q b s
  unfolding mend
  beyond_hubs zero g q b s other = refl
  beyond_hubs (suc n) g q b s other = no_hub g _ s other

  -- hub g's mask stands at `at`, and becomes `mask`
  module _ (g q : ℕ) (b : Bool) (s : List ℕ) (at mask : ℕ) (low : 1 ≤ g) (up : g ≤ most_hubs)
      (e : at ≡ mask_cell is_high g) (f : mask ≡ mask_with (get_or s at 0) q b) where
    pub ends_here : (levels : ℕ) → (levels ≡ 0 → ⊥) → alike (get_or s at 0) mask ≡ true → set s at mask ≡ mend P is_high levels g q b s
    unfolding mend
    ends_here zero some i = absurd (some refl)
    ends_here (suc n) some i =
        rw (f, e) (let same = rw (f, e) at i in simp (le-ltb g 1 low, le-ltb most_hubs g up, same))

    -- s₁ is what the climb from the parent leaves
    climbs : (levels : ℕ) → (levels ≡ 0 → ⊥) → alike (get_or s at 0) mask ≡ false → (shown : Bool) (s₁ : List ℕ) → shown ≡ any_port (shows mask)
        → s₁ ≡ mend P is_high (levels - 1) (get_or P (plan.parent_cell g) 0) (get_or P (plan.place_cell g) 0) shown (set s at mask)
        → s₁ ≡ mend P is_high levels g q b s
    unfolding mend
    climbs zero some i shown s₁ h r = absurd (some refl)
    climbs (suc n) some i shown s₁ h r =
        let fewer : suc n - 1 ≡ n = omega arith in
        r ∙ rw (h, fewer, f, e) (let other = rw (f, e) at i in simp (le-ltb g 1 low, le-ltb most_hubs g up, other))

    pub goes_on : (levels : ℕ) → (levels ≡ 0 → ⊥) → alike (get_or s at 0) mask ≡ false → (s₁ : List ℕ)
        → s₁ ≡ mend P is_high (levels - 1) (get_or P (plan.parent_cell g) 0) (get_or P (plan.place_cell g) 0) b (set s at mask)
        → s₁ ≡ mend P is_high levels g q b s
    goes_on levels some i s₁ r = climbs levels some i b s₁ (rw f (sym (goes_up (get_or s at 0) q b (rw f at i)))) r
