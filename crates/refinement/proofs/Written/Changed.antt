-- A store into a mask's cell changes at most one mask, and any other store none.
use Prim.Native.Nat.{ℕ, zero, suc, ◌+◌, ◌≤◌}
use mathlib.Core.Path.{◌≡◌, refl, sym, ap, ◌∙◌}
use mathlib.Core.Bool.{Bool, true, false}
use mathlib.Core.List.{List}
use native.Mathlib.Omega.{arith}
use lib.Dec.{ltb, eqb}
use lib.ListN.{get_or, set}
use lib.Seq.{get_or-set_other}
use borrow.Author.Tests.{eq-eqb, eqb-true, ltb-false}
use Rattle.std.specs.Prelude.{if◌then◌else◌}
use Rattle.rules.specs.Choice.{put, sum}
use Rattle.rules.specs.Plan.{most_hubs}
use Rattle.rules.specs.Drawn.{Within}
use Rattle.rules.proofs.Laws.Passes.{Which, which, yes', no', sum_mono, sum-put}
use Rattle.rules.proofs.Laws.Sums.{Same, it, other, same_or_not}
use Rattle.ports.specs.Mask.{digit}
use Rattle.cells.specs.Layout.{mask_cell, if_hub, if_node}
use Rattle.refinement.specs.Kept.{NoMask}
use Rattle.refinement.specs.Waits.{OtherTimes}
use Rattle.refinement.specs.Written.{differs, changed_masks}
use Rattle.refinement.proofs.Walked.Frame.{digit-up}

sum-none : (n : ℕ) → sum n (λ g. 0) ≡ 0
unfolding sum
sum-none zero = refl
sum-none (suc n) = omega (arith, sum-none n)

sum_both : (n : ℕ) (f h : ℕ → ℕ) → sum n (λ g. f g + h g) ≡ sum n f + sum n h
unfolding sum
sum_both zero f h = refl
sum_both (suc n) f h = omega (arith, sum_both n f h)

same_none : (s r : List ℕ) (i : ℕ) → get_or r i 0 ≡ get_or s i 0 → differs s r i ≡ 0
same_none s r i e = rw (eq-eqb (get_or r i 0) (get_or s i 0) e)

at_most_one : (s r : List ℕ) (i : ℕ) → differs s r i ≤ 1
at_most_one s r i = go (which (eqb (get_or r i 0) (get_or s i 0)))
  where
    go : Which (eqb (get_or r i 0) (get_or s i 0)) → differs s r i ≤ 1
    go (yes' e) = rw e (omega arith)
    go (no' e) = rw e (omega arith)

differs_on : (s r t : List ℕ) (i : ℕ) → differs s t i ≤ differs s r i + differs r t i
differs_on s r t i = go (which (eqb (get_or r i 0) (get_or s i 0))) (which (eqb (get_or t i 0) (get_or r i 0)))
  where
    go : Which (eqb (get_or r i 0) (get_or s i 0)) → Which (eqb (get_or t i 0) (get_or r i 0)) → differs s t i ≤ differs s r i + differs r t i
    go (yes' e) (yes' h) =
        let same = eqb-true (get_or t i 0) (get_or r i 0) h ∙ eqb-true (get_or r i 0) (get_or s i 0) e in
        omega (arith, same_none s t i same)
    go (yes' e) (no' h) = rw (e, h) (at_most_one s t i)
    go (no' e) h = rw e (omega (arith, at_most_one s t i))

-- n writes account for what is different in r
pub record Wrote (n : ℕ) (s r : List ℕ) : Type 0 where
  pub few : changed_masks s r ≤ n

-- the same masks
pub wrote_none : {s r : List ℕ} → ((b : Bool) (g : ℕ) → Within 32 g → get_or r (mask_cell b g) 0 ≡ get_or s (mask_cell b g) 0) → Wrote 0 s r
wrote_none {s} {r} same =
    let l =
    sum_mono most_hubs (λ g. differs s r (mask_cell false g) + differs s r (mask_cell true g)) (λ g. 0)
    (λ g w. omega (arith, same_none s r (mask_cell false g) (same false g w), same_none s r (mask_cell true g) (same true g w))) in
    record { few = omega (arith, sum-none most_hubs) }

pub wrote_stay : {s : List ℕ} → Wrote 0 s s
wrote_stay = wrote_none (λ b g w. refl)

-- a cell that is no mask's
pub wrote_off : (s : List ℕ) (i v : ℕ) → NoMask i → Wrote 0 s (set s i v)
wrote_off s i v n = wrote_none (λ b g w. get_or-set_other s i (mask_cell b g) v 0 (λ e. n b g w (sym e)))

-- recorded times
pub wrote_times : {s r : List ℕ} → OtherTimes s r → Wrote 0 s r
wrote_times o = wrote_none (λ b g w. o.same (mask_cell b g) (omega (arith, digit-up b, w.up)))

pub wrote_then : {n m : ℕ} {s r t : List ℕ} → Wrote n s r → Wrote m r t → Wrote (m + n) s t
wrote_then {n} {m} {s} {r} {t} first second =
    let l =
    sum_mono most_hubs (λ g. differs s t (mask_cell false g) + differs s t (mask_cell true g))
    (λ g. differs s r (mask_cell false g) + differs s r (mask_cell true g) + (differs r t (mask_cell false g) + differs r t (mask_cell true g)))
    (λ g w. omega (arith, differs_on s r t (mask_cell false g), differs_on s r t (mask_cell true g))) in
    let both =
    sum_both most_hubs (λ g. differs s r (mask_cell false g) + differs s r (mask_cell true g))
    (λ g. differs r t (mask_cell false g) + differs r t (mask_cell true g)) in
    record { few = omega (arith, first.few, second.few) }

-- nothing before, or nothing behind
pub wrote_behind : {n : ℕ} {s r t : List ℕ} → Wrote 0 s r → Wrote n r t → Wrote n s t
wrote_behind first second = record { few = omega (arith, (wrote_then first second).few) }

pub wrote_before : {n : ℕ} {s r t : List ℕ} → Wrote n s r → Wrote 0 r t → Wrote n s t
wrote_before first second = record { few = omega (arith, (wrote_then first second).few) }

-- one mask
module _ (b : Bool) (g v : ℕ) (s : List ℕ) (w : Within 32 g) where
  abbrev left : List ℕ
  left = set s (mask_cell b g) v

  off : (c : Bool) (h : ℕ) → (mask_cell c h ≡ mask_cell b g → ⊥) → differs s left (mask_cell c h) ≡ 0
  off c h n = same_none s left (mask_cell c h) (get_or-set_other s (mask_cell b g) (mask_cell c h) v 0 n)

  own : (c : Bool) → b ≡ c → differs s left (mask_cell false g) + differs s left (mask_cell true g) ≤ 1
  own true e = omega (arith, at_most_one s left (mask_cell true g), off false g (λ i. omega (arith, ap digit e)))
  own false e = omega (arith, at_most_one s left (mask_cell false g), off true g (λ i. omega (arith, ap digit e)))

  each : (h : ℕ) → Within most_hubs h → Same h g → differs s left (mask_cell false h) + differs s left (mask_cell true h) ≤ put (λ i. 0) g 1 h
  each h u (it e) = rw (eq-eqb h g e, e) (own b refl)
  each h u (other d) =
      let off_it : (c : Bool) → differs s left (mask_cell c h) ≡ 0 = λ c. off c h (λ i. d (omega (arith, digit-up b, digit-up c, u.low, w.low))) in
      omega (arith, off_it false, off_it true)

  pub wrote_one : Wrote 1 s left
  wrote_one =
      let l =
      sum_mono most_hubs (λ h. differs s left (mask_cell false h) + differs s left (mask_cell true h)) (put (λ h. 0) g 1)
      (λ h u. each h u (same_or_not h g)) in
      record { few = omega (arith, sum-put most_hubs (λ h. 0) g 1 w, sum-none most_hubs) }

-- by cases on a test that both share
pub wrote_if : {n m : ℕ} {s r t : List ℕ} (b : Bool) → Wrote n s r → Wrote m s t → Wrote (if b then n else m) s (if b then r else t)
wrote_if true x y = x
wrote_if false x y = y

pub wrote_hub : {n : ℕ} {s r : List ℕ} (g : ℕ) → (Within 32 g → Wrote n s r) → Wrote (if_hub g n 0) s (if_hub g r s)
wrote_hub {n} {s} {r} g x = go (which (ltb g 1)) (which (ltb 32 g))
  where
    go : Which (ltb g 1) → Which (ltb 32 g) → Wrote (if_hub g n 0) s (if_hub g r s)
    go (yes' e) t = rw e wrote_stay
    go (no' e) (yes' h) = rw (e, h) wrote_stay
    go (no' e) (no' h) = rw (e, h) (x (record { low = ltb-false g 1 e; up = ltb-false 32 g h }))

pub wrote_node : {n : ℕ} {s r : List ℕ} (k : ℕ) → Wrote n s r → Wrote (if_node k n 0) s (if_node k r s)
wrote_node {n} {s} {r} k x = wrote_if (ltb k 1) wrote_stay (wrote_if (ltb 256 k) wrote_stay x)
