-- What a look finds by a hub's mask is what rules' search finds at the hub's ports.
use Rattle.std.specs.Prelude.{Some, None}
use Prim.Native.Nat.{ℕ, ◌+◌, ◌-◌, ◌≤◌}
use mathlib.Core.Path.{◌≡◌, refl, ◌∙◌}
use mathlib.Core.Bool.{Bool, true, false, ◌&&◌}
use native.Mathlib.Omega.{arith}
use lib.Dec.{leb}
use borrow.Author.Tests.{le-leb, leb-true}
use Rattle.rules.specs.Choice.{first}
use Rattle.rules.specs.Plan.{Plan}
use Rattle.rules.specs.Drawn.{Within}
use Rattle.rules.specs.Control.{shows, lowest}
use Rattle.rules.proofs.Laws.Passes as choices
use Rattle.rules.proofs.Laws.Passes.{Which, which, yes', no', missing, first_found}
use Rattle.ports.specs.Mask as mask
use Rattle.ports.specs.Mask.{mask_of}
use Rattle.ports.specs.Search.{lowest_from}
use Rattle.ports.proofs.Laws.{lowest_mask, right_lowest}
use Rattle.refinement.specs.Kept.{seen_at}

module _ (p : Plan) (f : ℕ → Bool) where
  -- the search by mask m from port a on and rules' search at hub g find the same
  pub data Finds (m g a : ℕ) : Type 0 where
    nothing : lowest p f g a ≡ 0 → lowest_from (mask.shows m) a ≡ None → Finds m g a
    finds : (q : ℕ) → Within (p.ports g) q → shows p f g q ≡ true → lowest p f g a ≡ q → lowest_from (mask.shows m) a ≡ Some q → Finds m g a

  -- where no port shows a request, or none is left, the hub sees none
  unseen : (g q : ℕ) → (q ≤ p.ports g → shows p f g q ≡ false) → seen_at p f g q ≡ false
  unseen g q h = go (which (leb q (p.ports g)))
    where
      go : Which (leb q (p.ports g)) → (leb q (p.ports g) && shows p f g q) ≡ false
      go (yes' e) = rw e (h (leb-true q (p.ports g) e))
      go (no' e) = rw e

  pub found_tied : (m g a : ℕ) → m ≡ mask_of (seen_at p f g) → 1 ≤ a → p.ports g ≤ 32 → Finds m g a
  unfolding lowest
  found_tied m g a right l few = go (first_found (shows p f g) a (p.ports g + 1 - a))
    where
      by_mask : lowest_from (mask.shows m) a ≡ lowest_from (seen_at p f g) a
      by_mask = rw right (lowest_mask (seen_at p f g) a)

      go : choices.Found (shows p f g) a (p.ports g + 1 - a) (first (shows p f g) a (p.ports g + 1 - a)) → Finds m g a
      go (missing z clear) =
          nothing z
          (by_mask ∙ right_lowest (seen_at p f g) a None (λ q low from up. unseen g q (λ u. clear q from (omega arith))))
      go (choices.lowest from up member clear) =
          let q = first (shows p f g) a (p.ports g + 1 - a) in
          let w : Within (p.ports g) q = record { low = omega arith; up = omega arith } in
          let seen : seen_at p f g q ≡ true = rw (le-leb q (p.ports g) w.up) member in
          finds q w member refl
          (by_mask ∙ right_lowest (seen_at p f g) a (Some q)
          (record {
            after = from;
            positive = w.low;
            within = omega arith;
            member = seen;
            least = λ j low at under. unseen g j (λ u. clear j at under);
          }))
