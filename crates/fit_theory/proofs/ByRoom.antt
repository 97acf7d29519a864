-- The change by a room is the first that fits it, whatever room it is and whatever the tables hold.
use Prim.Native.Nat.{ℕ, ◌≤◌, ◌<◌}
use mathlib.Core.Path.{◌≡◌, refl, sym, ◌∙◌}
use mathlib.Core.Bool.{Bool, true, false}
use mathlib.Core.Logic.{◌⊎◌}
use native.Mathlib.Omega.{arith}
use borrow.Author.Tests.{leb-true, leb-false, eqb-false, ne_eqb, not-true}
use lib.Dec.{leb}
use Rattle.rules.specs.Plan.{Plan, shortest}
use Rattle.rules.specs.Drawn.{Within}
use Rattle.rules.specs.Core.{Core}
use Rattle.rules.specs.Rows.{load}
use Rattle.rules.proofs.Laws.Passes.{and_both, unless}
use Rattle.offers.specs.Offers.{Offer}
use Rattle.fit.specs.Fit.{first_change, cost, suffices, fit_within}
use Rattle.fit.proofs.Largest.{Largest, None as NoneBelow, Found, found}
use Rattle.fit.proofs.Cheapest.{Cheapest, NoneSuffices, Chosen, chosen}
use Rattle.fit_theory.specs.Changes.{Change, packets, bits, release, Possible, Before, First, Means}
use Rattle.fit_theory.specs.ByRoom.{takes, has, ByRoom}

module _ (p : Plan) (s : Core) (room : ℕ) (o : Offer) where
  abbrev Fits : Change → Type 0
  Fits d = takes p o d ≤ has p s room d

  abbrev Fails : Change → Type 0
  Fails d = has p s room d < takes p o d

  -- the test of a change: the two searches for a largest number go by it as it stands
  abbrev passes : Change → Bool
  passes d = leb (takes p o d) (has p s room d)

  fits_then : (d : Change) → passes d ≡ true → Fits d
  fits_then d = leb-true (takes p o d) (has p s room d)

  fails_then : (d : Change) → passes d ≡ false → Fails d
  fails_then d = leb-false (takes p o d) (has p s room d)

  -- the test of a node in the third search, whose cost is its n × c
  abbrev enough : ℕ → Bool
  enough = suffices p s room o.node (load p (record { packets = o.packets; bits = o.bits }))

  -- it also asks whether the release is possible: of one that is, it asks what the test of the change asks
  enough_is : (j : ℕ) → Possible p s o (release j) → enough j ≡ passes (release j)
  enough_is j w = rw (ne_eqb j o.node w.1, ne_eqb (s.latest j).packets 0 (omega arith))

  -- so a node that passes it may be named
  may_be_named : (j : ℕ) → Within p.nodes j → enough j ≡ true → Possible p s o (release j)
  may_be_named j w e =
      let both = and_both _ _ e in
      let something : (s.latest j).packets ≡ 0 → ⊥ = eqb-false _ _ (not-true _ (and_both _ _ both.1).0) in
      (w, eqb-false _ _ (not-true _ both.0), omega arith)

  -- every possible change of a kind fails
  abbrev Failing : (ℕ → Change) → Type 0
  Failing kind = (i : ℕ) → Possible p s o (kind i) → Fails (kind i)

  no_packets : NoneBelow o.packets 1 (λ m. passes (packets m)) → Failing packets
  no_packets below m w = fails_then (packets m) (below m (omega arith) (omega arith))

  no_bits : NoneBelow o.bits (shortest p) (λ b. passes (bits b)) → Failing bits
  no_bits below b w = fails_then (bits b) (below b (omega arith) (omega arith))

  no_release : NoneSuffices enough (cost p s) p.nodes → Failing release
  no_release none j w = fails_then (release j) (sym (enough_is j w) ∙ none j w.0)

  first_packets : {m : ℕ} → Largest o.packets 1 (λ m. passes (packets m)) m → First p s o Fits Fails (packets m)
  first_packets {m} l =
      record {
        possible = omega arith;
        fits = fits_then (packets m) l.passed;
        before = λ e. elim e as (λ d. Possible p s o d → Before p s d (packets m) → Fails d) [
          | packets n ↦ λ w h. fails_then (packets n) (l.above n (omega arith) (omega arith))
          | bits b ↦ λ w h. absurd h
          | release j ↦ λ w h. absurd h
        ];
      }

  first_bits : Failing packets → {b : ℕ} → Largest o.bits (shortest p) (λ b. passes (bits b)) b → First p s o Fits Fails (bits b)
  first_bits ns {b} l =
      record {
        possible = omega arith;
        fits = fits_then (bits b) l.passed;
        before = λ e. elim e as (λ d. Possible p s o d → Before p s d (bits b) → Fails d) [
          | packets m ↦ λ w h. ns m w
          | bits a ↦ λ w h. fails_then (bits a) (l.above a (omega arith) (omega arith))
          | release j ↦ λ w h. absurd h
        ];
      }

  -- a node that stands before the cheapest one costs less, or as much with a lower number: so its release doesn't suffice
  before-cheapest : {j : ℕ} → Cheapest enough (cost p s) p.nodes j
      → (i : ℕ) → Within p.nodes i → Before p s (release i) (release j) → enough i ≡ true → ⊥
  before-cheapest r i w (◌⊎◌.inl less) e = omega (arith, r.least i w e)
  before-cheapest r i w (◌⊎◌.inr tie) e = omega (arith, r.lowest i w e tie.0)

  first_release : Failing packets → Failing bits → {j : ℕ} → Cheapest enough (cost p s) p.nodes j → First p s o Fits Fails (release j)
  first_release ns bs {j} r =
      let possible = may_be_named j r.node r.enough in
      record {
        possible = possible;
        fits = fits_then (release j) (sym (enough_is j possible) ∙ r.enough);
        before = λ e. elim e as (λ d. Possible p s o d → Before p s d (release j) → Fails d) [
          | packets m ↦ λ w h. ns m w
          | bits b ↦ λ w h. bs b w
          | release i ↦ λ w h. fails_then (release i) (sym (enough_is i w) ∙ unless (enough i) (before-cheapest r i w.0 h))
        ];
      }

  -- a number that was found isn't 0, so what is named is by the first of the searches that found one
  first_found : {m b j : ℕ} → Found o.packets 1 (λ m. passes (packets m)) m → Found o.bits (shortest p) (λ b. passes (bits b)) b
      → Chosen enough (cost p s) p.nodes j → Means p s o Fits Fails 17 (first_change m b j)
  first_found {m} (Found.some l) _ _ = rw (ne_eqb m 0 (omega (arith, l.low))) (refl, first_packets l)
  first_found {b} (Found.nothing ns) (Found.some l) _ = rw (ne_eqb b 0 (omega (arith, l.low))) (refl, first_bits (no_packets ns) l)
  first_found {j} (Found.nothing ns) (Found.nothing bs) (Chosen.some r) =
      rw (ne_eqb j 0 (omega (arith, r.node.low))) (refl, first_release (no_packets ns) (no_bits bs) r)
  first_found (Found.nothing ns) (Found.nothing bs) (Chosen.nothing js) =
      (refl, λ d. elim d as (λ k. Possible p s o k → Fails k) [ packets m ↦ no_packets ns m | bits b ↦ no_bits bs b | release j ↦ no_release js j ])

  pub by_room : ByRoom p s room o
  unfolding fit_within
  by_room =
      first_found (found 1 (λ m. passes (packets m)) o.packets) (found (shortest p) (λ b. passes (bits b)) o.bits)
      (chosen enough (cost p s) p.nodes)
