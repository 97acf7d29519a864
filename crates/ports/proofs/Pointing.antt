-- Which ports are at or after a pointer.
use mathlib.Core.Path.{◌≡◌, refl, sym, ap, ◌∙◌}
use mathlib.Core.Bool.{Bool, true, false, ◌&&◌, true≢false}
use Prim.Native.Nat.{ℕ, ◌≤◌, ◌<◌}
use native.Mathlib.Omega.{arith}
use borrow.Author.Tests.{le-leb, lt-leb, leb-true}
use lib.Dec.{leb}
use Rattle.ports.specs.Ports.{at_or_after}

pub after_kept : (pointer : ℕ) (f : ℕ → Bool) (q : ℕ) → pointer ≤ q → at_or_after pointer f q ≡ f q
unfolding at_or_after
after_kept pointer f q h = ap (λ (b : Bool). b && f q) (le-leb pointer q h)

pub after_cleared : (pointer : ℕ) (f : ℕ → Bool) (q : ℕ) → q < pointer → at_or_after pointer f q ≡ false
unfolding at_or_after
after_cleared pointer f q h = ap (λ (b : Bool). b && f q) (lt-leb pointer q h)

pub after_member : (pointer : ℕ) (f : ℕ → Bool) (q : ℕ) → at_or_after pointer f q ≡ true → (pointer ≤ q) × (f q ≡ true)
after_member pointer f q e =
    let before : q < pointer → ⊥ = λ h. true≢false (sym e ∙ after_cleared pointer f q h) in
    let l : pointer ≤ q = omega arith in
    (l, sym (after_kept pointer f q l) ∙ e)

pub after_none : (pointer : ℕ) (f : ℕ → Bool) (q : ℕ) → (pointer ≤ q → f q ≡ false) → at_or_after pointer f q ≡ false
unfolding at_or_after
after_none pointer f q none = go (leb pointer q) refl
  where
    go : (b : Bool) → leb pointer q ≡ b → (b && f q) ≡ false
    go true e = none (leb-true pointer q e)
    go false e = refl
