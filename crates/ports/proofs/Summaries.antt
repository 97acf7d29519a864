-- A hub's summary is true just where it shows some port.
use mathlib.Core.Path.{◌≡◌, refl, sym, ap₂, ◌∙◌}
use mathlib.Core.Bool.{Bool, true, false, ◌||◌, true≢false}
use mathlib.Core.Logic.{◌⊎◌, inl, inr}
use Prim.Native.Nat.{ℕ, zero, suc, ◌≤◌, ◌<◌}
use native.Mathlib.Nat.{eq-or-lt_of_le}
use native.Mathlib.Omega.{arith}
use Rattle.ports.specs.Ports.{ports, any_up_to, any_port}
use Rattle.ports.specs.Mask.{shows, mask_of}
use Rattle.ports.proofs.Coding.{Same, shows_mask}

pub any_cong : (k : ℕ) (f g : ℕ → Bool) → Same k f g → any_up_to k f ≡ any_up_to k g
unfolding any_up_to
any_cong zero f g e = refl
any_cong (suc k) f g e =
    ap₂ (λ (b t : Bool). b || t) (e (suc k) (omega arith) (omega arith)) (any_cong k f g (λ p l h. e p l (omega arith)))

pub any_mask : (f : ℕ → Bool) → any_port (shows (mask_of f)) ≡ any_port f
any_mask f = any_cong ports (shows (mask_of f)) f (shows_mask ports f)

-- ---- what makes a summary right

abbrev pub Some : ℕ → (ℕ → Bool) → Type 0
Some k f = (p : ℕ) × (1 ≤ p) × (p ≤ k) × (f p ≡ true)

abbrev pub None : ℕ → (ℕ → Bool) → Type 0
None k f = (p : ℕ) → 1 ≤ p → p ≤ k → f p ≡ false

abbrev pub Sums : ℕ → (ℕ → Bool) → Bool → Type 0
Sums k f true = Some k f
Sums k f false = None k f

pub any_sums : (k : ℕ) (f : ℕ → Bool) → Sums k f (any_up_to k f)
unfolding any_up_to
any_sums zero f = λ p l h. absurd (omega arith)
any_sums (suc k) f = go (f (suc k)) refl (any_up_to k f) (any_sums k f)
  where
    more : None k f → f (suc k) ≡ false → (p : ℕ) → 1 ≤ p → (p ≡ suc k) ⊎ (p < suc k) → f p ≡ false
    more none e p l (inl s) = rw s e
    more none e p l (inr s) = none p l (omega arith)

    go : (b : Bool) → f (suc k) ≡ b → (t : Bool) → Sums k f t → Sums (suc k) f (b || t)
    go true e t s = (suc k, omega arith, omega arith, e)
    go false e true s = (s.0, s.1, omega arith, s.3)
    go false e false s = λ p l h. more s e p l (eq-or-lt_of_le h)

pub sums_agree : (k : ℕ) (f : ℕ → Bool) (b t : Bool) → Sums k f b → Sums k f t → b ≡ t
sums_agree k f true true s r = refl
sums_agree k f true false s r = absurd (true≢false (sym s.3 ∙ r s.0 s.1 s.2))
sums_agree k f false true s r = absurd (true≢false (sym r.3 ∙ s r.0 r.1 r.2))
sums_agree k f false false s r = refl

pub sums_any : (k : ℕ) (f : ℕ → Bool) (b : Bool) → Sums k f b → any_up_to k f ≡ b
sums_any k f b s = sums_agree k f (any_up_to k f) b (any_sums k f) s
