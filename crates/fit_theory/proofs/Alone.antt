-- No two answers mean what their cases say: of two different changes one stands before the other, so they aren't both the first that fits.
use Prim.Native.Nat.{ℕ, ◌<◌}
use mathlib.Core.Path.{◌≡◌, refl, sym, ap, ◌∙◌}
use mathlib.Core.Logic.{◌⊎◌}
use native.Mathlib.Omega.{arith}
use native.Mathlib.Nat.{le_antisymm}
use borrow.Author.Tests.{ltb-true, ltb-false}
use lib.Dec.{ltb}
use Rattle.rules.specs.Plan.{Plan}
use Rattle.rules.specs.Core.{Core}
use Rattle.rules.proofs.Laws.Passes.{Which, which, yes', no'}
use Rattle.offers.specs.Offers.{Offer}
use Rattle.fit.specs.Change.{Fit, Answer, Packets, Bits, Release, Nothing}
use Rattle.fit.specs.Fit.{cost}
use Rattle.fit_theory.specs.Changes.{Change, packets, bits, release, Possible, Before, First, Means}

-- how two numbers lie
data Order (m n : ℕ) : Type 0 where
  lower : m < n → Order m n
  same : m ≡ n → Order m n
  higher : n < m → Order m n

order : (m n : ℕ) → Order m n
order m n = go (which (ltb m n)) (which (ltb n m))
  where
    go : Which (ltb m n) → Which (ltb n m) → Order m n
    go (yes' e) _ = lower (ltb-true m n e)
    go (no' e) (yes' f) = higher (ltb-true n m f)
    go (no' e) (no' f) = same (le_antisymm (ltb-false n m f) (ltb-false m n e))

-- the case of the answer that names a change
abbrev naming : Change → Fit
naming (packets m) = Packets m
naming (bits b) = Bits b
naming (release j) = Release j

module _ (p : Plan) (s : Core) (o : Offer) where
  -- how two changes stand in the request's order
  data Stand (c d : Change) : Type 0 where
    ahead : Before p s c d → Stand c d
    equal : c ≡ d → Stand c d
    behind : Before p s d c → Stand c d

  -- changes of a kind whose larger number stands first
  larger_first : (kind : ℕ → Change) → ((m n : ℕ) → m < n → Before p s (kind n) (kind m)) → (m n : ℕ) → Order m n → Stand (kind m) (kind n)
  larger_first kind larger m n (lower h) = behind (larger m n h)
  larger_first kind larger m n (same e) = equal (ap kind e)
  larger_first kind larger m n (higher h) = ahead (larger n m h)

  -- nodes at the same n × c stand by their numbers, all others by n × c
  cheaper_first : (j i : ℕ) → Order (cost p s j) (cost p s i) → Order j i → Stand (release j) (release i)
  cheaper_first j i (lower h) _ = ahead (◌⊎◌.inl h)
  cheaper_first j i (higher h) _ = behind (◌⊎◌.inl h)
  cheaper_first j i (same e) (lower h) = ahead (◌⊎◌.inr (e, h))
  cheaper_first j i (same e) (same f) = equal (ap release f)
  cheaper_first j i (same e) (higher h) = behind (◌⊎◌.inr (sym e, h))

  stand : (c d : Change) → Stand c d
  stand (packets m) (packets n) = larger_first packets (λ _ _ h. omega arith) m n (order m n)
  stand (packets m) (bits b) = ahead tt
  stand (packets m) (release j) = ahead tt
  stand (bits a) (packets m) = behind tt
  stand (bits a) (bits b) = larger_first bits (λ _ _ h. omega arith) a b (order a b)
  stand (bits a) (release j) = ahead tt
  stand (release j) (packets m) = behind tt
  stand (release j) (bits b) = behind tt
  stand (release j) (release i) = cheaper_first j i (order (cost p s j) (cost p s i)) (order j i)

  module _ (Fits Fails : Change → Type 0) (apart : (c : Change) → Fits c → Fails c → ⊥) where
    -- the later one of two says that the earlier one fails, which fits
    one_first : (c d : Change) → First p s o Fits Fails c → First p s o Fits Fails d → c ≡ d
    one_first c d f g = go (stand c d)
      where
        go : Stand c d → c ≡ d
        go (ahead h) = absurd (apart c f.fits (g.before c f.possible h))
        go (equal e) = e
        go (behind h) = absurd (apart d g.fits (f.before d g.possible h))

    some_none : (c : Change) → First p s o Fits Fails c → ((d : Change) → Possible p s o d → Fails d) → ⊥
    some_none c f none = apart c f.fits (none c f.possible)

    -- what an answer is, and why: the cases of the three kinds of change are one
    data Reason (answer : ℕ) (x : Fit) : Type 0 where
      other : x ≡ Answer answer → (answer ≡ 17 → ⊥) → Reason answer x
      named : (c : Change) → x ≡ naming c → answer ≡ 17 → First p s o Fits Fails c → Reason answer x
      unnamed : x ≡ Nothing → answer ≡ 17 → ((d : Change) → Possible p s o d → Fails d) → Reason answer x

    reason : (answer : ℕ) (x : Fit) → Means p s o Fits Fails answer x → Reason answer x
    reason answer (Answer r) w = other (ap Answer w.0) w.1
    reason answer (Packets m) w = named (packets m) refl w.0 w.1
    reason answer (Bits b) w = named (bits b) refl w.0 w.1
    reason answer (Release j) w = named (release j) refl w.0 w.1
    reason answer Nothing w = unnamed refl w.0 w.1

    one_reason : {answer : ℕ} {x y : Fit} → Reason answer x → Reason answer y → x ≡ y
    one_reason (other e _) (other f _) = e ∙ sym f
    one_reason (other _ h) (named _ _ z _) = absurd (h z)
    one_reason (other _ h) (unnamed _ z _) = absurd (h z)
    one_reason (named _ _ z _) (other _ h) = absurd (h z)
    one_reason (named c e _ g) (named d f _ h) = e ∙ ap naming (one_first c d g h) ∙ sym f
    one_reason (named c _ _ g) (unnamed _ _ none) = absurd (some_none c g none)
    one_reason (unnamed _ z _) (other _ h) = absurd (h z)
    one_reason (unnamed _ _ none) (named c _ _ g) = absurd (some_none c g none)
    one_reason (unnamed e _ _) (unnamed f _ _) = e ∙ sym f

    pub only_one : (answer : ℕ) (x y : Fit) → Means p s o Fits Fails answer x → Means p s o Fits Fails answer y → x ≡ y
    only_one answer x y v w = one_reason (reason answer x v) (reason answer y w)
