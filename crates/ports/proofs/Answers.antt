-- What a count up the ports answers, and that nothing else fits: the facts that decide it, over the count n.
use Rattle.std.specs.Prelude.{Option, Some, None}
use mathlib.Core.Path.{◌≡◌, refl, sym, ap, ap₂, ◌∙◌}
use mathlib.Core.Bool.{Bool, true, false, true≢false}
use mathlib.Core.Logic.{◌⊎◌, inl, inr}
use Prim.Native.Nat.{ℕ, zero, suc, ◌+◌, ◌≤◌, ◌<◌}
use native.Mathlib.Nat.{eq-or-lt_of_le}
use native.Mathlib.Omega.{arith}
use Rattle.ports.specs.Search.{first_of, or_else}

-- no port from q up to, not including, e is in f
abbrev pub NoneIn : (ℕ → Bool) → ℕ → ℕ → Type 0
NoneIn f q e = (x : ℕ) → q ≤ x → x < e → f x ≡ false

none_before : (f : ℕ → Bool) (q e : ℕ) → f q ≡ false → NoneIn f (suc q) e → NoneIn f q e
none_before f q e here more x l h = go (eq-or-lt_of_le l)
  where
    go : (q ≡ x) ⊎ (q < x) → f x ≡ false
    go (inl s) = ap f (sym s) ∙ here
    go (inr s) = more x s h

-- what makes an answer right, of the n ports from q on
pub record First (f : ℕ → Bool) (q e p : ℕ) : Type 0 where
  pub from : q ≤ p
  pub within : p < e
  pub member : f p ≡ true
  pub least : NoneIn f q p

abbrev pub Answers : (ℕ → Bool) → ℕ → ℕ → Option ℕ → Type 0
Answers f q e (Some p) = First f q e p
Answers f q e None = NoneIn f q e

pub first_answers : (n : ℕ) (f : ℕ → Bool) (q e : ℕ) → e ≡ q + n → Answers f q e (first_of n f q)
unfolding first_of
first_answers zero f q e s = λ x l h. absurd (omega arith)
first_answers (suc n) f q e s = go (f q) refl (first_of n f (suc q)) (first_answers n f (suc q) e (omega arith))
  where
    go : (b : Bool) → f q ≡ b → (r : Option ℕ) → Answers f (suc q) e r → Answers f q e (or_else b (Some q) r)
    go true here r a = record { from = omega arith; within = omega arith; member = here; least = λ x l h. absurd (omega arith) }
    go false here (Some p) a =
        record { from = omega arith; within = a.within; member = a.member; least = none_before f q p here a.least }
    go false here None a = none_before f q e here a

missed : (f : ℕ → Bool) (q e p : ℕ) → f p ≡ true → q ≤ p → p < e → NoneIn f q e → ⊥
missed f q e p m l h none = true≢false (sym m ∙ none p l h)

-- two right answers are the same
pub answers_agree : (f : ℕ → Bool) (q e : ℕ) (r s : Option ℕ) → Answers f q e r → Answers f q e s → r ≡ s
answers_agree f q e (Some p) (Some p') a b =
    let no : p < p' → ⊥ = λ h. missed f q p' p a.member a.from h b.least in
    let no' : p' < p → ⊥ = λ h. missed f q p p' b.member b.from h a.least in
    ap Some (omega arith)
answers_agree f q e (Some p) None a b = absurd (missed f q e p a.member a.from a.within b)
answers_agree f q e None (Some p) a b = absurd (missed f q e p b.member b.from b.within a)
answers_agree f q e None None a b = refl

-- the same ports, the same answer
pub first_cong : (n : ℕ) (f g : ℕ → Bool) (q : ℕ) → ((p : ℕ) → q ≤ p → p < q + n → f p ≡ g p) → first_of n f q ≡ first_of n g q
unfolding first_of
first_cong zero f g q e = refl
first_cong (suc n) f g q e =
    ap₂ (λ (b : Bool) (rest : Option ℕ). or_else b (Some q) rest) (e q (omega arith) (omega arith))
    (first_cong n f g (suc q) (λ p l h. e p (omega arith) (omega arith)))
