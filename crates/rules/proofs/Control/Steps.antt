-- One look of the walk: what it comes to, by what the holder finds. And what a change of a pointer of one class changes.
use Prim.Native.Nat.{ℕ, suc, ◌+◌, ◌≤◌}
use mathlib.Core.Path.{◌≡◌, refl, ◌∙◌}
use mathlib.Core.Bool.{Bool, true, false, ◌&&◌}
use native.Mathlib.Omega.{arith}
use lib.Dec.{eqb}
use borrow.Author.Tests.{eq-eqb, ne_eqb}
use Rattle.rules.specs.Plan.{Plan, node, hub}
use Rattle.rules.specs.Call.{Class, normal, high, same}
use Rattle.rules.specs.Control.{Pointer, Control, at_port, marking, lowest, point, hand_to, granted, up, walk}
use Rattle.rules.proofs.Laws.Passes.{true-false}

pub same_self : (c : Class) → same c c ≡ true
same_self normal = refl
same_self high = refl

pub same-eq : (d c : Class) → same d c ≡ true → d ≡ c
same-eq normal normal e = refl
same-eq normal high e = absurd (true-false e refl)
same-eq high normal e = absurd (true-false e refl)
same-eq high high e = refl

-- the pointers of every class but c are the same in both
pub record Others (c : Class) (A B : Class → ℕ → Pointer) : Type 0 where
  pub kept : (d : Class) → same d c ≡ false → B d ≡ A d

pub others_none : (c : Class) (A : Class → ℕ → Pointer) → Others c A A
others_none c A = record { kept = λ d e. refl }

pub point_others : (c : Class) (g : ℕ) (v : Pointer) (σ : Control) → Others c σ.pointer (point c g v σ).pointer
point_others c g v σ = record { kept = λ d e. rw e }

pub others_trans : {c : Class} {A B C : Class → ℕ → Pointer} → Others c A B → Others c B C → Others c A C
others_trans a b = record { kept = λ d e. b.kept d e ∙ a.kept d e }

-- hub h at port q is entered afresh, or resumed
abbrev pub entered : Class → ℕ → ℕ → Control → Control
entered c q h σ = hand_to h (point c h (at_port 1) (point c σ.holder (marking q) σ))

abbrev pub resumed : Class → ℕ → ℕ → Control → Control
resumed c q h σ = hand_to h (point c σ.holder (marking q) σ)

-- port q was the pointer's own and was marked
abbrev pub own : Class → ℕ → Control → Bool
own c q σ = eqb q (σ.pointer c σ.holder).port && (σ.pointer c σ.holder).marked

and_no : (a : Bool) → (a && false) ≡ false
and_no true = refl
and_no false = refl

pub own_unmarked : (c : Class) (q r : ℕ) (σ : Control) → σ.pointer c σ.holder ≡ at_port q → own c r σ ≡ false
own_unmarked c q r σ e = rw e (and_no (eqb r q))

pub own_other : (c : Class) (q r : ℕ) (σ : Control) → σ.pointer c σ.holder ≡ marking q → (r ≡ q → ⊥) → own c r σ ≡ false
own_other c q r σ e n = rw (e, ne_eqb r q n)

pub own_marked : (c : Class) (q : ℕ) (σ : Control) → σ.pointer c σ.holder ≡ marking q → own c q σ ≡ true
own_marked c q σ e = rw (e, eq-eqb q q refl)

module _ (p : Plan) (c : Class) (f : ℕ → Bool) (n : ℕ) (σ : Control) (m : ℕ) where
  abbrev Lowest : ℕ → Type 0
  Lowest q = lowest p f σ.holder (σ.pointer c σ.holder).port ≡ q

  pub walk_node : (q k : ℕ) → Lowest q → 1 ≤ q → p.port σ.holder q ≡ node k
      → walk p c f (suc n) σ m ≡ record { node = k; state = granted c (point c σ.holder (at_port (q + 1)) σ); moves = m }
  unfolding walk
  walk_node q k e l i = rw (e, ne_eqb q 0 (λ z. omega arith), i)

  pub walk_afresh : (q h : ℕ) → Lowest q → 1 ≤ q → p.port σ.holder q ≡ hub h → own c q σ ≡ false
      → walk p c f (suc n) σ m ≡ walk p c f n (entered c q h σ) (m + 1)
  unfolding walk
  walk_afresh q h e l i o = rw (e, ne_eqb q 0 (λ z. omega arith), i, o)

  pub walk_resume : (q h : ℕ) → Lowest q → 1 ≤ q → p.port σ.holder q ≡ hub h → own c q σ ≡ true
      → walk p c f (suc n) σ m ≡ walk p c f n (resumed c q h σ) (m + 1)
  unfolding walk
  walk_resume q h e l i o = rw (e, ne_eqb q 0 (λ z. omega arith), i, o)

  pub walk_round : Lowest 0 → σ.holder ≡ 1 → walk p c f (suc n) σ m ≡ walk p c f n (point c 1 (at_port 1) σ) m
  unfolding walk
  walk_round e r = rw (e, eq-eqb σ.holder 1 r)

  pub walk_up : Lowest 0 → (σ.holder ≡ 1 → ⊥) → walk p c f (suc n) σ m ≡ walk p c f n (up p c σ) (m + 1)
  unfolding walk
  walk_up e r = rw (e, ne_eqb σ.holder 1 r)
