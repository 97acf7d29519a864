-- Hub-by-hub control reads the tree of hubs: with the line and without it, it gives the same turns.
use Prim.Native.Nat.{ℕ, zero, suc, ◌-◌}
use mathlib.Core.Path.{◌≡◌, refl}
use mathlib.Core.Bool.{Bool, true, ◌&&◌}
use lib.Dec.{eqb}
use Rattle.std.specs.Prelude.{if◌then◌else◌}
use Rattle.rules.specs.Plan.{Plan, with_strict, most_levels}
use Rattle.rules.specs.Call.{Class, same, Call}
use Rattle.rules.specs.Machine.{Hub, perform}
use Rattle.rules.specs.Control.{Pointer, Control, hand_to, climb, below, lowest, walk, most_looks, leads_to, led, nearest, choose_by, rested_by, control, at_first}

module _ (b : Bool) (p : Plan) where
  same_walk : (c : Class) (f : ℕ → Bool) (looks : ℕ) (σ : Control) (moves : ℕ)
      → walk (with_strict b p) c f looks σ moves ≡ walk p c f looks σ moves
  unfolding walk lowest below
  same_walk c f looks σ moves = refl

  same-led : (P : ℕ → Pointer) (l g : ℕ) → led (with_strict b p) P l g ≡ led p P l g
  unfolding led
  same-led P zero g = refl
  same-led P (suc l) g = λ i. (if eqb g 1 then true else leads_to p P g && same-led P l (p.parent g) i)

  same-nearest : (P : ℕ → Pointer) (l g : ℕ) → nearest (with_strict b p) P l g ≡ nearest p P l g
  unfolding nearest
  same-nearest P zero g = refl
  same-nearest P (suc l) g = λ i. (if same-led P most_levels g i then g else same-nearest P l (p.parent g) i)

  same_choice : (c : Class) (f : ℕ → Bool) (σ : Control) → choose_by (with_strict b p) c f σ ≡ choose_by p c f σ
  unfolding choose_by
  same_choice c f σ =
      λ i. let up = same-nearest (σ.pointer c) most_levels σ.holder i in
      (if same c σ.latest then same_walk c f most_looks σ 0 i
      else same_walk c f most_looks (hand_to up σ) (climb p σ.holder - climb p up) i)

  -- so a call by it goes the same way, by whatever plan the call is judged
  pub same_performed : (q : Plan) (call : Call) (h : Hub Control)
      → perform q (control (with_strict b p)) call h ≡ perform q (control p) call h
  same_performed q call h =
      λ i. perform q (record { State = Control; start = at_first; choose = λ c f σ. same_choice c f σ i; rested = rested_by p }) call h
