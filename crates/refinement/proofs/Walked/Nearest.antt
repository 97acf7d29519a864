-- Where control turns, over the cells: one way up the holder's line finds the hub that rules' search finds.
use Prim.Native.Nat.{ℕ, zero, suc, ◌≤◌}
use mathlib.Core.Path.{◌≡◌, sym, ap, ap₂, ◌∙◌}
use mathlib.Core.Bool.{Bool, true, false, ◌&&◌}
use mathlib.Core.List.{List}
use native.Mathlib.Omega.{arith}
use lib.Dec.{eqb}
use lib.ListN.{get_or}
use borrow.Author.Tests.{eqb-true, eqb-false}
use Rattle.std.specs.Prelude.{if◌then◌else◌}
use Rattle.rules.specs.Plan.{Plan, most_levels}
use Rattle.rules.specs.Drawn.{Drawn, Within}
use Rattle.rules.specs.Control.{Pointer, leads_to, led, nearest}
use Rattle.rules.proofs.Laws.Passes.{Which, which, yes', no'}
use Rattle.rules.proofs.Control.Cover.{hangs}
use Rattle.rules.proofs.Control.Nearest.{level_low, root_led, led_step, nearest_here, nearest_above}
use Rattle.plan.specs.Tables.{plan_of}
use Rattle.cells.specs.Layout.{pointer_cell, marked_code, class_of}
use Rattle.cells.specs.Decode.{plan_in, control_of}
use Rattle.cells.specs.Turns.{nearer_by, nearest_by}
use Rattle.refinement.specs.Kept.{Ready}
use Rattle.refinement.proofs.Walked.Pointers.{marked_here, pointer_read}
use Rattle.refinement.proofs.Walked.Steps.{if_hub_lem}

module _ (P : List ℕ) (R : Ready P) (s : List ℕ) (is_high : Bool) where
  abbrev p : Plan
  p = plan_in P

  abbrev D : Drawn p
  D = R.drawn

  abbrev pointers : ℕ → Pointer
  pointers = (control_of p s).pointer (class_of is_high)

  -- what hub g's cell says of its port q and of the nearest hub t
  abbrev nearer : ℕ → ℕ → ℕ → ℕ
  nearer g q t = nearer_by (get_or s (pointer_cell is_high g) 0) g q t

  leads_tied : (g : ℕ) → 2 ≤ g → g ≤ p.hubs → eqb (get_or s (pointer_cell is_high (p.parent g)) 0) (marked_code (p.place g)) ≡ leads_to p pointers g
  leads_tied g low up =
      sym
      (ap (λ (x : Pointer). eqb (p.place g) x.port && x.marked) (pointer_read p is_high (p.parent g) s (D.hung_parent g low up))
      ∙ marked_here (get_or s (pointer_cell is_high (p.parent g)) 0) (p.place g))

  -- from hub g up: the nearest hub passed, if every hub above g leads to it, or else the nearest one from g on
  abbrev Found : ℕ → ℕ → ℕ
  Found g t = if led p pointers most_levels g then t else nearest p pointers most_levels g

  found-led : (g t : ℕ) → led p pointers most_levels g ≡ true → Found g t ≡ t
  found-led g t e = rw e

  found_above : (g t : ℕ) → led p pointers most_levels g ≡ false → Found g t ≡ nearest p pointers most_levels g
  found_above g t e = rw e

  -- one hub more
  module _ (g t : ℕ) (low : 2 ≤ g) (up : g ≤ p.hubs) where
    abbrev h : ℕ
    h = p.parent g

    nearer_led : leads_to p pointers g ≡ true → nearer h (p.place g) t ≡ t
    unfolding nearer_by
    nearer_led i = rw (leads_tied g low up ∙ i)

    nearer_other : leads_to p pointers g ≡ false → nearer h (p.place g) t ≡ h
    unfolding nearer_by
    nearer_other i = rw (leads_tied g low up ∙ i)

    led-by : (a b : Bool) → leads_to p pointers g ≡ a → led p pointers most_levels h ≡ b → led p pointers most_levels g ≡ (a && b)
    led-by a b i e = led_step p D pointers g low up ∙ ap₂ ◌&&◌ i e

    above : led p pointers most_levels g ≡ false → nearest p pointers most_levels g ≡ nearest p pointers most_levels h
    above = nearest_above p D pointers g (record { low = omega arith; up = up })

    found_step : Found h (nearer h (p.place g) t) ≡ Found g t
    found_step = go (which (led p pointers most_levels h)) (which (leads_to p pointers g))
      where
        go : Which (led p pointers most_levels h) → Which (leads_to p pointers g) → Found h (nearer h (p.place g) t) ≡ Found g t
        go (yes' e) (yes' i) = found-led h (nearer h (p.place g) t) e ∙ nearer_led i ∙ sym (found-led g t (led-by true true i e))
        go (yes' e) (no' i) =
            let n = led-by false true i e in
            found-led h (nearer h (p.place g) t) e ∙ nearer_other i ∙ sym (found_above g t n ∙ above n ∙ nearest_here p D pointers h e)
        go (no' e) (yes' i) =
            let n = led-by true false i e in
            found_above h (nearer h (p.place g) t) e ∙ sym (found_above g t n ∙ above n)
        go (no' e) (no' i) =
            let n = led-by false false i e in
            found_above h (nearer h (p.place g) t) e ∙ sym (found_above g t n ∙ above n)

  line : (l g q t : ℕ) → Within p.hubs g → p.level g ≤ l → nearest_by P is_high l g q t s ≡ Found g (nearer g q t)
  unfolding nearest_by plan_of
  line zero g q t w u = absurd (omega (arith, level_low p D g w))
  line (suc l) g q t w u =
      if_hub_lem g (if eqb g 1 then nearer g q t else nearest_by P is_high l (p.parent g) (p.place g) (nearer g q t) s) 1
      (record { low = w.low; up = omega (arith, w.up, D.few_hubs) })
      ∙ go (line l) (which (eqb g 1))
    where
      go : ((h r v : ℕ) → Within p.hubs h → p.level h ≤ l → nearest_by P is_high l h r v s ≡ Found h (nearer h r v)) → Which (eqb g 1)
          → (if eqb g 1 then nearer g q t else nearest_by P is_high l (p.parent g) (p.place g) (nearer g q t) s) ≡ Found g (nearer g q t)
      go onward (yes' e) =
          let root : led p pointers most_levels g ≡ true = ap (led p pointers most_levels) (eqb-true g 1 e) ∙ root_led p D pointers in
          rw e (sym (found-led g (nearer g q t) root))
      go onward (no' e) =
          let low : 2 ≤ g = omega (arith, eqb-false g 1 e, w.low) in
          let hung = (hangs p D g low w.up).hung in
          rw e
          (onward (p.parent g) (p.place g) (nearer g q t) (D.hung_parent g low w.up) (omega (arith, hung.level))
          ∙ found_step g (nearer g q t) low w.up)

  -- at the holder itself the nearest hub passed is the holder
  nearer_self : (g : ℕ) → nearer g 0 g ≡ g
  unfolding nearer_by
  nearer_self g = go (which (eqb (get_or s (pointer_cell is_high g) 0) (marked_code 0)))
    where
      go : Which (eqb (get_or s (pointer_cell is_high g) 0) (marked_code 0)) → nearer g 0 g ≡ g
      go (yes' e) = rw e
      go (no' e) = rw e

  pub nearest_tied : (g : ℕ) → Within p.hubs g → nearest_by P is_high most_levels g 0 g s ≡ nearest p pointers most_levels g
  nearest_tied g w = line most_levels g 0 g w (D.few_levels g w) ∙ ap (Found g) (nearer_self g) ∙ go (which (led p pointers most_levels g))
    where
      go : Which (led p pointers most_levels g) → Found g g ≡ nearest p pointers most_levels g
      go (yes' e) = rw e (sym (nearest_here p D pointers g e))
      go (no' e) = rw e
