-- Whether a frame of f ends between two times c and t, by the start of c's frame: c / f * f.
use Prim.Native.Nat.{ℕ, ◌+◌, ◌-◌, ◌*◌, ◌/◌, ◌≤◌, ◌<◌}
use mathlib.Core.Path.{◌≡◌, sym, ◌∙◌}
use mathlib.Core.Bool.{true, false}
use native.Mathlib.Omega.{arith}
use native.Mathlib.Nat.{add-mul, div-zero, div-mul-le_self, le-div_iff_mul-le, div-lt_iff_lt-mul, lt-div-mul-add}
use lib.Dec.{ltb, leb, eqb}
use borrow.Author.Tests.{ltb-true, lt-ltb, le-ltb, leb-true, leb-false, eqb-true, eqb-false}
use Rattle.rules.proofs.Laws.Passes.{Which, which, yes', no', true-false}

module _ (f c t : ℕ) where
  pub no_frame : f ≡ 0 → false ≡ ltb (c / f) (t / f)
  no_frame e = rw (e, div-zero c, div-zero t)

  module _ (some : f ≡ 0 → ⊥) where
    -- the start of the frame behind c's
    next_start : (c / f + 1) * f ≡ c / f * f + f
    next_start = rw add-mul (omega arith)

    before-next : t < c / f * f + f → t / f ≤ c / f
    before-next h = let n = next_start in omega (arith, (div-lt_iff_lt-mul {k = f} {x = t} {y = c / f + 1} (omega arith)).1 (omega arith))

    pub behind_start : c < t → leb f (t - c / f * f) ≡ ltb (c / f) (t / f)
    behind_start l = go (which (leb f (t - c / f * f)))
      where
        go : Which (leb f (t - c / f * f)) → leb f (t - c / f * f) ≡ ltb (c / f) (t / f)
        go (yes' e) =
            let h = leb-true f (t - c / f * f) e in
            let n = next_start in
            let s = div-mul-le_self c f in
            e ∙ sym (lt-ltb (c / f) (t / f) (omega (arith, (le-div_iff_mul-le {k = f} {x = c / f + 1} {y = t} (omega arith)).1 (omega arith))))
        go (no' e) =
            let h = leb-false f (t - c / f * f) e in
            let s = div-mul-le_self c f in
            e ∙ sym (le-ltb (c / f) (t / f) (before-next (omega arith)))

    -- it is at t at the latest where c's frame ends before t or at t
    pub by_then : ltb (c / f) (t / f) ≡ true → (c / f + 1) * f ≤ t
    by_then e =
        let h = ltb-true (c / f) (t / f) e in
        (le-div_iff_mul-le {k = f} {x = c / f + 1} {y = t} (omega arith)).0 (omega arith)

  -- a frame of 0 never ends
  pub some_frame : f ≡ 0 → ltb (c / f) (t / f) ≡ true → ⊥
  some_frame e h = true-false h (sym (no_frame e))

  -- an earlier time lies in no later frame
  pub not_behind : t ≤ c → false ≡ ltb (c / f) (t / f)
  not_behind l = go (which (eqb f 0))
    where
      go : Which (eqb f 0) → false ≡ ltb (c / f) (t / f)
      go (yes' e) = no_frame (eqb-true f 0 e)
      go (no' e) =
          let some = eqb-false f 0 e in
          sym (le-ltb (c / f) (t / f) (before-next some (omega (arith, lt-div-mul-add {a = c} {b = f} (omega arith)))))
