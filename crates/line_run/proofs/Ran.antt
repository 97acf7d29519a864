-- How one run goes on behind another.
use Rattle.std.specs.Prelude.{Option, Some, None}
use Prim.Native.Nat.{ℕ}
use mathlib.Core.Path.{◌≡◌, refl, sym}
use mathlib.Core.List.{List}
use Rattle.log_spec.specs.Cells.{Run, going_on}
use Rattle.line_run.specs.LineRun.{Ran}

pub ran_same : {x y : Run} {r : Option ℕ} {s b : List ℕ} → x ≡ y → Ran y r s b → Ran x r s b
ran_same {x} {y} {r} {s} {b} e w = rw e w

module _ (more : List ℕ → List ℕ → ℕ → Run) (x : Run) {s b : List ℕ} where
  -- going_on by the answer alone
  by-put : {p : Option ℕ} → Ran x p s b → going_on more x ≡ going_on more (record { put = p; cells = s; buffer = b })
  by-put came = λ i. going_on more (record { put = sym came.0 i; cells = sym came.1.0 i; buffer = sym came.1.1 i })

  -- behind what fitted
  pub onto : {z : ℕ} → Ran x (Some z) s b → going_on more x ≡ more s b z
  onto came = by-put came

  pub onward : {z : ℕ} → Ran x (Some z) s b → {r : Option ℕ} {s' b' : List ℕ} → Ran (more s b z) r s' b' → Ran (going_on more x) r s' b'
  onward came w = ran_same (onto came) w

  -- at what didn't
  pub halted : Ran x None s b → Ran (going_on more x) None s b
  halted came = ran_same (by-put came) (refl, (refl, refl))
