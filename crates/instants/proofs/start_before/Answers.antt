-- `start_before` meets its contract. The clock's frame starts at the clock at the latest, so that start fits.
use Rattle.std.specs.Prelude.{Option}
use Prim.Native.Nat.{ℕ, ◌+◌, ◌*◌, ◌/◌, ◌≤◌}
use mathlib.Core.Path.{◌≡◌, refl, ap, ◌∙◌}
use native.Mathlib.Omega.{arith}
use native.Mathlib.Nat.{add-mul, div-mul-le_self}
use borrow.Author.Tests.{le-ltb}
use Rattle.instants.specs.Bound.{if_before}
use Rattle.instants.proofs.start_before.Goals as goal

-- n is the clock's frame
module _ (n clock frame : ℕ) (e : n ≡ clock / frame) where
  own_start : n * frame ≤ clock
  own_start = rw e (div-mul-le_self clock frame)

  behind-next : {t u : ℕ} {x : Option ℕ} → x ≡ if_before u (n * frame + frame) → u ≡ t → x ≡ if_before t ((clock / frame + 1) * frame)
  behind-next {u = u} q same = q ∙ ap (if_before u) (rw (e, add-mul) (omega arith)) ∙ ap (λ (t : ℕ). if_before t ((clock / frame + 1) * frame)) same

pub overflow_mul-start : goal.overflow_mul-start
overflow_mul-start c =
    let a = c.args in
    let h = own_start c.frame_of.result a.clock a.frame c.frame_of.ensures in
    omega arith

pub returns-in_err-checked_add : goal.returns-in_err-checked_add
returns-in_err-checked_add c =
    let a = c.args in
    let next = c.frame_of.result * a.frame + a.frame in
    let above = c.in_err-checked_add.ensures in
    behind-next c.frame_of.result a.clock a.frame c.frame_of.ensures (rw (le-ltb next a.t (omega arith)) c.from_residual.ensures) refl

pub returns : goal.returns
returns c =
    let a = c.args in
    behind-next c.frame_of.result a.clock a.frame c.frame_of.ensures (rw c.in_ok-checked_add.ensures.1 at c.if_before.ensures) (omega arith)
