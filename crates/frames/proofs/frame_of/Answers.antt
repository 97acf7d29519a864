-- `frames::frame_of` meets its contract. A quotient by 0 is 0.
use mathlib.Core.Path.{sym, ap, ◌∙◌}
use Prim.Native.Nat.{ℕ, ◌/◌}
use native.Mathlib.Nat.{div-zero}
use Rattle.frames.proofs.frame_of.Goals as goal

pub returns-then-frame-eq0 : goal.returns-then-frame-eq0
returns-then-frame-eq0 c = let a = c.args in sym (ap (λ (f : ℕ). a.t / f) c.if-frame-eq0.true ∙ div-zero a.t)
