-- `ports::put_port` meets its contract.
use mathlib.Core.Path.{◌≡◌, ap, ◌∙◌}
use mathlib.Core.Logic.{⊎_elim}
use Prim.Native.Nat.{ℕ, suc, ◌-◌}
use native.Mathlib.Omega.{arith}
use borrow.Author.Tests.{ltb-false}
use Rattle.ports.specs.Ports.{put_port}
use Rattle.ports.specs.Mask.{shows, mask_of}
use Rattle.ports.proofs.Changing.{put_port_lem, put_no_port}
use Rattle.ports.proofs.put_port.Goals as goal

pub returns-then-port-lt1 : goal.returns-then-port-lt1
returns-then-port-lt1 c =
    let a = c.args in
    put_no_port 32 a.mask a.port a.shown c.ranges.mask.fits
    (⊎_elim (λ w. omega arith) (λ w. omega arith) c.then-port-lt1.either)

pub overflow_shl-bit : goal.overflow_shl-bit
overflow_shl-bit c = omega (arith, ltb-false)

pub overflow_shl-result : goal.overflow_shl-result
overflow_shl-result c = omega (arith, ltb-false)

pub returns : goal.returns
returns c =
    let a = c.args in
    let e : suc (a.port - 1) ≡ a.port = omega arith in
    put_port_lem 32 a.mask (a.port - 1) a.shown c.ranges.mask.fits (omega (arith, ltb-false))
    ∙ ap (λ (p : ℕ). mask_of (put_port (shows a.mask) p a.shown)) e
