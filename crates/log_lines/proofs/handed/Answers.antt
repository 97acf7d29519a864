-- `log_lines::handed` meets its contract: the front up to the limit, or the whole of a text within it. Assumes nothing.
use mathlib.Core.Path.{◌≡◌, ap, ◌∙◌}
use Prim.Native.Nat.{ℕ, min}
use native.Mathlib.Omega.{arith}
use lib.ListN.{length, take}
use Rattle.std.proofs.lemmas.List.{take_min}
use Rattle.log_lines.specs.Handed.{limit, handed}
use Rattle.log_lines.proofs.handed.Goals as goal

pub returns : goal.returns
unfolding handed
returns c =
    let text = c.args.text.now in
    let count : c.min.result ≡ min limit (length text) = omega (arith, c.min.ensures) in
    ap (λ (n : ℕ). take n text) count ∙ take_min limit text
