-- `start` meets its contract: the class of the latest grant says where the walk starts.
use mathlib.Core.Path.{sym, ap, ap₂, ◌∙◌}
use Prim.Native.Nat.{ℕ}
use native.Mathlib.Omega.{arith}
use Rattle.rules.specs.Control.{most_looks}
use Rattle.cells.specs.Turns.{walk_by}
use Rattle.cells.specs.declared.Turn.{Turn}
use Rattle.ports.proofs.Digits.{byte_digit}
use Rattle.control.proofs.Walks.{class_kept, class_changed}
use Rattle.control.proofs.start.Goals as goal

pub returns-then-s-high : goal.returns-then-s-high
returns-then-s-high c =
    let a = c.args in
    record {
      s_value = class_kept a.p.now a.high a.s.now (c.if-s-high.true ∙ byte_digit a.high)
          ∙ ap₂ (λ (g n : ℕ). walk_by a.p.now a.high most_looks g n a.s.now) (omega (arith, ap (λ (t : Turn). t.hub) c.nobody.ensures))
          (omega (arith, ap (λ (t : Turn). t.moves) c.nobody.ensures));
      moves_bound = omega (arith, ap (λ (t : Turn). t.moves) c.nobody.ensures);
    }

pub returns : goal.returns
returns c =
    let a = c.args in
    record {
      s_value = class_changed a.p.now a.high a.s.now (λ f. c.if-s-high.false (f ∙ sym (byte_digit a.high))) c.nearest-near.result
          c.saturating_sub-moves.result c.nearest-near.ensures (omega (arith, c.saturating_sub-moves.ensures))
          ∙ ap₂ (λ (g n : ℕ). walk_by a.p.now a.high most_looks g n a.s.now) (omega (arith, ap (λ (t : Turn). t.hub) c.nobody-2.ensures))
          (omega (arith, ap (λ (t : Turn). t.moves) c.nobody-2.ensures));
      moves_bound = omega (arith, ap (λ (t : Turn). t.moves) c.nobody-2.ensures);
    }
