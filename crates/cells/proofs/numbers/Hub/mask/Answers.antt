-- `Hub::mask` meets its contract: the number of the class is 0 or 1.
use mathlib.Core.Path.{ap}
use native.Mathlib.Omega.{arith}
use Rattle.cells.specs.Layout.{hub_cell}
use Rattle.ports.proofs.Digits.{byte_digit, byte_below_2}
use Rattle.cells.proofs.numbers.Hub.mask.Goals as goal

pub overflow_add-result-2 : goal.overflow_add-result-2
overflow_add-result-2 c = record { fits = omega (arith, byte_below_2 c.args.high) }

pub returns : goal.returns
returns c = record {
  value = ap (hub_cell c.args.self.number) (byte_digit c.args.high);
  upper_bound = omega (arith, byte_below_2 c.args.high);
}
