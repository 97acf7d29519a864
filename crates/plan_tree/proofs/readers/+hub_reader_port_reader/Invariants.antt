use Prim.Native.Nat.{◌+◌}
use Rattle.plan_tree.proofs.readers.+hub_reader_port_reader.Given as goal

abbrev pub decreases-hub_reader : goal.decreases-hub_reader
decreases-hub_reader l = l.left + l.left

abbrev pub decreases-port_reader : goal.decreases-port_reader
decreases-port_reader l = l.left + l.left + 1
