use Prim.Native.Nat.{◌-◌}
use mathlib.Core.Path.{◌≡◌}
use mathlib.Core.Bool.{true}
use lib.ListN.{length}
use Rattle.call_list.specs.Table.{count_of, kinds_from, list_from}
use Rattle.call_list.proofs.list.Given as goal

abbrev pub invariant-loop-i : goal.invariant-loop-i
invariant-loop-i l =
    record {
      room : length l.answers ≡ length l.initial.answers;
      kinds : kinds_from l.calls l.i (count_of l.calls - l.i) ≡ true;
      made : list_from l.p l.calls 0 (count_of l.calls) l.initial.s l.initial.answers ≡ list_from l.p l.calls l.i (count_of l.calls - l.i) l.s l.answers;
    }
