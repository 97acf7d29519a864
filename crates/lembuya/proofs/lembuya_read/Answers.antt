-- `lembuya_read` meets its contract: what `plan::read` answers, told by its case. The
-- line is compared by `omega`, so that a wrong one is refused as a false fact.
use Prim.Native.Nat.{ℕ}
use mathlib.Core.Path.{ap, ◌∙◌}
use native.Mathlib.Omega.{arith}
use lib.ListN.{set}
use Rattle.plan_tree.specs.Part.{row_number}
use Rattle.lembuya.proofs.Laws.{taken_told, refused_told}
use Rattle.lembuya.proofs.lembuya_read.Goals as goal

pub returns-in-Ok : goal.returns-in-Ok
returns-in-Ok c =
    let x = c.in-Ok.taken in
    let e = c.in-Ok.ensures in
    let w = taken_told c.args.told.now x.nodes x.hubs x.at x.line e.value c.tell.ensures in
    record { value = w.0; plan_after = e.plan_after; told_after = w.1 }

pub returns-in-Err : goal.returns-in-Err
returns-in-Err c =
    let told = c.args.told.now in
    let x = c.in-Err.refused in
    let e = c.in-Err.ensures in
    let w = refused_told told x.line (row_number x.row) e.value in
    record {
      value = c.from-number.ensures ∙ w.0;
      plan_after = e.plan_after;
      told_after = ap (λ (n : ℕ). set told 3 n) (omega arith) ∙ w.1;
    }
