-- `frames::class_then` meets its contract: each way through the tests is a law of Reclassing.
use native.Mathlib.Omega.{arith}
use Rattle.frames.proofs.Reclassing.{stays_normal, unreserved_normal, longer_normal, stays_high}
use Rattle.frames.proofs.class_then.Goals as goal
use Rattle.frames.proofs.class_then.Goals.{then-x-lt-HIGH-via-then-x-lt-HIGH as short, then-x-lt-HIGH-via-else-x-lt-HIGH+then-share-lt-HALF as unreserved, then-x-lt-HIGH-via-else-x-lt-HIGH+else-share-lt-HALF+then-share-x as longer}

pub returns-then-x-lt-HIGH : goal.returns-then-x-lt-HIGH
returns-then-x-lt-HIGH c =
    let a = c.args in
    record {
      half_value = elim c.then-x-lt-HIGH.branch [
        | short w ↦ stays_normal a.share a.x (omega arith) w.if-x-lt-HIGH.true
        | unreserved w ↦ unreserved_normal a.share a.x w.if-x-lt-HIGH.false w.if-share-lt-HALF.true
        | longer w ↦ longer_normal a.share a.x w.if-x-lt-HIGH.false w.if-share-lt-HALF.false w.if-share-x.true
      ];
      upper_bound = omega arith;
    }

pub returns : goal.returns
returns c =
    let a = c.args in
    record { half_value = stays_high a.share a.x c.if-x-lt-HIGH.false c.if-share-lt-HALF.false c.if-share-x.false; upper_bound = omega arith }
