-- `frames::loads` meets its contract: the sum over the cells is that over the latest reservations.
use native.Mathlib.Omega.{arith}
use Prim.Native.Nat.{◌≤◌}
use Rattle.frames.proofs.Sums.{cell_small, no_load, one_load_more, latest_loads}
use Rattle.frames.proofs.loads.Goals as goal

pub loop-at-init : goal.loop-at-init
loop-at-init c = record { value = no_load _ _ 0; upper_bound = omega arith }

-- a load's parts fit 32 bits, and so it is small
pub overflow_add-all : goal.overflow_add-all
overflow_add-all c =
    let b : c.load-all.result ≤ 1125899906842624 = cell_small _ _ _ _ _ c.fits-p c.fits-s c.load-all.ensures in
    omega arith

pub loop-at-preserved : goal.loop-at-preserved
loop-at-preserved c =
    let a = c.args in
    let l = c.loop-at in
    let b : c.load-all.result ≤ 1125899906842624 = cell_small _ _ _ _ _ c.fits-p c.fits-s c.load-all.ensures in
    record {
      value = one_load_more a.p.now a.s.now l.at l.all _ _ l.invariant.value (omega arith) c.load-all.ensures;
      upper_bound = omega arith;
    }

pub returns : goal.returns
returns c =
    let a = c.args in
    let l = c.loop-at in
    record { value = latest_loads a.p.now a.s.now l.at _ (omega arith) l.invariant.value; upper_bound = omega arith }
