-- `requests::put_bits` meets its contract. Each return is a law of NodeLaws.
use mathlib.Core.Logic.{◌⊎◌, ⊎_elim}
use native.Mathlib.Omega.{arith}
use borrow.Author.Tests.{leb-true, leb-false}
use Rattle.requests.proofs.NodeLaws.{none_then_none, normal_off, high_off, normal_on, high_to_normal, high_on, normal_to_high}
use Rattle.requests.proofs.put_bits.Goals as goal

pub returns-then-old-lt-NORMAL : goal.returns-then-old-lt-NORMAL
returns-then-old-lt-NORMAL c =
    let a = c.args in
    none_then_none a.p.now a.node.number a.old a.x a.s.now (omega arith) (omega arith)

pub returns-then-old-lt-HIGH : goal.returns-then-old-lt-HIGH
returns-then-old-lt-HIGH c =
    let a = c.args in
    normal_off a.p.now a.node.number a.old a.x a.s.now c.put_bit.new.s (omega arith) (omega arith) (omega arith)
    c.put_bit.ensures

pub returns-then-x-lt-NORMAL : goal.returns-then-x-lt-NORMAL
returns-then-x-lt-NORMAL c =
    let a = c.args in
    high_off a.p.now a.node.number a.old a.x a.s.now c.put_bit-then-x-lt-NORMAL.new.s (omega arith) (omega arith) c.put_bit-then-x-lt-NORMAL.ensures

pub returns-then-old-lt-HIGH-2 : goal.returns-then-old-lt-HIGH-2
returns-then-old-lt-HIGH-2 c =
    let a = c.args in
    normal_on a.p.now a.node.number a.old a.x a.s.now c.put_bit-then-x-lt-HIGH.new.s (omega arith) (omega arith) (omega arith)
    c.put_bit-then-x-lt-HIGH.ensures

pub returns-then-x-lt-HIGH : goal.returns-then-x-lt-HIGH
returns-then-x-lt-HIGH c =
    let a = c.args in
    high_to_normal a.p.now a.node.number a.old a.x a.s.now c.put_bit-then-x-lt-HIGH.new.s c.put_bit-then-x-lt-HIGH-2.new.s
    c.put_bit-then-x-lt-HIGH.ensures c.put_bit-then-x-lt-HIGH-2.ensures (omega arith) (omega arith) (omega arith)

pub returns-then-old-lt-NORMAL-2 : goal.returns-then-old-lt-NORMAL-2
returns-then-old-lt-NORMAL-2 c =
    let a = c.args in
    high_on a.p.now a.node.number a.old a.x a.s.now c.put_bit-then-old-lt-NORMAL-2.new.s (omega arith)
    (⊎_elim (λ w. ◌⊎◌.inl (omega arith)) (λ w. ◌⊎◌.inr (omega (arith, leb-true))) c.then-old-lt-NORMAL-2.either) c.put_bit-then-old-lt-NORMAL-2.ensures

pub returns : goal.returns
returns c =
    let a = c.args in
    normal_to_high a.p.now a.node.number a.old a.x a.s.now c.put_bit-2.new.s c.put_bit-3.new.s
    c.put_bit-2.ensures c.put_bit-3.ensures (omega arith) (omega arith) (omega (arith, leb-false))
