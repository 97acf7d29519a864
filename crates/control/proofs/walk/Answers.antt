-- `walk` meets its contract. Each return is a law of Walks, by what the look answered.
use mathlib.Core.Path.{refl, sym, ◌∙◌}
use Prim.Native.Nat.{◌-◌, ◌+◌}
use native.Mathlib.Omega.{arith}
use Rattle.rules.specs.Control.{most_looks}
use Rattle.control.proofs.Walks.{turned, walk_over, walk_beyond, walk_grants, walk_passes, walk_rounds, walk_stops}
use Rattle.control.proofs.walk.Goals as goal
use Rattle.control.proofs.walk.Goals.{in-Pass, in-Round}

pub loop-init : goal.loop-init
loop-init c = record { same = refl; few = omega arith }

pub returns-in_default : goal.returns-in_default
returns-in_default c =
    let a = c.args in
    let o = c.loop in
    let e = turned (o.invariant.same ∙ walk_beyond a.p.now a.high (most_looks - o.counter) o.g o.moves o.s (most_looks - (o.counter + 1)) (omega arith) c.in_default.ensures) in
    record { value = c.nobody.ensures ∙ e.0; s_after = e.1 }

pub returns-in-Node : goal.returns-in-Node
returns-in-Node c =
    let a = c.args in
    let o = c.loop in
    let e =
    turned (o.invariant.same
    ∙ walk_grants a.p.now a.high (most_looks - o.counter) o.g o.moves o.s (most_looks - (o.counter + 1)) (omega arith) (omega arith) (omega arith)
    c.look.new.s (rw c.in-Some.ensures at c.in-Node.ensures.s_after) c.in-Node.k (sym (rw c.in-Some.ensures at c.in-Node.ensures.value))) in
    record { value = e.0; s_after = e.1 }

pub overflow_add-moves : goal.overflow_add-moves
overflow_add-moves c = omega (arith, c.requires)

pub loop-preserved : goal.loop-preserved
loop-preserved c =
    let a = c.args in
    let o = c.loop in
    elim c.match-look.branch [
      | in-Pass w ↦ record {
        same = rw (w.g-is, w.moves-is) (o.invariant.same
            ∙ walk_passes a.p.now a.high (most_looks - o.counter) o.g o.moves o.s (most_looks - (o.counter + 1)) (omega arith) (omega arith) (omega arith)
            c.look.new.s (rw c.in-Some.ensures at w.in-Pass.ensures.s_after) w.in-Pass.h (sym (rw c.in-Some.ensures at w.in-Pass.ensures.value)));
        few = omega arith;
      }
      | in-Round w ↦ record {
        same = rw (w.g-is, w.moves-is) (o.invariant.same
            ∙ walk_rounds a.p.now a.high (most_looks - o.counter) o.g o.moves o.s (most_looks - (o.counter + 1)) (omega arith) (omega arith) (omega arith)
            c.look.new.s (rw c.in-Some.ensures at w.in-Round.ensures.s_after) (sym (rw c.in-Some.ensures at w.in-Round.ensures.value)));
        few = omega arith;
      }
    ]

pub returns-in-Stop : goal.returns-in-Stop
returns-in-Stop c =
    let a = c.args in
    let o = c.loop in
    let e = turned (o.invariant.same
    ∙ walk_stops a.p.now a.high (most_looks - o.counter) o.g o.moves o.s (most_looks - (o.counter + 1)) (omega arith) (omega arith) (omega arith)
    c.look.new.s (rw c.in-Some.ensures at c.in-Stop.ensures.s_after) (sym (rw c.in-Some.ensures at c.in-Stop.ensures.value))) in
    record { value = c.nobody-in-Stop.ensures ∙ e.0; s_after = e.1 }

pub returns : goal.returns
returns c =
    let a = c.args in
    let o = c.loop in
    let e = turned (o.invariant.same ∙ walk_over a.p.now a.high (most_looks - o.counter) o.g o.moves o.s (omega arith)) in
    record { value = c.nobody-2.ensures ∙ e.0; s_after = e.1 }
