-- `list` meets its contract: both tables from the start are both tables from call i on,
-- the calls from i on are each of some kind, and the answers' table keeps its length.
use Prim.Native.Nat.{◌-◌, ◌<◌}
use mathlib.Core.Path.{◌≡◌, refl, sym, ap, ◌∙◌}
use native.Mathlib.Omega.{arith}
use Rattle.std.proofs.lemmas.Result.{err_from_is_err_and}
use Rattle.call_list.specs.Table.{count_of, Listed}
use Rattle.call_list.proofs.Loops.{kinds_on, list_here, list_done}
use Rattle.call_list.proofs.Promising.{ready, not_made, all_made}
use Rattle.call_list.proofs.list.Goals as goal

pub returns-in_err-fitting : goal.returns-in_err-fitting
returns-in_err-fitting c =
    let a = c.args in
    let p = err_from_is_err_and c.from_residual.result c.from_residual.ensures.1 in
    rw (p.1, p.2) (not_made a.p.now a.s.now a.calls.now a.answers.now c.in_err-fitting.field-0.0 c.in_err-fitting.ensures)

pub loop-i-init : goal.loop-i-init
loop-i-init c =
    let a = c.args in
    let e = c.in_ok-fitting.ensures in
    let whole : count_of a.calls.now - 0 ≡ count_of a.calls.now = omega arith in
    record {
      room = refl;
      kinds = rw whole (ready a.calls.now a.answers.now (sym e)).kinds;
      made = rw whole refl;
    }

pub make-requires : goal.make-requires
make-requires c =
    let a = c.args in
    (omega arith, (kinds_on a.calls.now (count_of a.calls.now) c.loop-i.i (omega arith) c.loop-i.invariant.kinds).0)

pub put-requires : goal.put-requires
put-requires c =
    let a = c.args in
    omega (arith, (ready a.calls.now a.answers.now (sym c.in_ok-fitting.ensures)).room)

pub loop-i-preserved : goal.loop-i-preserved
loop-i-preserved c =
    let a = c.args in
    let n = count_of a.calls.now in
    let x = c.make in
    let v = c.loop-i.invariant in
    let inside : c.loop-i.i < n = omega arith in
    record {
      room = c.put.auto.answers ∙ v.room;
      kinds = (kinds_on a.calls.now n c.loop-i.i inside v.kinds).1;
      made =
          v.made ∙ list_here a.calls.now n c.loop-i.i a.p.now c.loop-i.s c.loop-i.answers inside
          ∙ rw (x.ensures.s_value, x.ensures.s_after, c.put.ensures);
    }

pub returns : goal.returns
returns c =
    let a = c.args in
    let e =
    c.loop-i.invariant.made ∙ list_done a.calls.now (count_of a.calls.now) c.loop-i.i a.p.now c.loop-i.s c.loop-i.answers (omega arith) in
    all_made a.p.now a.s.now a.calls.now a.answers.now c.loop-i.s c.loop-i.answers (sym c.in_ok-fitting.ensures)
    (ap (λ (o : Listed). o.cells) (sym e)) (ap (λ (o : Listed). o.answers) (sym e))
