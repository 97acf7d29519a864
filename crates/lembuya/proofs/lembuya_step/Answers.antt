-- `lembuya_step` meets its contract: what is stored of a step that `hub::step` makes; where it refuses, nothing.
use Prim.Native.Nat.{ℕ}
use mathlib.Core.Path.{◌≡◌, ap, ◌∙◌}
use mathlib.Core.List.{List}
use native.Mathlib.Omega.{arith}
use Rattle.cells.specs.Step.{refusal_number}
use Rattle.call_list.specs.declared.Seven as code
use Rattle.call_list.specs.Table.{told_seven, put_seven}
use Rattle.lembuya.proofs.Laws.{stepped, refused_step}
use Rattle.lembuya.proofs.lembuya_step.Goals as goal

-- what is stored of an answer, by the value of its number
numbered : (x : code.Seven) (answer : List ℕ) {n : ℕ} {w : List ℕ}
    → w ≡ put_seven 0 (record { number = n; time = x.time; node = x.node; class = x.class; end = x.end; moves = x.moves; wait = x.wait }) answer
    → n ≡ x.number → w ≡ put_seven 0 (told_seven x) answer
numbered x answer e same =
    e ∙ ap (λ (n : ℕ). put_seven 0 (record { number = n; time = x.time; node = x.node; class = x.class; end = x.end; moves = x.moves; wait = x.wait }) answer) same

pub returns-in-Ok : goal.returns-in-Ok
returns-in-Ok c =
    let e = c.in-Ok.ensures in
    let told = stepped c.in-Ok.step c.args.answer.now c.from-seven.ensures e.0 in
    record {
      value = omega (arith, told.0);
      answer_after = numbered c.from-seven.result c.args.answer.now c.put_seven.ensures (omega arith) ∙ told.1;
      s_after = e.1;
    }

pub returns-in-Err : goal.returns-in-Err
returns-in-Err c =
    let e = c.in-Err.ensures in
    let told = refused_step (refusal_number c.in-Err.refusal) c.args.answer.now e.0 in
    record { value = c.from.ensures ∙ told.0; answer_after = told.1; s_after = e.1 }
