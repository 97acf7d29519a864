-- `kinds` meets its contract: each call's kind is tested in its turn.
use Rattle.std.proofs.Common.{get_or, sym, ◌∙◌, ◌*◌, refl, arith, rules, tests}
use Rattle.std.proofs.lemmas.Iterator.{YieldsList-from_range, serves_from_Range}
use Rattle.std.proofs.lemmas.Iterator.Search.{all_from_yields_List}
use Rattle.call_list.specs.Table.{count_of, is_kind}
use Rattle.call_list.proofs.Loops.{kinds_all}
use Rattle.call_list.proofs.kinds.Goals as goal

pub all-requires : goal.all-requires
all-requires c = record { can = tt; finite = tt; callable = serves_from_Range (λ x q k. search (rules, tests)) (λ x low high. search rules) }

pub returns : goal.returns
returns c =
    let cs = c.args.calls.now in
    all_from_yields_List (λ i. is_kind (get_or cs (i * 5) 0)) _ _ c.all.result c.all.ensures.ran
    (YieldsList-from_range 0 (count_of cs) (count_of cs) refl (omega arith)) (λ x b q k. search (rules, tests))
    ∙ sym (kinds_all cs 0 (count_of cs))
