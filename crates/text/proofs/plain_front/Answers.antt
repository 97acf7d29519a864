-- `text::plain_front` meets its contract: the blocks in front that the test lets pass. Assumes nothing.
use Rattle.std.proofs.Common.{sym, ◌∙◌, rules, ℕ, ◌/◌, length, take_all, arith}
use borrow.Author.Tests.{tests}
use Rattle.std.proofs.lemmas.Iterator.Consumers.{count_from_yields_List, YieldsList-at}
use Rattle.std.proofs.lemmas.Iterator.Search.{YieldsList-from_take_while}
use Rattle.std.proofs.lemmas.List.Folds.{length-prefix_len}
use Rattle.std.specs.Slice.Iter.{chunks_exact_rest}
use Rattle.text.proofs.Plain.{plain, blocks, blocks_given, plain_blocks}
use Rattle.text.proofs.plain_front.Goals as goal

pub returns : goal.returns
returns c =
    let r = chunks_exact_rest c.chunks_exact.result in
    let k : ℕ = length r / 8 in
    let n = count_from_yields_List _ c.count.result c.count.ensures.ran
    (YieldsList-from_take_while _ plain (YieldsList-at c.take_while.ensures.source (blocks_given c.chunks_exact.result c.chunks_exact.ensures.size))
    c.take_while.ensures.closure c.take_while.ensures.done (λ x b q k. search (rules, tests, take_all))) in
    let e = sym (n ∙ length-prefix_len plain (blocks k r)) in
    let b = plain_blocks k r (omega arith) in
    rw (e, c.chunks_exact.ensures.rest) at b
