-- `text::digit_run` meets its contract: the bytes that pass the test, as many as were counted. Assumes nothing.
use Rattle.std.proofs.Common.{rules}
use borrow.Author.Tests.{tests}
use Rattle.std.proofs.lemmas.Iterator.{YieldsList-from_slice}
use Rattle.std.proofs.lemmas.Iterator.Consumers.{count_from_yields_List, YieldsList-at}
use Rattle.std.proofs.lemmas.Iterator.Search.{YieldsList-from_take_while}
use Rattle.text.specs.Number.{is_digit}
use Rattle.text.proofs.Run.{taken_run}
use Rattle.text.proofs.digit_run.Goals as goal

pub returns : goal.returns
returns c =
    let s = c.args.s.now in
    taken_run s c.count-count.result
    (count_from_yields_List _ _ c.count-count.ensures.ran
    (YieldsList-from_take_while _ is_digit (YieldsList-at c.take_while.ensures.source (YieldsList-from_slice s (cc)))
    c.take_while.ensures.closure c.take_while.ensures.done (λ x b q k. search (rules, tests))))
