-- `waits::bits_above` meets its contract: each return by the test that led there.
use borrow.Author.Tests.{lt-ltb, le-ltb}
use Rattle.waits.proofs.bits_above.Goals as goal

pub returns-then-x-least : goal.returns-then-x-least
returns-then-x-least c = simp (lt-ltb _ _ c.if-x-least.true)

pub returns : goal.returns
returns c = simp (le-ltb _ _ c.if-x-least.false)
