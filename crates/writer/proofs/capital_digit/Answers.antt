-- `capital_digit` meets its contract: each way is a case of `capital`. Assumes nothing.
use borrow.Author.Tests.{lt-ltb, le-ltb}
use Rattle.writer.specs.Hex.{capital}
use Rattle.writer.proofs.capital_digit.Goals as goal

pub returns-then-d-lt10 : goal.returns-then-d-lt10
unfolding capital
returns-then-d-lt10 c = simp (lt-ltb _ _ c.if-d-lt10.true)

pub returns-else-d-lt10 : goal.returns-else-d-lt10
unfolding capital
returns-else-d-lt10 c = simp (le-ltb _ _ c.if-d-lt10.false)
