-- `close_loop` meets its contract: each way on is a law of `Nesting`. Assumes nothing.
use Rattle.compiler.proofs.Nesting.{closes_on, closes_stop}
use Rattle.compiler.proofs.drafting.Drafting.close_loop.Goals as goal

pub returns-then-self-eq0 : goal.returns-then-self-eq0
returns-then-self-eq0 c = closes_stop _ _ c.if-self-eq0.true

pub returns : goal.returns
returns c = closes_on _ _ c.if-self-eq0.false
