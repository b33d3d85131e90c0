-- `open_loop` meets its contract: each way on is a law of `Nesting`. Assumes nothing.
use Rattle.std.proofs.Common.{arith}
use Rattle.compiler.proofs.Nesting.{opens_on, opens_stop}
use Rattle.compiler.proofs.drafting.Drafting.open_loop.Goals as goal

pub returns-then-at-ge-LOOPS : goal.returns-then-at-ge-LOOPS
returns-then-at-ge-LOOPS c = opens_stop _ c.args.self.now (omega (arith, c.from-at.ensures))

pub returns : goal.returns
returns c = rw c.from-at.ensures (opens_on _ c.args.self.now (omega (arith, c.from-at.ensures)))
