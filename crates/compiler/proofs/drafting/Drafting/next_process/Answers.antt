-- `next_process` meets its contract: each way on is a law of `Beginning`. Assumes nothing.
use Rattle.std.proofs.Common.{arith}
use Rattle.compiler.proofs.Beginning.{next_on, next_stop}
use Rattle.compiler.proofs.drafting.Drafting.next_process.Goals as goal

pub returns-then-at-ge-PROCESSES : goal.returns-then-at-ge-PROCESSES
returns-then-at-ge-PROCESSES c = next_stop _ c.args.self.now (omega (arith, c.from-at.ensures))

pub returns : goal.returns
returns c = rw c.from-at.ensures (next_on _ c.args.self.now (omega (arith, c.from-at.ensures)))
