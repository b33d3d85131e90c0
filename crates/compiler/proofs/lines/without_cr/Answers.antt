-- `without_cr` meets its contract: each way on is a law of `Texts`. Assumes nothing.
use Rattle.std.proofs.Common.{arith}
use Rattle.compiler.proofs.Texts.{cr_dropped, cr_kept, cr_none}
use Rattle.compiler.proofs.lines.without_cr.Goals as goal

pub returns-in-13 : goal.returns-in-13
returns-in-13 c = cr_dropped c.args.line.now c.in-13.len_at_least (omega arith)

pub returns-in_default : goal.returns-in_default
returns-in_default c = cr_none c.args.line.now c.in_default.len_below

pub returns-in_default-2 : goal.returns-in_default-2
returns-in_default-2 c = cr_kept c.args.line.now c.in_default.len_at_least (λ e. omega arith)
