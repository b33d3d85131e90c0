-- `lister::statements::line` meets its contract. Assumes nothing.
use Rattle.lister.proofs.Printing.{printed_more}
use Rattle.lister.proofs.statements.line.Goals as goal

pub returns : goal.returns
returns c = printed_more c.statement-next.ensures c.put.ensures
