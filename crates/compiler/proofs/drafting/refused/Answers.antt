-- `refused` meets its contract: the table is all zeros. Assumes nothing.
use Rattle.language.specs.Answer.{answered}
use Rattle.language.specs.Table.{zero_table}
use Rattle.compiler.proofs.Standing.{heads_default}
use Rattle.compiler.proofs.drafting.refused.Goals as goal

pub returns : goal.returns
unfolding answered zero_table
returns c = rw (heads_default c.default.result c.default.ensures)
