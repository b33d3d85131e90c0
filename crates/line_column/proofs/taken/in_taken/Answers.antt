-- `in_taken` meets its contract: IN from the front. Assumes nothing.
use Rattle.language.specs.Column.{in_taken}
use Rattle.line_column.proofs.Agreeing.{at_front}
use Rattle.line_column.proofs.taken.in_taken.Goals as goal

pub returns : goal.returns
unfolding in_taken
returns c = at_front c.alike.ensures
