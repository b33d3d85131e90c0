-- `time_taken` meets its contract: the unit from the number's place on. Assumes nothing.
use mathlib.Core.Path.{◌∙◌}
use Rattle.line_column.proofs.Agreeing.{unit_behind}
use Rattle.line_column.proofs.taken.time_taken.Goals as goal

pub returns : goal.returns
returns c = c.unit_taken.ensures ∙ unit_behind _ c.number_taken.ensures
