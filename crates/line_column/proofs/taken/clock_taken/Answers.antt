-- `clock_taken` meets its contract: all of the word, or up to the place that is told. Assumes nothing.
use mathlib.Core.Path.{sym, ◌∙◌}
use Rattle.language.specs.Column.{clock_taken}
use Rattle.line_column.proofs.Clocked.{clock_whole, clock_bad}
use Rattle.line_column.proofs.taken.clock_taken.Goals as goal

pub returns-in-Ok : goal.returns-in-Ok
unfolding clock_taken
returns-in-Ok c = clock_whole _ _ (sym c.in-Ok.is ∙ c.clock_value.ensures)

pub returns-in-Err : goal.returns-in-Err
unfolding clock_taken
returns-in-Err c = clock_bad _ _ (sym c.in-Err.is ∙ c.clock_value.ensures)
