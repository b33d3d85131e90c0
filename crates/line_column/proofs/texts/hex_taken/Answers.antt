-- `hex_taken` meets its contract: all of the data, or up to the place that is told. Assumes nothing.
use mathlib.Core.Path.{sym, ◌∙◌}
use Rattle.line_column.proofs.Marks.{hex_all, hex_to}
use Rattle.line_column.proofs.texts.hex_taken.Goals as goal

pub returns-in-Ok : goal.returns-in-Ok
returns-in-Ok c = hex_all _ _ c.requires (sym c.in-Ok.is ∙ c.hex_count.ensures)

pub returns-in-Err : goal.returns-in-Err
returns-in-Err c = hex_to _ _ (sym c.in-Err.is ∙ c.hex_count.ensures)
