-- `number_taken` meets its contract: the place is the number's, read or not. Assumes nothing.
use mathlib.Core.Path.{sym, ap, ◌∙◌}
use Rattle.numbers.specs.Number.{number_place}
use Rattle.language.specs.Column.{number_taken}
use Rattle.line_column.proofs.taken.number_taken.Goals as goal

pub returns-in-Ok : goal.returns-in-Ok
unfolding number_taken number_place
returns-in-Ok c = ap number_place (sym c.in-Ok.is ∙ c.number.ensures)

pub returns-in-Err : goal.returns-in-Err
unfolding number_taken number_place
returns-in-Err c = ap number_place (sym c.in-Err.is ∙ c.number.ensures)
