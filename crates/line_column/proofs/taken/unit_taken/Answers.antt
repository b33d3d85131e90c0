-- `unit_taken` meets its contract: two names, both from the place on. Assumes nothing.
use mathlib.Core.Path.{◌∙◌}
use Rattle.language.specs.Column.{unit_taken}
use Rattle.line_column.proofs.Agreeing.{of_two}
use Rattle.line_column.proofs.taken.unit_taken.Goals as goal

pub returns : goal.returns
unfolding unit_taken
returns c = c.max.ensures ∙ of_two _ _ _ c.alike.ensures c.alike-2.ensures
