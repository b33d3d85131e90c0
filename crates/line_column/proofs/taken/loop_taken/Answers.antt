-- `loop_taken` meets its contract: a name and a number, both from the front. Assumes nothing.
use mathlib.Core.Path.{ap₂, ◌∙◌}
use Rattle.language.specs.Column.{further, loop_taken}
use Rattle.line_column.proofs.Agreeing.{at_front, max_is}
use Rattle.line_column.proofs.taken.loop_taken.Goals as goal

pub returns : goal.returns
unfolding loop_taken
returns c = c.max.ensures ∙ max_is _ _ ∙ ap₂ further (at_front c.alike.ensures) c.number_taken.ensures
