-- `rts_taken` meets its contract: two names, both from the front. Assumes nothing.
use mathlib.Core.Path.{ap₂, ◌∙◌}
use Rattle.language.specs.Column.{further, rts_taken}
use Rattle.line_column.proofs.Agreeing.{at_front, max_is}
use Rattle.line_column.proofs.taken.rts_taken.Goals as goal

pub returns : goal.returns
unfolding rts_taken
returns c = c.max.ensures ∙ max_is _ _ ∙ ap₂ further (at_front c.alike.ensures) (at_front c.alike-2.ensures)
