-- `fixed_from` meets its contract: with no digits the first unit is not fixed. Assumes nothing.
use mathlib.Core.Path.{◌∙◌}
use Rattle.line_values.proofs.Clocking.{none_fixed, first_fixed}
use Rattle.line_values.proofs.clocks.fixed_from.Goals as goal

pub returns-then-digits-start : goal.returns-then-digits-start
returns-then-digits-start c = c.units.ensures ∙ none_fixed _ _ _ c.requires.unit c.if-digits-start.true

pub returns : goal.returns
returns c = c.units-2.ensures ∙ first_fixed _ _ _ c.requires.unit c.if-digits-start.false
