-- `rts` meets its contract: each `return` is a case of `rtsOf`. Assumes nothing.
use mathlib.Core.Path.{sym, ◌∙◌}
use Rattle.language.specs.Meaning.{rts_of}
use Rattle.language.specs.Table.{cell_for}
use Rattle.line_values.specs.Inside.Line.{line_from}
use Rattle.line_values.proofs.settings.rts.Goals as goal

pub returns-then-is_name : goal.returns-then-is_name
unfolding line_from rts_of cell_for
returns-then-is_name c = rw (sym c.is_name.ensures ∙ c.if-is_name.true)

pub returns-then-is_name-2 : goal.returns-then-is_name-2
unfolding line_from rts_of cell_for
returns-then-is_name-2 c = rw (sym c.is_name.ensures ∙ c.if-is_name.false, sym c.is_name-2.ensures ∙ c.if-is_name-2.true)

pub returns : goal.returns
unfolding line_from rts_of cell_for
returns c = rw (sym c.is_name.ensures ∙ c.if-is_name.false, sym c.is_name-2.ensures ∙ c.if-is_name-2.false)
