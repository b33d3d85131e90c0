-- `ex` meets its contract: each `return` is a case of `exIn`. Assumes nothing.
use mathlib.Core.Path.{sym, ◌∙◌}
use Rattle.language.specs.Meaning.{ex_in}
use Rattle.line_values.specs.Inside.Line.{line_from}
use Rattle.line_values.proofs.settings.ex.Goals as goal

pub returns-then-is_name : goal.returns-then-is_name
unfolding line_from ex_in
returns-then-is_name c = rw (sym c.is_name.ensures ∙ c.if-is_name.true)

pub returns : goal.returns
unfolding line_from ex_in
returns c = rw (sym c.is_name.ensures ∙ c.if-is_name.false)
