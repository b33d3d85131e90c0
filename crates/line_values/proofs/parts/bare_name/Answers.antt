-- `bare_name` meets its contract: each `return` is a case of `bare_line`. Assumes nothing.
use mathlib.Core.Path.{sym, ◌∙◌}
use Rattle.line_values.specs.Inside.Bare.{bare_line}
use Rattle.line_values.proofs.parts.bare_name.Goals as goal

pub returns-then-not-is_name : goal.returns-then-not-is_name
unfolding bare_line
returns-then-not-is_name c = rw (sym c.is_name.ensures ∙ c.if-not-is_name.true)

pub returns-then-not-only_blanks : goal.returns-then-not-only_blanks
unfolding bare_line
returns-then-not-only_blanks c = rw (sym c.is_name.ensures ∙ c.if-not-is_name.false, sym c.only_blanks.ensures ∙ c.if-not-only_blanks.true)

pub returns : goal.returns
unfolding bare_line
returns c = rw (sym c.is_name.ensures ∙ c.if-not-is_name.false, sym c.only_blanks.ensures ∙ c.if-not-only_blanks.false)
