-- `line_taken` meets its contract: each `return` is a case of `lineTaken`. Assumes nothing.
use mathlib.Core.Path.{◌∙◌}
use native.Mathlib.Omega.{arith}
use Rattle.line_column.proofs.Words.{end_within}
use Rattle.line_column.proofs.Lines.{no_line, hex_line, named_line}
use Rattle.line_column.proofs.line_taken.Goals as goal

pub returns-then-line-eq0 : goal.returns-then-line-eq0
returns-then-line-eq0 c = no_line _ c.if-line-eq0.true

pub returns-then-line-eq58 : goal.returns-then-line-eq58
returns-then-line-eq58 c = c.hex_taken.ensures ∙ hex_line _ c.if-line-eq0.false c.if-line-eq58.true

pub behind_name-requires : goal.behind_name-requires
behind_name-requires c = end_within _ _ c.word_end-to.ensures (omega arith)

pub returns : goal.returns
returns c = c.behind_name.ensures ∙ named_line _ c.if-line-eq0.false c.if-line-eq58.false c.word_end-to.ensures
