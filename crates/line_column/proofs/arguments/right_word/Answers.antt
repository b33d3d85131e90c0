-- `right_word` meets its contract: the reader tells a line or a fault. Assumes nothing.
use mathlib.Core.Path.{ap, ◌∙◌}
use Rattle.std.specs.Prelude.{is_ok}
use Rattle.line_column.proofs.Faults.{told_faultless}
use Rattle.line_column.proofs.arguments.right_word.Goals as goal

pub returns : goal.returns
returns c = c.is_ok.ensures.value ∙ ap is_ok c.word_read.ensures ∙ told_faultless _
