-- `wait_taken` meets its contract: the second word behind the blanks. Assumes nothing.
use mathlib.Core.Path.{◌∙◌}
use Rattle.language.specs.Column.{named_taken, waits_behind}
use Rattle.line_column.proofs.Words.{from_within, behind_blanks_lem, end_within}
use Rattle.line_column.proofs.Naming.{named_to}
use Rattle.line_column.proofs.names.wait_taken.Goals as goal

pub behind_second-requires : goal.behind_second-requires
behind_second-requires c = end_within _ _ c.word_end-to.ensures (from_within _ _ c.after_blanks-from.ensures c.requires)

pub returns : goal.returns
returns c =
    c.behind_second.ensures ∙ named_to waits_behind _ _ c.word_end-to.ensures ∙ behind_blanks_lem _ _ c.after_blanks-from.ensures
    (named_taken waits_behind)
