-- `pause_or_process` meets its contract: the two names differ in their length. Assumes nothing.
use mathlib.Core.Path.{refl}
use Rattle.language.specs.Table.{cell_for}
use Rattle.line_values.specs.Inside.Line.{line_from}
use Rattle.line_meaning.proofs.WithoutData.{pause_named, process_named}
use Rattle.line_meaning.proofs.naming.pause_or_process.Goals as goal

pub returns-then-word-eq6 : goal.returns-then-word-eq6
unfolding line_from cell_for
returns-then-word-eq6 c = pause_named _ _ c.if-word-eq6.true refl c.bare_name.ensures

pub returns : goal.returns
unfolding line_from
returns c = process_named _ _ c.if-word-eq6.false refl c.bare_name-2.ensures
