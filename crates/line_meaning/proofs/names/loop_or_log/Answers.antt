-- `loop_or_log` meets its contract: each `return` is an entry of the table. Assumes nothing.
use Rattle.language.specs.Meaning.{loop_of}
use Rattle.line_meaning.proofs.Telling.{tells_as, with_argument, no_name}
use Rattle.line_meaning.proofs.Dataless.{loop_quiet}
use Rattle.line_meaning.proofs.ByName.{loop_named, log_named, neither_l}
use Rattle.line_meaning.proofs.names.loop_or_log.Goals as goal

pub returns-then-is_name : goal.returns-then-is_name
returns-then-is_name c =
    tells_as (loop_named _ _ c.is_name.ensures c.if-is_name.true)
    (with_argument loop_of _ loop_quiet c.loop_count.ensures c.argument.ensures)

pub returns-then-is_name-2 : goal.returns-then-is_name-2
returns-then-is_name-2 c = tells_as (log_named _ _ c.is_name-2.ensures c.if-is_name-2.true) c.log.ensures

pub returns : goal.returns
returns c =
    tells_as (neither_l _ _ c.is_name.ensures c.if-is_name.false c.is_name-2.ensures
    c.if-is_name-2.false) (no_name _)
