-- `of_four` meets its contract: each `return` is an entry of the table. Assumes nothing.
use Rattle.language.specs.Meaning.{time_of, byte_of}
use Rattle.line_meaning.proofs.Telling.{tells_as, with_argument, no_name}
use Rattle.line_meaning.proofs.Dataless.{time_quiet, byte_quiet}
use Rattle.line_meaning.proofs.ByName.{time_named, data_named, byte_named, none_of_four}
use Rattle.line_meaning.proofs.waits.of_four.Goals as goal

pub returns-then-is_name : goal.returns-then-is_name
returns-then-is_name c =
    tells_as (time_named _ _ c.is_name.ensures c.if-is_name.true)
    (with_argument time_of _ time_quiet c.wait_time.ensures c.argument.ensures)

pub returns-then-is_name-2 : goal.returns-then-is_name-2
returns-then-is_name-2 c = tells_as (data_named _ _ c.is_name-2.ensures c.if-is_name-2.true) c.wait_data.ensures

pub returns-then-is_name-3 : goal.returns-then-is_name-3
returns-then-is_name-3 c =
    tells_as (byte_named _ _ c.is_name-3.ensures c.if-is_name-3.true)
    (with_argument byte_of _ byte_quiet c.wait_byte.ensures c.argument-then-is_name-3.ensures)

pub returns : goal.returns
returns c =
    tells_as (none_of_four _ _ c.is_name.ensures c.if-is_name.false c.is_name-2.ensures
    c.if-is_name-2.false c.is_name-3.ensures c.if-is_name-3.false) (no_name _)
