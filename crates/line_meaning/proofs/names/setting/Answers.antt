-- `setting` meets its contract: each `return` is an entry of the table. Assumes nothing.
use Rattle.language.specs.Meaning.{lfext_of, encode_of, stopbits_of}
use Rattle.line_meaning.proofs.Telling.{tells_as, quiet, with_argument, no_name}
use Rattle.line_meaning.proofs.Dataless.{lfext_quiet, encode_quiet, stopbits_quiet}
use Rattle.line_meaning.proofs.ByName.{ex_long, ex_dataless, omit_named, lfext_named, encode_named, stopbits_named, no_setting}
use Rattle.line_meaning.proofs.names.setting.Goals as goal

pub returns-then-word-eq6 : goal.returns-then-word-eq6
returns-then-word-eq6 c = tells_as (ex_long _ _ c.if-word-eq6.true) (quiet c.only_ex.ensures (ex_dataless _ _))

pub returns-then-is_name : goal.returns-then-is_name
returns-then-is_name c = tells_as (omit_named _ _ c.is_name.ensures c.if-is_name.true) c.omit.ensures

pub returns-then-is_name-2 : goal.returns-then-is_name-2
returns-then-is_name-2 c =
    tells_as (lfext_named _ _ c.is_name-2.ensures c.if-is_name-2.true)
    (with_argument lfext_of _ lfext_quiet c.lfext.ensures c.argument.ensures)

pub returns-then-is_name-3 : goal.returns-then-is_name-3
returns-then-is_name-3 c =
    tells_as (encode_named _ _ c.is_name-3.ensures c.if-is_name-3.true)
    (with_argument encode_of _ encode_quiet c.encode.ensures c.argument-then-is_name-3.ensures)

pub returns-then-is_name-4 : goal.returns-then-is_name-4
returns-then-is_name-4 c =
    tells_as (stopbits_named _ _ c.is_name-4.ensures c.if-is_name-4.true)
    (with_argument stopbits_of _ stopbits_quiet c.stopbits.ensures c.argument-then-is_name-4.ensures)

pub returns : goal.returns
returns c =
    tells_as (no_setting _ _ c.if-word-eq6.false c.is_name.ensures c.if-is_name.false
    c.is_name-2.ensures c.if-is_name-2.false c.is_name-3.ensures c.if-is_name-3.false
    c.is_name-4.ensures c.if-is_name-4.false) (no_name _)
