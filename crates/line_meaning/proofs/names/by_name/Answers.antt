-- `by_name` meets its contract: the table is parted by the byte after `#`. Assumes nothing.
use mathlib.Core.Path.{refl}
use Rattle.reader.specs.Ascii.{ascii}
use Rattle.language.specs.Script.{says, end, fchange, nop, data_of}
use Rattle.language.specs.Table.{cell_for}
use Rattle.language.specs.Meaning.{names}
use Rattle.line_values.specs.Inside.Line.{line_from, data_from}
use Rattle.line_meaning.specs.Inside.Names.{only, names_with}
use Rattle.line_meaning.proofs.Telling.{tells_as, quiet, no_name}
use Rattle.line_meaning.proofs.ByName.{second, bare_named, too_short, no_such_name, r_quiet, p_quiet}
use Rattle.line_meaning.proofs.names.by_name.Goals as goal

pub returns-then-word-lt2 : goal.returns-then-word-lt2
returns-then-word-lt2 c = tells_as (too_short _ _ c.if-word-lt2.true) (no_name _)

pub returns-in-76 : goal.returns-in-76
returns-in-76 c = tells_as (second _ _ 76 c.in-76.is) c.loop_or_log.ensures

pub returns-in-69 : goal.returns-in-69
unfolding names_with only names line_from cell_for data_from data_of
returns-in-69 c = bare_named _ _ 69 (says end) (ascii "#END") refl c.in-69.is refl refl c.bare_name.ensures

pub returns-in-87 : goal.returns-in-87
returns-in-87 c = tells_as (second _ _ 87 c.in-87.is) c.only_wait.ensures

pub returns-in-82 : goal.returns-in-82
returns-in-82 c = tells_as (second _ _ 82 c.in-82.is) (quiet c.rts_or_resume.ensures (r_quiet _ _))

pub returns-in-70 : goal.returns-in-70
unfolding names_with only names line_from cell_for data_from data_of
returns-in-70 c = bare_named _ _ 70 (says fchange) (ascii "#FCHANGE") refl c.in-70.is refl refl c.bare_name-in-70.ensures

pub returns-in-80 : goal.returns-in-80
returns-in-80 c = tells_as (second _ _ 80 c.in-80.is) (quiet c.pause_or_process.ensures (p_quiet _ _))

pub returns-in-78 : goal.returns-in-78
unfolding names_with only names line_from cell_for data_from data_of
returns-in-78 c = bare_named _ _ 78 (says nop) (ascii "#NOP") refl c.in-78.is refl refl c.bare_name-in-78.ensures

pub returns-in-102 : goal.returns-in-102
returns-in-102 c = tells_as (second _ _ 102 c.in-102.is) c.setting.ensures

pub returns-in_default : goal.returns-in_default
returns-in_default c = tells_as (no_such_name _ _ c.in_default.in_default-own.rest) (no_name _)
