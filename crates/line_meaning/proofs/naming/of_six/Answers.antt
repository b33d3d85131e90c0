-- `of_six` meets its contract: each `return` is an entry of the table. Assumes nothing.
use mathlib.Core.Path.{refl, sym, ap}
use mathlib.Core.Bool.{false}
use Rattle.reader.specs.Ascii.{ascii}
use Rattle.language.specs.Meaning.{waits}
use Rattle.line_meaning.specs.Inside.Names.{only, waits_long}
use Rattle.line_values.specs.Inside.Line.{line_from}
use Rattle.line_meaning.proofs.WithoutData.{too_short, signalled, none_of_six}
use Rattle.line_meaning.proofs.naming.of_six.Goals as goal

pub returns-then-word-lt3 : goal.returns-then-word-lt3
unfolding line_from waits_long only waits
returns-then-word-lt3 c = ap line_from (sym (too_short _ _ 6 refl c.if-word-lt3.true))

pub returns-in-83 : goal.returns-in-83
unfolding waits_long only waits
returns-in-83 c =
    signalled _ _ 6 83 0 false (ascii "CTSOFF") refl c.in-83.is c.level.ensures
    c.bare_name.ensures

pub returns-in-49 : goal.returns-in-49
unfolding waits_long only waits
returns-in-49 c =
    signalled _ _ 6 49 1 false (ascii "EX1OFF") refl c.in-49.is c.level-in-49.ensures
    c.bare_name-in-49.ensures

pub returns-in-50 : goal.returns-in-50
unfolding waits_long only waits
returns-in-50 c =
    signalled _ _ 6 50 2 false (ascii "EX2OFF") refl c.in-50.is c.level-in-50.ensures
    c.bare_name-in-50.ensures

pub returns-in-51 : goal.returns-in-51
unfolding waits_long only waits
returns-in-51 c =
    signalled _ _ 6 51 3 false (ascii "EX3OFF") refl c.in-51.is c.level-in-51.ensures
    c.bare_name-in-51.ensures

pub returns-in-52 : goal.returns-in-52
unfolding waits_long only waits
returns-in-52 c =
    signalled _ _ 6 52 4 false (ascii "EX4OFF") refl c.in-52.is c.level-in-52.ensures
    c.bare_name-in-52.ensures

pub returns-in_default : goal.returns-in_default
unfolding line_from
returns-in_default c = ap line_from (sym (none_of_six _ _ c.in_default.in_default-own.rest))
