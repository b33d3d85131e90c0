-- `of_five` meets its contract: each `return` is an entry of the table. Assumes nothing.
use Prim.Native.Nat.{ℕ}
use mathlib.Core.Path.{refl, sym, ap, ◌∙◌}
use mathlib.Core.Bool.{true}
use mathlib.Core.List.{List}
use Rattle.reader.specs.Ascii.{ascii}
use Rattle.language.specs.Clock.{clock_of}
use Rattle.language.specs.Meaning.{waits, clock_says}
use Rattle.line_meaning.specs.Inside.Names.{only, waits_long}
use Rattle.line_values.specs.Inside.Line.{line_from}
use Rattle.line_meaning.proofs.WithoutData.{too_short, signalled, clock_named, clock_not, none_of_five}
use Rattle.line_meaning.proofs.naming.of_five.Goals as goal

pub returns-then-word-lt3 : goal.returns-then-word-lt3
unfolding line_from waits_long only waits
returns-then-word-lt3 c = ap line_from (sym (too_short _ _ 5 refl c.if-word-lt3.true))

pub returns-then-is_name : goal.returns-then-is_name
returns-then-is_name c =
    c.wait_clock.ensures ∙ ap (λ (a : List ℕ). line_from (clock_says (clock_of a))) c.argument.ensures
    ∙ ap line_from (sym (clock_named _ _ c.is_name.ensures c.if-is_name.true))

pub returns-else-is_name : goal.returns-else-is_name
unfolding line_from
returns-else-is_name c = ap line_from (sym (clock_not _ _ c.in-79.is c.is_name.ensures c.if-is_name.false))

pub returns-in-83 : goal.returns-in-83
unfolding waits_long only waits
returns-in-83 c =
    signalled _ _ 5 83 0 true (ascii "CTSON") refl c.in-83.is c.level.ensures
    c.bare_name.ensures

pub returns-in-49 : goal.returns-in-49
unfolding waits_long only waits
returns-in-49 c =
    signalled _ _ 5 49 1 true (ascii "EX1ON") refl c.in-49.is c.level-in-49.ensures
    c.bare_name-in-49.ensures

pub returns-in-50 : goal.returns-in-50
unfolding waits_long only waits
returns-in-50 c =
    signalled _ _ 5 50 2 true (ascii "EX2ON") refl c.in-50.is c.level-in-50.ensures
    c.bare_name-in-50.ensures

pub returns-in-51 : goal.returns-in-51
unfolding waits_long only waits
returns-in-51 c =
    signalled _ _ 5 51 3 true (ascii "EX3ON") refl c.in-51.is c.level-in-51.ensures
    c.bare_name-in-51.ensures

pub returns-in-52 : goal.returns-in-52
unfolding waits_long only waits
returns-in-52 c =
    signalled _ _ 5 52 4 true (ascii "EX4ON") refl c.in-52.is c.level-in-52.ensures
    c.bare_name-in-52.ensures

pub returns-in_default : goal.returns-in_default
unfolding line_from
returns-in_default c = ap line_from (sym (none_of_five _ _ c.in_default.in_default-own.rest))
