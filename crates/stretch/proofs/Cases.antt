-- The cases hold, by computation on the definitions. Assumes nothing.
use mathlib.Core.Path.{refl}
use Rattle.figures.specs.Flat.{mark_before, fragments, marks_nest}
use Rattle.figures.specs.Figures.{join, capped, again, looped, figures}
use Rattle.language.specs.Right.{time_right}
use Rattle.language.specs.Clock.{within}
use Rattle.language.specs.Cell.{span_number, clock_number, coded, span_right, unit_right, fixed_right, cell_of, decoded}
use Rattle.language.specs.Stretch.{mark_of}
use Rattle.language.specs.Table.{statement_of}
use Rattle.stretch.specs.Marks.{cell_mark, marks_between, processes_from, processes_of}
use Rattle.stretch.specs.Inside.Measured.{measured_from}
use Rattle.stretch.specs.Cases.{cases, AllHold}

pub cases_hold : AllHold cases
unfolding mark_before fragments marks_nest join capped again looped figures time_right within span_number clock_number coded span_right unit_right fixed_right cell_of decoded mark_of statement_of cell_mark marks_between processes_from processes_of measured_from
cases_hold =
    (refl, (refl, (refl, (refl, (refl, (refl, (refl, (refl, (refl, (refl, (refl, (refl, (refl, (refl, (refl, (refl, (refl, (refl, (refl, tt)))))))))))))))))))
