-- `role_of` meets its contract, cell by cell. Assumes nothing.
use mathlib.Core.Path.{sym, ap, ◌∙◌}
use borrow.Author.Rules.{rules}
use Rattle.figures.specs.Flat.{opens}
use Rattle.language.specs.Stretch.{mark_of}
use Rattle.language.specs.Table.{statement_of}
use Rattle.stretch.specs.Marks.{cell_mark}
use Rattle.stretch.proofs.Marking.{mark_loop, mark_time, mark_byte}
use Rattle.stretch.proofs.Others.{other_plain}
use borrow.Enum.Refused.{opened}
use Rattle.stretch.proofs.role_of.Goals as goal

pub returns-in-Loop : goal.returns-in-Loop
returns-in-Loop c = ap opens c.from.ensures ∙ sym (ap cell_mark c.in-Loop.is ∙ mark_loop c.in-Loop.n)

pub returns-in-End : goal.returns-in-End
unfolding cell_mark mark_of statement_of
returns-in-End c = search rules

pub returns-in-WaitTime : goal.returns-in-WaitTime
returns-in-WaitTime c = c.rest_above_zero.ensures ∙ sym (ap cell_mark c.in-WaitTime.is ∙ mark_time c.in-WaitTime.n)

pub returns-in-WaitData : goal.returns-in-WaitData
unfolding cell_mark mark_of statement_of
returns-in-WaitData c = search rules

pub returns-in-WaitByte : goal.returns-in-WaitByte
returns-in-WaitByte c = (rw c.from-in-WaitByte.ensures at c.rest_above_zero-in-WaitByte.ensures) ∙ sym (ap cell_mark c.in-WaitByte.is ∙ mark_byte c.in-WaitByte.n)

pub returns-in-WaitClock : goal.returns-in-WaitClock
unfolding cell_mark mark_of statement_of
returns-in-WaitClock c = search rules

pub returns-in-WaitSignal : goal.returns-in-WaitSignal
unfolding cell_mark mark_of statement_of
returns-in-WaitSignal c = search rules

pub returns-in_default : goal.returns-in_default
returns-in_default c = other_plain c.args.c (opened c.in_default.in_default-own.keys8)
