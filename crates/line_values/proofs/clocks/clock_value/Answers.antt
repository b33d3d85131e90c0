-- `clock_value` meets its contract: each arm is a case of `clock_of`. Assumes nothing.
use mathlib.Core.Path.{ap, ◌∙◌}
use Rattle.line_values.specs.Inside.ClockUnits.{clock_read}
use Rattle.line_values.proofs.Clocking.{no_clock, at_day, at_hour, at_minute, at_second, at_digits}
use Rattle.line_values.proofs.clocks.clock_value.Goals as goal

pub returns-then-argument-eq0 : goal.returns-then-argument-eq0
returns-then-argument-eq0 c = c.fixed_from.ensures ∙ ap clock_read (no_clock _ c.if-argument-eq0.true)

pub returns-in-68 : goal.returns-in-68
returns-in-68 c = c.fixed_from-in-68.ensures ∙ ap clock_read (at_day _ c.if-argument-eq0.false c.in-68.is)

pub returns-in-104 : goal.returns-in-104
returns-in-104 c = c.fixed_from-in-104.ensures ∙ ap clock_read (at_hour _ c.if-argument-eq0.false c.in-104.is)

pub returns-in-109 : goal.returns-in-109
returns-in-109 c = c.fixed_from-in-109.ensures ∙ ap clock_read (at_minute _ c.if-argument-eq0.false c.in-109.is)

pub returns-in-115 : goal.returns-in-115
returns-in-115 c = c.fixed_from-in-115.ensures ∙ ap clock_read (at_second _ c.if-argument-eq0.false c.in-115.is)

pub returns-in_default : goal.returns-in_default
returns-in_default c = c.fixed_from-in_default.ensures ∙ ap clock_read (at_digits _ c.if-argument-eq0.false c.in_default.in_default-own.rest)
