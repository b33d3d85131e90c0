-- `whole_number` meets its contract: each arm is a case of `whole`. Assumes nothing.
use mathlib.Core.Path.{sym, ◌∙◌}
use native.Mathlib.Omega.{arith}
use Rattle.line_values.proofs.Timing.{time_small, all_read, surplus, no_digits}
use Rattle.line_values.proofs.times.whole_number.Goals as goal

pub overflow_cast-result : goal.overflow_cast-result
overflow_cast-result c =
    let h = time_small _ (sym c.in-Ok.is ∙ c.number.ensures) in
    omega arith

pub returns-in-Ok : goal.returns-in-Ok
returns-in-Ok c = all_read _ (sym c.in-Ok.is ∙ c.number.ensures) c.if-read-argument.true

pub returns-in_default : goal.returns-in_default
returns-in_default c = surplus _ (sym c.in-Ok.is ∙ c.number.ensures) c.if-read-argument.false

pub returns-in_default-2 : goal.returns-in_default-2
returns-in_default-2 c = no_digits _ (sym c.in_default.is ∙ c.number.ensures)
