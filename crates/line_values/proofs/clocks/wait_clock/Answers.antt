-- `wait_clock` meets its contract: the value that is read, or fault 4. Assumes nothing.
use mathlib.Core.Path.{sym, ◌∙◌}
use Rattle.line_values.proofs.Clocking.{value_says, fault_says}
use Rattle.line_values.proofs.clocks.wait_clock.Goals as goal

pub returns-in-Ok : goal.returns-in-Ok
returns-in-Ok c = value_says _ (sym c.in-Ok.is ∙ c.clock_value.ensures)

pub returns-in-Err : goal.returns-in-Err
returns-in-Err c = fault_says _ (sym c.in-Err.is ∙ c.clock_value.ensures)
