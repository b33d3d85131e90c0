-- `units` meets its contract: each turn of the loop is a law on its state, `Units`. Assumes nothing.
use Rattle.line_values.proofs.Clocking.{Units}
use Rattle.line_values.proofs.clocks.units.Given as goal

abbrev pub invariant-loop-i : goal.invariant-loop-i
invariant-loop-i l = Units l.fn.digits l.fn.start l.fn.first l.at l.i l.values
