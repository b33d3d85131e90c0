-- `measure_all` meets its contract: its loop keeps `Measuring`. Assumes nothing.
use Rattle.stretch.proofs.Measuring.{Measuring}
use Rattle.stretch.proofs.measure_all.Given as goal

abbrev pub invariant-loop-i : goal.invariant-loop-i
invariant-loop-i l = Measuring l.cells l.end-items l.best l.from l.i
