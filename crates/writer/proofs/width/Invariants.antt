-- `width` meets its contract: each turn of the loop is a law on its state, `Widening`. Assumes nothing.
use Rattle.writer.proofs.Widths.{Widening}
use Rattle.writer.proofs.width.Given as goal

abbrev pub invariant-loop-count : goal.invariant-loop-count
invariant-loop-count l = Widening l.n l.count l.power
