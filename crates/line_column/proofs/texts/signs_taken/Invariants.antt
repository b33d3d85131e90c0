-- `signs_taken` meets its contract: each turn of the loop is a law on its state, `Signing`. Assumes nothing.
use Rattle.line_column.proofs.Signing.{Signing}
use Rattle.line_column.proofs.texts.signs_taken.Given as goal

abbrev pub invariant-loop-i : goal.invariant-loop-i
invariant-loop-i l = Signing l.line l.at l.i l.marked
