-- `alike` meets its contract: each turn of the loop is a law on its state, `Agreeing`. Assumes nothing.
use Rattle.line_column.proofs.Agreeing.{Agreeing}
use Rattle.line_column.proofs.taken.alike.Given as goal

abbrev pub invariant-loop-b : goal.invariant-loop-b
invariant-loop-b l = Agreeing l.s l.name l.at l.i l.b-index
