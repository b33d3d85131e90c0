-- `statement::joining::join` meets its contract: the words from the next on decide the rest. Assumes nothing.
use Rattle.statement.proofs.Neighbours.{Joining}
use Rattle.statement.proofs.joining.join.Given as goal

abbrev pub invariant-loop-w : goal.invariant-loop-w
invariant-loop-w l = Joining l.w-items l.joined.bytes l.joined.cells l.w-index
