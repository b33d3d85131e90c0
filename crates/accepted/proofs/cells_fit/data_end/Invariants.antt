-- `accepted::cells_fit::data_end` meets its contract: the words from the next on decide. Assumes nothing.
use Rattle.accepted.proofs.CellsFit.{Going}
use Rattle.accepted.proofs.cells_fit.data_end.Given as goal

abbrev pub invariant-loop-w : goal.invariant-loop-w
invariant-loop-w l = Going l.pool l.w-items l.at l.w-index
