-- `lister::body::others` meets its contract: the ends from the next on are left. Assumes nothing.
use Rattle.lister.proofs.Printing.{Printing}
use Rattle.lister.proofs.Lining.{others}
use Rattle.lister.proofs.body.others.Given as goal

abbrev pub invariant-loop-end : goal.invariant-loop-end
invariant-loop-end l = Printing (others l.pool l.cells l.ends l.first 0) l.initial.out l.at l.out l.place (others l.pool l.cells l.ends l.from l.end-index)
