-- `accepted::ends::last_end` meets its contract: the ends from the next on decide. Assumes nothing.
use Rattle.accepted.proofs.EndsFit.{Passing}
use Rattle.accepted.proofs.ends.last_end.Given as goal

abbrev pub invariant-loop-end : goal.invariant-loop-end
invariant-loop-end l = Passing l.end-items l.last l.end-index
