-- `cases::spelling::spell` ends: the bytes left of the line fall. Assumes nothing.
use lib.ListN.{length}
use Rattle.cases.proofs.spelling.spell.Given as goal

abbrev pub invariant-loop-run : goal.invariant-loop-run
invariant-loop-run l = Unit {0}

abbrev pub decreases-loop-run : goal.decreases-loop-run
decreases-loop-run l = length l.rest
