-- `number` meets its contract: each turn of the loop is a law on its state, `Reading`. Assumes nothing.
use Prim.Native.Nat.{◌-◌}
use lib.ListN.{length}
use Rattle.numbers.proofs.Reading.{Reading}
use Rattle.numbers.proofs.decimal.number.Given as goal

abbrev pub invariant-loop-d : goal.invariant-loop-d
invariant-loop-d l = Reading l.most l.limit l.s l.at l.got.value l.got.next

abbrev pub decreases-loop-d : goal.decreases-loop-d
decreases-loop-d l = length l.s - l.got.next
