-- `lister::text::put` meets its contract: each turn of the loop writes a byte. Assumes nothing.
use Prim.Native.Nat.{◌+◌}
use lib.ListN.{drop}
use Rattle.lister.proofs.Printing.{Printing}
use Rattle.lister.proofs.text.put.Given as goal

abbrev pub invariant-loop-i : goal.invariant-loop-i
invariant-loop-i l = Printing l.bytes l.initial.out l.at l.out (l.at + l.i) (drop l.i l.bytes)
