-- `put_hex` meets its contract: each turn of the loop is a law on its state, `Placing`. Assumes nothing.
use Prim.Native.Nat.{◌+◌, ◌*◌}
use lib.ListN.{drop}
use Rattle.writer.specs.Hex.{hex_text}
use Rattle.reader.proofs.Placing.{Placing}
use Rattle.writer.proofs.put_hex.Given as goal

abbrev pub invariant-loop-i : goal.invariant-loop-i
invariant-loop-i l = Placing l.initial.dst l.at (hex_text l.bytes) l.dst (l.at + 2 * l.i) (hex_text (drop l.i l.bytes))
