-- `put_decimal` meets its contract: each turn of the loop is a law on its state, `Digiting`, in the part that is lent for the digits. Assumes nothing.
use Prim.Native.Nat.{◌-◌}
use Rattle.writer.specs.Put.{decimal}
use Rattle.writer.proofs.Widths.{Digiting}
use Rattle.writer.proofs.put_decimal.Given as goal

abbrev pub invariant-loop-digit : goal.invariant-loop-digit
invariant-loop-digit l =
    Digiting l.initial.digit-items 0 (decimal l.n) l.digit-items l.power (l.digit-index-end - l.digit-index) l.left l.digit-index
