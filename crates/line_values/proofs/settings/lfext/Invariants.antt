-- `lfext` meets its contract: each turn of the loop is a law on its state, `Lettered`. Assumes nothing.
use Rattle.line_values.proofs.Extension.{Lettered}
use Rattle.line_values.proofs.settings.lfext.Given as goal

abbrev pub invariant-loop-i : goal.invariant-loop-i
invariant-loop-i l = Lettered l.argument l.i l.letters
