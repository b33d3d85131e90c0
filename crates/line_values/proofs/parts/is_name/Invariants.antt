-- `is_name` meets its contract: each turn of the loop is a law on its state, `Alike`. Assumes nothing.
use Rattle.line_values.proofs.Cuts.{Alike}
use Rattle.line_values.proofs.parts.is_name.Given as goal

abbrev pub invariant-loop-i : goal.invariant-loop-i
invariant-loop-i l = Alike l.word l.name l.i
