-- `lfext_taken` meets its contract: each turn of the loop is a law on its state, `Lettering`. Assumes nothing.
use Rattle.language.specs.Limits.{letter_limit}
use Rattle.line_column.proofs.Lettering.{Lettering}
use Rattle.line_column.proofs.taken.lfext_taken.Given as goal

abbrev pub invariant-loop-i : goal.invariant-loop-i
invariant-loop-i l = Lettering letter_limit l.word l.i
