-- `take_lines` meets its contract: each turn of its two loops is a law on their states, `Folding` and `Scanning`. Assumes nothing.
use Rattle.std.proofs.Common.{◌≡◌, ◌-◌, length, Ok}
use Rattle.compiler.proofs.Folding.{Folding, Scanning}
use Rattle.compiler.proofs.drafting.Drafting.take_lines.Given as goal

abbrev pub invariant-loop-lent : goal.invariant-loop-lent
invariant-loop-lent l = Scanning l.text l.self l.row l.start l.clear × (l.taken ≡ Ok tt)

abbrev pub decreases-loop-lent : goal.decreases-loop-lent
decreases-loop-lent l = length l.text - l.clear

abbrev pub invariant-lines : goal.invariant-lines
invariant-lines l = Folding l.text l.self l.row l.start × (l.taken ≡ Ok tt)

abbrev pub decreases-lines : goal.decreases-lines
decreases-lines l = length l.text - l.start
