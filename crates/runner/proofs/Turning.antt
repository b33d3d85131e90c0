-- A statement that is found lies within the table. Assumes nothing.
use Rattle.std.proofs.Common.{◌≡◌, ℕ, ◌<◌, Bool, List, Some, arith}
use Rattle.std.proofs.lemmas.Grind.{common_steps}
use Rattle.language.specs.Limits.{cell_places}
use Rattle.process.specs.declared.Process.{Process}
use Rattle.statement.specs.Inside.InTable.{in_table}
use Rattle.statement.specs.Moving.{moved}

pub found_inside : (cells : List ℕ) (levels : List Bool) (p : Process) {q : Process} → in_table (moved cells levels p) ≡ Some q → p.place < cell_places
unfolding moved
found_inside cells levels p e = grind (arith, common_steps)
