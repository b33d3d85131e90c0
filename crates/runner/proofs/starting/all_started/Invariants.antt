-- `runner::starting::all_started` meets its contract: each place holds the process of its number. Assumes nothing.
use Rattle.std.proofs.Common.{◌≡◌, ℕ, ◌<◌, length, get_or}
use Rattle.runner.specs.Draining.{nobody}
use Rattle.runner.specs.Starting.{started}
use Rattle.runner.proofs.starting.all_started.Given as goal

abbrev pub invariant-loop-i : goal.invariant-loop-i
invariant-loop-i l = (length l.all ≡ 8) × ((k : ℕ) → k < l.i → get_or l.all k nobody ≡ started l.heads k)
