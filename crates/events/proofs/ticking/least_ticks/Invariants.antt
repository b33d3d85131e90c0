-- `events::ticking::least_ticks` meets its contract. Assumes nothing.
use mathlib.Core.Path.{◌≡◌}
use lib.ListN.{take}
use Rattle.events.specs.Inside.Passing.{ticks_reach}
use Rattle.events.proofs.ticking.least_ticks.Given as goal

abbrev pub invariant-loop-p : goal.invariant-loop-p
invariant-loop-p l = l.n ≡ ticks_reach l.most (take l.p-index l.fn.ps)
