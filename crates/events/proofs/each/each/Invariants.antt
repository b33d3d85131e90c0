-- `each` meets its contract: the first i processes are done, the others are as they were. Assumes nothing.
use mathlib.Core.Path.{◌≡◌}
use Prim.Native.Nat.{ℕ, ◌≤◌, ◌<◌, ◌-◌}
use lib.ListN.{length, get_or}
use Rattle.process.specs.declared.Process.{Process}
use Rattle.events.proofs.each.each.Given as goal

abbrev pub invariant-loop-i : goal.invariant-loop-i
invariant-loop-i g l =
    (l.i ≤ 8)
    × (length l.ps ≡ length l.fn.ps)
    × ((j : ℕ) (d : Process) → j < l.i → goal.F-post g l.f (get_or l.fn.ps j d) (get_or l.ps j d))
    × ((j : ℕ) (d : Process) → l.i ≤ j → get_or l.ps j d ≡ get_or l.fn.ps j d)

abbrev pub decreases-loop-i : goal.decreases-loop-i
decreases-loop-i g l = 8 - l.i
