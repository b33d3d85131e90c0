-- `events::passing::pass_each` meets its contract: i processes have gone through the run, each no farther than those before it. Assumes nothing.
use mathlib.Core.Path.{◌≡◌}
use Prim.Native.Nat.{◌-◌, ◌≤◌}
use lib.ListN.{length}
use Rattle.events.specs.Inside.Kept.{KeptFrom, begins}
use Rattle.events.proofs.Together.{Going}
use Rattle.events.proofs.passing.pass_each.Given as goal

abbrev pub invariant-loop-i : goal.invariant-loop-i
invariant-loop-i l =
    (l.i ≤ 8) × Going l.pool l.run l.ps l.i l.next l.n l.again × (l.from ≡ begins (length l.links) 0 l.ps l.i) × (l.from ≤ length l.links) × (length l.links ≡ length l.initial.links) × KeptFrom l.pool l.links 0 l.ps

abbrev pub decreases-loop-i : goal.decreases-loop-i
decreases-loop-i l = 8 - l.i
