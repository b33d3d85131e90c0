-- `events::recording::room_for` meets its contract. Assumes nothing.
use mathlib.Core.Path.{◌≡◌}
use Prim.Native.Nat.{◌+◌, ◌≤◌, ◌-◌}
use lib.ListN.{length, drop}
use Rattle.events.specs.Inside.Passing.{room_for}
use Rattle.events.proofs.recording.room_for.Given as goal

abbrev pub invariant-loop-i : goal.invariant-loop-i
invariant-loop-i l = (l.i ≤ length l.run) × (room_for l.heads l.paused l.run l.room ≡ l.i + room_for l.heads l.paused (drop l.i l.run) l.left)

abbrev pub decreases-loop-i : goal.decreases-loop-i
decreases-loop-i l = length l.run - l.i
