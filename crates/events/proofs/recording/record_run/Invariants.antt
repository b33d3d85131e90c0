-- `events::recording::record_run` meets its contract. Assumes nothing.
use Prim.Native.Nat.{◌≤◌, ◌-◌}
use lib.ListN.{length, drop}
use Rattle.reader.proofs.Placing.{Placing}
use Rattle.events.specs.Inside.Passing.{records_of}
use Rattle.events.proofs.recording.record_run.Given as goal

abbrev pub invariant-loop-i : goal.invariant-loop-i
invariant-loop-i l =
    (l.i ≤ length l.run) × Placing l.initial.out 0 (records_of l.heads l.paused l.run) l.out l.at (records_of l.heads l.paused (drop l.i l.run))

abbrev pub decreases-loop-i : goal.decreases-loop-i
decreases-loop-i l = length l.run - l.i
