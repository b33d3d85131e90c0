-- `events::matching::unlinked` meets its contract. Assumes nothing.
use mathlib.Core.Path.{◌≡◌}
use Prim.Native.Nat.{◌≤◌}
use lib.ListN.{length, drop}
use Rattle.events.specs.Inside.Passing.{farther, matched_on}
use Rattle.events.proofs.matching.unlinked.Given as goal

abbrev pub invariant-loop-i : goal.invariant-loop-i
invariant-loop-i l = (l.k ≤ length l.want) × (matched_on l.want l.from l.run ≡ farther l.i (matched_on l.want l.k (drop l.i l.run)))
