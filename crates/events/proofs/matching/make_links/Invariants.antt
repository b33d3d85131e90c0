-- `events::matching::make_links` meets its contract. Invariant: the links up to i are there. Assumes nothing.
use mathlib.Core.Path.{◌≡◌}
use Prim.Native.Nat.{◌-◌, ◌≤◌, ◌<◌}
use lib.ListN.{length}
use Rattle.events.specs.Inside.Links.{Linked}
use Rattle.events.proofs.matching.make_links.Given as goal

abbrev pub invariant-loop-i : goal.invariant-loop-i
invariant-loop-i l = (0 < l.i) × (l.i ≤ 65536) × (length l.links ≡ length l.initial.links) × Linked l.want l.links l.i

abbrev pub decreases-loop-i : goal.decreases-loop-i
decreases-loop-i l = l.k - l.i
