-- `events::matching::followed` meets its contract. Invariant: b leaves matched after j bytes what it leaves after k. Assumes nothing.
use mathlib.Core.Path.{◌≡◌}
use Prim.Native.Nat.{◌≤◌}
use Rattle.process.specs.Matching.{advance}
use Rattle.events.proofs.matching.followed.Given as goal

abbrev pub invariant-loop-j : goal.invariant-loop-j
invariant-loop-j l = (l.j ≤ l.k) × (advance l.want l.k l.b ≡ advance l.want l.j l.b)

abbrev pub decreases-loop-j : goal.decreases-loop-j
decreases-loop-j l = l.j
