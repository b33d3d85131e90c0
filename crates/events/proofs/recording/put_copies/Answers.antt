-- `events::recording::put_copies` meets its contract. Assumes nothing.
use mathlib.Core.Path.{◌≡◌}
use native.Mathlib.Numerals.{add-one}
use native.Mathlib.Omega.{arith}
use lib.ListN.{length-set}
use Rattle.events.proofs.recording.put_copies.Goals as goal

pub bounds-out-at-then-count-eq2 : goal.bounds-out-at-then-count-eq2
bounds-out-at-then-count-eq2 c = simp length-set (omega (arith, c.if-count-eq2.true))

pub returns-then-count-eq2 : goal.returns-then-count-eq2
returns-then-count-eq2 c = rw (c.if-count-eq2.true, add-one c.args.at)

pub returns-else-count-eq2 : goal.returns-else-count-eq2
returns-else-count-eq2 c =
    let e : c.args.count ≡ 1 = omega (arith, c.requires.0, c.if-count-eq2.false, c.if-count-eq0.false) in
    rw e
