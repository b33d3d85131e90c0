-- `events::matching::followed` meets its contract. Invariant: b leaves matched after j bytes what it leaves after k. Assumes nothing.
use mathlib.Core.Path.{sym, ◌∙◌}
use Prim.Native.Nat.{◌<◌}
use native.Mathlib.Omega.{arith}
use Rattle.events.proofs.Links.{advance_hit, advance_none, advance_link, linked_below}
use Rattle.events.proofs.matching.followed.Goals as goal

pub returns-then-j-eq0 : goal.returns-then-j-eq0
returns-then-j-eq0 c =
    let l = c.loop-j in
    advance_none _ l.j _ (omega arith) c.loop-j-test.true c.if-j-eq0.true ∙ sym l.invariant.1

pub loop-j-smaller : goal.loop-j-smaller
loop-j-smaller c = linked_below c.requires.2 (omega arith) c.loop-j.invariant.0 c.from-j.ensures

pub loop-j-preserved : goal.loop-j-preserved
loop-j-preserved c =
    let l = c.loop-j in
    let some : 0 < l.j = omega arith in
    let here = c.from-j.ensures ∙ c.requires.2.at l.j some l.invariant.0 in (
      omega (arith, linked_below c.requires.2 some l.invariant.0 c.from-j.ensures),
      rw here (l.invariant.1 ∙ advance_link _ l.j _ (omega arith) c.loop-j-test.true some),
    )

pub returns : goal.returns
returns c =
    let l = c.loop-j in
    advance_hit _ l.j _ (omega arith) c.loop-j-test.false ∙ sym l.invariant.1
