-- `events::receiving::ranges_right` meets its contract. Assumes nothing.
use mathlib.Core.Path.{◌∙◌}
use borrow.Author.Rules.{rules}
use borrow.Author.Tests.{le-leb, lt-leb}
use Rattle.std.proofs.Common.{tests}
use Rattle.std.proofs.lemmas.Iterator.{YieldsList-from_slice}
use Rattle.std.proofs.lemmas.Iterator.Search.{all_from_yields_List}
use Rattle.process.specs.Waiting.{range_right}
use Rattle.process.proofs.Loops.{all_is}
use Rattle.events.specs.Receiving.{ranges_right}
use Rattle.events.proofs.receiving.ranges_right.Goals as goal

pub returns-then-from-le-OMIT_PLACES : goal.returns-then-from-le-OMIT_PLACES
unfolding ranges_right
returns-then-from-le-OMIT_PLACES c =
    let ps = c.args.s.now.processes in
    rw (← c.from.ensures, le-leb c.from.result 10 c.if-from-le-OMIT_PLACES.true)
    (all_from_yields_List range_right _ _ _ c.all.ensures.ran (YieldsList-from_slice ps cc) (λ x b q k. search (rules, tests)) ∙ all_is range_right ps)

pub returns-else-from-le-OMIT_PLACES : goal.returns-else-from-le-OMIT_PLACES
unfolding ranges_right
returns-else-from-le-OMIT_PLACES c = rw (← c.from.ensures, lt-leb c.from.result 10 c.if-from-le-OMIT_PLACES.false)
