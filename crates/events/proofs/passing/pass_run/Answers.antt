-- `events::passing::pass_run` meets its contract: the second time finds what the first has kept. Assumes nothing.
use Rattle.events.proofs.Kept.{all_cleared}
use Rattle.events.proofs.Together.{passes_most, passes_again}
use Rattle.events.proofs.passing.pass_run.Goals as goal

pub pass_each-r-requires : goal.pass_each-r-requires
pass_each-r-requires c = (c.requires.0, c.requires.1, all_cleared c.args.pool.now 1024 0 c.args.ps)

pub first-requires : goal.first-requires
first-requires c =
    let a = c.args in
    passes_most a.pool.now a.run.now a.ps c.pass_each-r.ensures.0

pub returns-then-r : goal.returns-then-r
returns-then-r c =
    let a = c.args in
    passes_again a.pool.now a.run.now a.ps c.pass_each-r.ensures.0 c.first.ensures.0 c.pass_each.ensures.0

pub returns : goal.returns
returns c = let w = c.pass_each-r.ensures.0 in (w.count, w.whole c.if-r.false)
