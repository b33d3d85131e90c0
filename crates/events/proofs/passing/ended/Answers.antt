-- `events::passing::ended` meets its contract. Assumes nothing.
use borrow.Author.Tests.{lt-ltb, le-ltb}
use Rattle.events.specs.Inside.Passing.{ended_at}
use Rattle.events.proofs.passing.ended.Goals as goal

pub returns-then-p : goal.returns-then-p
unfolding ended_at
returns-then-p c = let p = c.args.p in rw (lt-ltb p.place p.end c.if-p.true)

pub returns-else-p : goal.returns-else-p
unfolding ended_at
returns-else-p c = let p = c.args.p in rw (le-ltb p.place p.end c.if-p.false)
