-- `accepted::settings::first_empty` meets its contract. Assumes nothing.
use mathlib.Core.Path.{refl}
use borrow.Author.Tests.{lt-ltb, le-ltb}
use Rattle.accepted.specs.Inside.Heads.{first_empty}
use Rattle.accepted.proofs.settings.first_empty.Goals as goal

pub returns-then-heads-gt1 : goal.returns-then-heads-gt1
unfolding first_empty
returns-then-heads-gt1 c = rw (lt-ltb 1 c.args.heads.processes c.if-heads-gt1.true) refl

pub returns-else-heads-gt1 : goal.returns-else-heads-gt1
unfolding first_empty
returns-else-heads-gt1 c = rw (le-ltb 1 c.args.heads.processes c.if-heads-gt1.false) refl
