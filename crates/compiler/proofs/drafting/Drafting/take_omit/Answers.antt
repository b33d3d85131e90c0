-- `take_omit` meets its contract: each way on is a law of `Setting`. Assumes nothing.
use Rattle.std.proofs.Common.{rules, ◌≤◌, length}
use Rattle.compiler.proofs.Setting.{omit_stop, omit_on}
use Rattle.compiler.proofs.drafting.Drafting.take_omit.Goals as goal

pub returns-then-at-size-gt-OMITS : goal.returns-then-at-size-gt-OMITS
returns-then-at-size-gt-OMITS c =
    λ bs n f. omit_stop _ c.args.self.now c.args.lent.now bs n _ (rw (c.from-at.ensures, c.from-size.ensures) at c.if-at-size-gt-OMITS.true)

pub returns : goal.returns
returns c =
    let held : c.args.size ≤ length c.args.lent.now = search rules in
    λ bs n f. rw (c.put_bytes.ensures.1, c.from-at.ensures, c.from-size.ensures)
    (omit_on _ c.args.self.now c.args.lent.now bs n f held (rw (c.from-at.ensures, c.from-size.ensures) at c.if-at-size-gt-OMITS.false))
