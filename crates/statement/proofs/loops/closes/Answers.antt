-- `statement::loops::closes` meets its contract. Assumes nothing.
use Rattle.std.proofs.Common.{arith, ◌∙◌}
use Rattle.statement.proofs.LoopCases.{close_more}
use Rattle.statement.proofs.loops.closes.Goals as goal

pub returns-in_default : goal.returns-in_default
returns-in_default c =
    c.goes_back-in_default.ensures
    ∙ close_more c.args.p c.args.next c.from-at.result c.from-at.ensures c.if-p-eq0.false c.if-p-gt-OPEN.false
    (λ e. omega (arith, e)) (λ e. omega (arith, e))
