-- `statement::joining::join` meets its contract: the words from the next on decide the rest. Assumes nothing.
use Rattle.std.proofs.Common.{refl, arith, rules, ap, ◌∙◌}
use Rattle.statement.specs.Inside.Joined.{joined_of}
use Rattle.statement.proofs.Neighbours.{join_past, join_other, join_more, part_is}
use Rattle.statement.proofs.joining.join.Goals as goal

pub loop-w-preserved : goal.loop-w-preserved
loop-w-preserved c =
    rw c.from.ensures
    (join_more c.loop-w.invariant c.loop-w-test.true c.decode.ensures c.in-WaitData.is
    (search rules) (omega arith))

pub returns-in_default : goal.returns-in_default
returns-in_default c =
    join_other c.loop-w.invariant c.loop-w-test.true c.decode.ensures c.in_default.not-WaitData (refl, refl)
    ∙ ap joined_of (part_is _ _ _ _ _ (omega arith) c.min.ensures)

pub returns : goal.returns
returns c = join_past c.loop-w.invariant c.loop-w-test.false (refl, refl) ∙ ap joined_of (part_is _ _ _ _ _ (omega arith) c.min.ensures)
