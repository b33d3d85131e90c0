-- `log_right` meets its contract. Assumes nothing.
use mathlib.Core.Path.{sym, ◌∙◌}
use mathlib.Core.Bool.{true≢false}
use borrow.Author.Tests.{lt-leb}
use Rattle.accepted.proofs.Held.{log_long, log_unsigned, log_signed}
use Rattle.accepted.proofs.data_fit.log_right.Goals as goal
use Rattle.accepted.proofs.data_fit.log_right.Goals.{then-text-le-LOG_ROOM, else-text-le-LOG_ROOM}

pub returns-then-right_signs : goal.returns-then-right_signs
returns-then-right_signs c =
    elim c.if-text-le-LOG_ROOM.branch [
      | then-text-le-LOG_ROOM w ↦
          log_signed _ w.if-text-le-LOG_ROOM.true w.right_signs.ensures (sym w.value-is ∙ c.if-right_signs.true) c.in_line.ensures
      | else-text-le-LOG_ROOM w ↦ absurd (true≢false (sym c.if-right_signs.true ∙ (w.value-is ∙ lt-leb _ _ w.if-text-le-LOG_ROOM.false)))
    ]

pub returns-else-right_signs : goal.returns-else-right_signs
returns-else-right_signs c =
    c.if-right_signs.false
    ∙ elim c.if-text-le-LOG_ROOM.branch [
      | then-text-le-LOG_ROOM w ↦ log_unsigned _ w.if-text-le-LOG_ROOM.true w.right_signs.ensures (sym w.value-is ∙ c.if-right_signs.false)
      | else-text-le-LOG_ROOM w ↦ log_long _ w.if-text-le-LOG_ROOM.false
    ]
