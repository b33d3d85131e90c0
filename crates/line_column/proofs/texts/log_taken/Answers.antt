-- `log_taken` meets its contract: each `return` is a case of `logTaken`. Assumes nothing.
use mathlib.Core.Path.{◌∙◌}
use native.Mathlib.Omega.{arith}
use Rattle.line_column.proofs.Marks.{nothing_logged, no_space, one_space}
use Rattle.line_column.proofs.texts.log_taken.Goals.{then-line-at-via-then-line-at, then-line-at-via-else-line-at+then-line-at-ne32}
use Rattle.line_column.proofs.texts.log_taken.Goals as goal

pub returns-then-line-at : goal.returns-then-line-at
returns-then-line-at c =
    elim c.then-line-at.branch [
      | then-line-at-via-then-line-at w ↦ nothing_logged _ _ w.if-line-at.true
      | then-line-at-via-else-line-at+then-line-at-ne32 w ↦ no_space _ _ (omega (arith, w.if-line-at.false)) w.if-line-at-ne32.true
    ]

pub returns : goal.returns
returns c = c.signs_taken.ensures ∙ one_space _ _ (omega arith) c.if-line-at-ne32.false
