-- Each turn of the loop is a law of `Signing`. Assumes nothing.
use mathlib.Core.Path.{sym, ◌∙◌}
use Rattle.language.proofs.Signing.{none_left, unmarked, good_sign, bad_sign}
use Rattle.language.proofs.signs.right_signs.Goals as goal
use Rattle.language.proofs.signs.right_signs.Goals.{then-not-marked, else-not-marked+then-is_sign}

pub returns-else-is_sign : goal.returns-else-is_sign
returns-else-is_sign c = bad_sign _ _ c.loop-byte-test.true c.loop-byte.invariant c.if-not-marked.false (sym c.is_sign.ensures ∙ c.if-is_sign.false)

pub loop-byte-preserved : goal.loop-byte-preserved
loop-byte-preserved c = elim c.if-not-marked.branch [
  | then-not-marked w ↦ unmarked _ _ c.loop-byte-test.true c.loop-byte.invariant w.if-not-marked.true w.marked-is
  | else-not-marked+then-is_sign w ↦ good_sign _ _ c.loop-byte-test.true c.loop-byte.invariant w.if-not-marked.false (sym w.is_sign.ensures ∙ w.if-is_sign.true) w.marked-is
]

pub returns : goal.returns
returns c = none_left _ _ c.loop-byte-test.false c.loop-byte.invariant
