-- `lfext` meets its contract: each turn of the loop is a law on its state, `Lettered`. Assumes nothing.
use Rattle.line_values.proofs.Extension.{bad_count, refused_letter, begun, letter, all_letters}
use Rattle.line_values.proofs.settings.lfext.Goals as goal

pub returns-then-argument-eq0 : goal.returns-then-argument-eq0
returns-then-argument-eq0 c = bad_count _ c.then-argument-eq0.either

pub loop-i-init : goal.loop-i-init
loop-i-init c = begun _

pub returns-then-not-is_capital : goal.returns-then-not-is_capital
returns-then-not-is_capital c = refused_letter _ _ c.loop-i-test.true c.to_ascii_uppercase-letter.ensures.value c.is_capital.ensures c.if-not-is_capital.true

pub loop-i-preserved : goal.loop-i-preserved
loop-i-preserved c =
    letter _ _ c.if-argument-gt-LETTERS.false c.loop-i-test.true c.loop-i.invariant c.to_ascii_uppercase-letter.ensures.value c.is_capital.ensures
    c.if-not-is_capital.false

pub returns : goal.returns
returns c = all_letters _ _ c.if-argument-eq0.false c.if-argument-gt-LETTERS.false c.loop-i-test.false c.loop-i.invariant
