-- `is_name` meets its contract: each turn of the loop is a law on its state, `Alike`. Assumes nothing.
use mathlib.Core.Path.{refl}
use Rattle.line_values.proofs.Cuts.{longer, differs, agrees, compared}
use Rattle.line_values.proofs.parts.is_name.Goals as goal

pub returns-then-word-name : goal.returns-then-word-name
returns-then-word-name c = longer _ _ c.if-word-name.true

pub loop-i-init : goal.loop-i-init
loop-i-init c = record { whole = refl }

pub returns-then-word-i : goal.returns-then-word-i
returns-then-word-i c = differs c.if-word-name.false c.loop-i.invariant c.loop-i-test.true c.if-word-i.true

pub loop-i-preserved : goal.loop-i-preserved
loop-i-preserved c = agrees c.if-word-name.false c.loop-i.invariant c.loop-i-test.true c.if-word-i.false

pub returns : goal.returns
returns c = compared c.if-word-name.false c.loop-i.invariant c.loop-i-test.false
