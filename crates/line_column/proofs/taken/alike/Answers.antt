-- `alike` meets its contract: each turn of the loop is a law on its state, `Agreeing`. Assumes nothing.
use mathlib.Core.Path.{refl}
use Rattle.line_column.proofs.Agreeing.{name_ended, bytes_ended, differs, agrees}
use Rattle.line_column.proofs.taken.alike.Goals.{then-s-i-via-then-s-i, then-s-i-via-else-s-i+then-b-s}
use Rattle.line_column.proofs.taken.alike.Goals as goal

pub loop-b-init : goal.loop-b-init
loop-b-init c = record { whole = refl }

pub returns-then-s-i : goal.returns-then-s-i
returns-then-s-i c =
    elim c.then-s-i.branch [
      | then-s-i-via-then-s-i w ↦ bytes_ended c.loop-b.invariant c.loop-b-test.true w.if-s-i.true
      | then-s-i-via-else-s-i+then-b-s w ↦ differs c.loop-b.invariant c.loop-b-test.true w.if-s-i.false w.if-b-s.true
    ]

pub loop-b-preserved : goal.loop-b-preserved
loop-b-preserved c = agrees c.loop-b.invariant c.loop-b-test.true c.if-s-i.false c.if-b-s.false

pub returns : goal.returns
returns c = name_ended c.loop-b.invariant c.loop-b-test.false
