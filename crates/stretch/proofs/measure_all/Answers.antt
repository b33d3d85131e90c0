-- `measure_all` meets its contract: its loop keeps `Measuring`, and each answer of a process is a law of Measuring. Assumes nothing.
use mathlib.Core.Path.{ap, ◌∙◌}
use Rattle.stretch.proofs.Measuring.{answered, take_clip, measuring_past, measuring_on, measuring_over, measuring_strays}
use Rattle.stretch.proofs.measure_all.Goals as goal

pub returns-then-stretch-gt-LIMIT : goal.returns-then-stretch-gt-LIMIT
returns-then-stretch-gt-LIMIT c =
    measuring_over _ _ _ _ _ c.loop-i.invariant c.loop-i-test.true _ c.from-end.ensures _ c.measure.ensures _ c.in-Some.is c.if-stretch-gt-LIMIT.true
    ∙ ap (answered c.args.cells.now) (take_clip _ _ _ c.min.ensures)

pub loop-i-preserved : goal.loop-i-preserved
loop-i-preserved c =
    rw c.max-best.ensures
    (measuring_on _ _ _ _ _ c.loop-i.invariant c.loop-i-test.true _ c.from-end.ensures _ c.measure.ensures _ c.in-Some.is c.if-stretch-gt-LIMIT.false)

pub returns-in_default : goal.returns-in_default
returns-in_default c =
    measuring_strays _ _ _ _ _ c.loop-i.invariant c.loop-i-test.true _ c.from-end.ensures _ c.measure.ensures c.in_default.is
    ∙ ap (answered c.args.cells.now) (take_clip _ _ _ c.min.ensures)

pub returns : goal.returns
returns c =
    measuring_past _ _ _ _ _ c.loop-i.invariant c.loop-i-test.false
    ∙ ap (answered c.args.cells.now) (take_clip _ _ _ c.min.ensures)
