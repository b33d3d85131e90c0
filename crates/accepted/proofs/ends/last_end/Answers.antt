-- `accepted::ends::last_end` meets its contract: the ends from the next on decide. Assumes nothing.
use mathlib.Core.Path.{ap, ◌∙◌}
use Rattle.accepted.specs.Inside.EndsFit.{ends_reach}
use Rattle.accepted.proofs.EndsFit.{take_clip, pass_past, pass_falls, pass_leaves, pass_on}
use Rattle.accepted.proofs.ends.last_end.Goals as goal
use Rattle.accepted.proofs.ends.last_end.Goals.{then-end-last-via-then-end-last, then-end-last-via-else-end-last+then-end-gt-CELL_PLACES}

pub returns-then-end-last : goal.returns-then-end-last
returns-then-end-last c =
    elim c.then-end-last.branch [
      | then-end-last-via-then-end-last w ↦
          pass_falls c.loop-end.invariant c.loop-end-test.true c.from-end.ensures w.if-end-last.true
          ∙ ap (ends_reach 0) (take_clip _ _ _ c.min.ensures)
      | then-end-last-via-else-end-last+then-end-gt-CELL_PLACES w ↦
          pass_leaves c.loop-end.invariant c.loop-end-test.true c.from-end.ensures w.if-end-last.false w.if-end-gt-CELL_PLACES.true
          ∙ ap (ends_reach 0) (take_clip _ _ _ c.min.ensures)
    ]

pub loop-end-preserved : goal.loop-end-preserved
loop-end-preserved c = pass_on c.loop-end.invariant c.loop-end-test.true c.from-end.ensures c.if-end-last.false c.if-end-gt-CELL_PLACES.false

pub returns : goal.returns
returns c = pass_past c.loop-end.invariant c.loop-end-test.false ∙ ap (ends_reach 0) (take_clip _ _ _ c.min.ensures)
