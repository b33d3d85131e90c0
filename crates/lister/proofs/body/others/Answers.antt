-- `lister::body::others` meets its contract: the ends from the next on are left. Assumes nothing.
use Rattle.lister.proofs.Printing.{printed, left_is, next_room, went_on}
use Rattle.lister.proofs.Lining.{others_on, others_past}
use Rattle.lister.proofs.body.others.Goals as goal

pub process_line-begun-requires : goal.process_line-begun-requires
process_line-begun-requires c =
    let a = c.args in
    next_room _ _ (left_is (others_on a.pool.now a.cells.now a.ends.now c.loop-end.from c.loop-end.end-index c.loop-end-test.true c.from-end.ensures)
    c.loop-end.invariant) c.requires

pub cell_lines-place-requires : goal.cell_lines-place-requires
cell_lines-place-requires c =
    let a = c.args in
    next_room _ _ (went_on _ _
    (left_is (others_on a.pool.now a.cells.now a.ends.now c.loop-end.from c.loop-end.end-index c.loop-end-test.true c.from-end.ensures)
    c.loop-end.invariant) c.process_line-begun.ensures) c.requires

pub loop-end-preserved : goal.loop-end-preserved
loop-end-preserved c =
    let a = c.args in
    went_on _ _ (went_on _ _
    (left_is (others_on a.pool.now a.cells.now a.ends.now c.loop-end.from c.loop-end.end-index c.loop-end-test.true c.from-end.ensures)
    c.loop-end.invariant) c.process_line-begun.ensures) c.cell_lines-place.ensures

pub returns : goal.returns
returns c =
    let a = c.args in
    printed (others_past a.pool.now a.cells.now a.ends.now c.loop-end.from c.loop-end.end-index c.loop-end-test.false) c.loop-end.invariant
