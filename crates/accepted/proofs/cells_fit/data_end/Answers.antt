-- `accepted::cells_fit::data_end` meets its contract: the words from the next on decide. Assumes nothing.
use mathlib.Core.Path.{◌≡◌, ap, ◌∙◌}
use native.Mathlib.Omega.{arith}
use borrow.Author.Rules.{rules}
use lib.ListN.{length}
use Rattle.accepted.specs.Inside.CellsFit.{words_reach}
use Rattle.accepted.proofs.EndsFit.{take_clip}
use Rattle.accepted.proofs.CellsFit.{go_past, go_stops, go_on_lem}
use Rattle.accepted.proofs.cells_fit.data_end.Goals as goal

pub returns-in_err-at : goal.returns-in_err-at
returns-in_err-at c =
    let long : length c.args.cells.now ≡ 512 = search rules in
    c.from_residual.ensures
    ∙ (go_stops c.loop-w.invariant c.loop-w-test.true c.after_word.ensures c.in_err-at.was
    ∙ ap (words_reach c.args.pool.now 0) (take_clip c.args.in_use c.min.result c.args.cells.now (omega (arith, long, c.min.ensures))))

pub loop-w-preserved : goal.loop-w-preserved
loop-w-preserved c = go_on_lem c.loop-w.invariant c.loop-w-test.true c.after_word.ensures c.in_ok-at.was

pub returns : goal.returns
returns c =
    let long : length c.args.cells.now ≡ 512 = search rules in
    go_past c.loop-w.invariant c.loop-w-test.false
    ∙ ap (words_reach c.args.pool.now 0) (take_clip c.args.in_use c.min.result c.args.cells.now (omega (arith, long, c.min.ensures)))
