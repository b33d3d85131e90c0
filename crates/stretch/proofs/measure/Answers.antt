-- `measure` meets its contract. Assumes nothing.
use mathlib.Core.Path.{◌≡◌, ◌∙◌}
use native.Mathlib.Omega.{arith}
use borrow.Author.Rules.{rules}
use lib.ListN.{length}
use Rattle.stretch.proofs.Measuring.{alone_nests, alone_strays}
use Rattle.stretch.proofs.measure.Goals as goal

pub returns : goal.returns
returns c =
    let long : length c.args.cells.now ≡ 512 = search rules in
    alone_nests _ _ _ _ _ (omega (arith, long, c.min-behind.ensures)) c.min.ensures _ c.run_figures.ensures _ c.in_ok-all.was

pub returns-in_err-all : goal.returns-in_err-all
returns-in_err-all c =
    let long : length c.args.cells.now ≡ 512 = search rules in
    c.from_residual.ensures
    ∙ alone_strays _ _ _ _ _ (omega (arith, long, c.min-behind.ensures)) c.min.ensures _ c.run_figures.ensures c.in_err-all.was
