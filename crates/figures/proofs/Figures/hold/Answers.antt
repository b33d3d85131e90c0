-- `Figures::hold` meets its contract, field by field. Assumes nothing.
use mathlib.Core.Path.{refl}
use Rattle.figures.specs.Figures.{capped}
use Rattle.figures.proofs.Associative.{fig_path}
use Rattle.figures.proofs.Figures.hold.Goals as goal

pub returns : goal.returns
unfolding capped
returns c = fig_path refl refl c.held.ensures c.held-2.ensures c.held-3.ensures
