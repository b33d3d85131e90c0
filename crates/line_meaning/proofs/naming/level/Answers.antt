-- `level` meets its contract. Assumes nothing.
use mathlib.Core.Path.{refl}
use Rattle.line_meaning.specs.Inside.Signal.{level_line}
use Rattle.line_meaning.proofs.naming.level.Goals as goal

pub returns : goal.returns
unfolding level_line
returns c = refl
