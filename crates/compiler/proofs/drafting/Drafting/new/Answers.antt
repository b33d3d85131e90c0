-- `new` meets its contract: the default's heads are zeros. Assumes nothing.
use Rattle.compiler.proofs.Folding.{nothing}
use Rattle.compiler.proofs.Standing.{heads_default}
use Rattle.compiler.proofs.drafting.Drafting.new.Goals as goal

pub returns : goal.returns
returns c = rw (heads_default c.default.result c.default.ensures) nothing
