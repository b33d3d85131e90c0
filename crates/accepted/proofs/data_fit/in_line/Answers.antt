-- `in_line` meets its contract. Assumes nothing.
use mathlib.Core.Path.{ap, ◌∙◌}
use mathlib.Core.Bool.{not}
use Rattle.accepted.proofs.Held.{no_lf}
use Rattle.accepted.proofs.data_fit.in_line.Goals as goal

pub returns : goal.returns
returns c = ap not c.contains.ensures.value ∙ no_lf c.args.text.now (λ i. (c.type_inv.text i).fits)
