-- `only_blanks` meets its contract: the blanks at the front are all there is. Assumes nothing.
use Rattle.line_values.proofs.Cuts.{all_blank}
use Rattle.line_values.proofs.parts.only_blanks.Goals as goal

pub returns : goal.returns
returns c = rw c.after_blanks.ensures (all_blank _)
