-- `named` meets its contract: the first word and what follows it. Assumes nothing.
use Rattle.line_meaning.proofs.Telling.{tells_as}
use Rattle.line_meaning.proofs.ByName.{first_name}
use Rattle.line_meaning.proofs.names.named.Goals as goal

pub returns : goal.returns
returns c = tells_as (first_name _ c.cut.ensures.word c.cut.ensures.rest) c.by_name.ensures
