-- `wait` meets its contract: the second word and what follows it. Assumes nothing.
use Rattle.line_meaning.proofs.Telling.{tells_as}
use Rattle.line_meaning.proofs.ByName.{second_word}
use Rattle.line_meaning.proofs.waits.wait.Goals as goal

pub returns : goal.returns
returns c = tells_as (second_word _ c.skip.ensures c.cut.ensures.word c.cut.ensures.rest) c.by_second.ensures
