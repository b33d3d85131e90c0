-- `only_wait` meets its contract. Assumes nothing.
use Rattle.line_meaning.proofs.Telling.{tells_as, no_name}
use Rattle.line_meaning.proofs.ByName.{wait_named, wait_not}
use Rattle.line_meaning.proofs.names.only_wait.Goals as goal

pub returns-then-is_name : goal.returns-then-is_name
returns-then-is_name c = tells_as (wait_named _ _ c.is_name.ensures c.if-is_name.true) c.wait.ensures

pub returns : goal.returns
returns c = tells_as (wait_not _ _ c.is_name.ensures c.if-is_name.false) (no_name _)
