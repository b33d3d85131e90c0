-- `send_text` meets its contract. Assumes nothing.
use Rattle.line_meaning.proofs.Filling.{sends_text}
use Rattle.line_meaning.proofs.texts.send_text.Goals as goal

pub returns : goal.returns
returns c = sends_text _ c.put_text-count.ensures
