-- `put_text` meets its contract: there is room. Assumes nothing.
use mathlib.Core.Path.{refl}
use Rattle.line_meaning.proofs.Filling.{text_put}
use Rattle.line_meaning.proofs.texts.put_text.Goals as goal

pub returns : goal.returns
returns c = (refl, text_put _ _ c.told-bytes c.args.text.fits c.put_bytes.ensures.1)
