-- `accepted::settings::other_letters` meets its contract. Assumes nothing.
use mathlib.Core.Path.{ap}
use mathlib.Core.Bool.{not}
use Rattle.accepted.proofs.Extension.{named}
use Rattle.accepted.proofs.settings.other_letters.Goals as goal

pub returns : goal.returns
returns c = ap not (named _ c.letters.ensures c.is_named.ensures)
