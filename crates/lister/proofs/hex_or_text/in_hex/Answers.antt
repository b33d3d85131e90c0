-- `in_hex` meets its contract. Assumes nothing.
use mathlib.Core.Path.{ap, ◌∙◌}
use mathlib.Core.Bool.{not}
use Rattle.lister.proofs.Plain.{plain_text, other_text}
use Rattle.lister.proofs.hex_or_text.in_hex.Goals as goal

pub returns-then-not-all_plain : goal.returns-then-not-all_plain
returns-then-not-all_plain c = other_text _ _ c.all_plain.ensures c.if-not-all_plain.true

pub returns-else-not-all_plain : goal.returns-else-not-all_plain
returns-else-not-all_plain c = ap not c.if-not-all_plain.false ∙ plain_text _ _ c.all_plain.ensures c.if-not-all_plain.false
