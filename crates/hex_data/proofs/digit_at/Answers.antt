-- `digit_at` meets its contract: a place past the end has none. Assumes nothing.
use mathlib.Core.Path.{ap, ◌∙◌}
use Rattle.reader.specs.Bytes.{digit_value}
use Rattle.hex_data.proofs.Pairs.{digit_past, digit_here}
use Rattle.hex_data.proofs.digit_at.Goals as goal

pub returns-in_err-get : goal.returns-in_err-get
returns-in_err-get c = c.from_residual.ensures ∙ digit_past _ _ c.in_err-get.ensures.lookup.3

pub returns : goal.returns
returns c =
    let here = c.in_ok-get.ensures.lookup.3 in
    c.digit.ensures ∙ ap digit_value (here.1 0) ∙ digit_here _ _ here.0
