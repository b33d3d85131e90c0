-- `read_marked` meets its contract: each `return` is a case of `marked_data`. Assumes nothing.
use mathlib.Core.Path.{sym, ap, ◌∙◌}
use Rattle.hex_data.specs.Hex.{good, hex_at}
use Rattle.line_meaning.proofs.Filling.{finds_as, no_data, some_data, nothing_marked, text_marked, hex_marked, unmarked}
use Rattle.line_meaning.proofs.texts.read_marked.Goals as goal

pub returns-then-rest-eq0 : goal.returns-then-rest-eq0
returns-then-rest-eq0 c = finds_as (nothing_marked _ c.if-rest-eq0.true) (no_data _ 0)

pub returns-then-mark-eq47 : goal.returns-then-mark-eq47
returns-then-mark-eq47 c =
    finds_as (text_marked _ c.if-rest-eq0.false c.if-mark-eq47.true ∙ ap good (sym c.after.ensures))
    (some_data _ c.after.result.fits c.put_text.ensures)

pub returns-then-mark-eq58 : goal.returns-then-mark-eq58
returns-then-mark-eq58 c =
    finds_as (hex_marked _ c.if-rest-eq0.false c.if-mark-eq47.false c.if-mark-eq58.true ∙ ap (λ l. hex_at l 0) (sym c.after-then-mark-eq58.ensures))
    c.read_hex.ensures

pub returns : goal.returns
returns c = finds_as (unmarked _ c.if-rest-eq0.false c.if-mark-eq47.false c.if-mark-eq58.false) (no_data _ 0)
