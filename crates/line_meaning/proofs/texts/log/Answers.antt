-- `log` meets its contract: each `return` is a case of `log_of`. Assumes nothing.
use mathlib.Core.Path.{ap, ◌∙◌}
use mathlib.Core.Bool.{false}
use Rattle.language.specs.Meaning.{signs}
use Rattle.line_meaning.proofs.Filling.{logs_nothing, no_space, logs, bad_signs}
use Rattle.line_meaning.proofs.texts.log.Goals as goal

pub returns-then-rest-eq0 : goal.returns-then-rest-eq0
returns-then-rest-eq0 c = logs_nothing _ _ c.if-rest-eq0.true

pub returns-then-rest-ne32 : goal.returns-then-rest-ne32
returns-then-rest-ne32 c = no_space _ _ c.if-rest-eq0.false c.if-rest-ne32.true

pub returns-then-right_signs : goal.returns-then-right_signs
returns-then-right_signs c =
    let told = c.right_signs.ensures ∙ ap (λ l. signs l false) c.after-text.ensures in
    logs _ _ c.if-rest-eq0.false c.if-rest-ne32.false told c.if-right_signs.true
    (rw c.after-text.ensures at c.put_text-count.ensures)

pub returns : goal.returns
returns c =
    let told = c.right_signs.ensures ∙ ap (λ l. signs l false) c.after-text.ensures in
    bad_signs _ _ c.if-rest-eq0.false c.if-rest-ne32.false told c.if-right_signs.false
