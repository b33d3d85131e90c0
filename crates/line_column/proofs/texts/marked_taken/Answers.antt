-- `marked_taken` meets its contract: each `return` is a case of `markedTaken`. Assumes nothing.
use mathlib.Core.Path.{◌∙◌}
use native.Mathlib.Omega.{arith}
use Rattle.language.specs.Column.{marked_taken}
use Rattle.line_column.proofs.Words.{behind_blanks_lem}
use Rattle.line_column.proofs.Marks.{nothing_marked, text_marked, hex_marked, unmarked}
use Rattle.line_column.proofs.texts.marked_taken.Goals as goal

pub returns-then-line-from : goal.returns-then-line-from
returns-then-line-from c = nothing_marked _ _ c.if-line-from.true ∙ behind_blanks_lem _ _ c.after_blanks-from.ensures marked_taken

pub returns-then-mark-eq47 : goal.returns-then-mark-eq47
returns-then-mark-eq47 c =
    let behind = behind_blanks_lem _ _ c.after_blanks-from.ensures marked_taken in
    text_marked _ _ (omega arith) c.if-mark-eq47.true ∙ behind

pub returns-then-mark-eq58 : goal.returns-then-mark-eq58
returns-then-mark-eq58 c =
    let behind = behind_blanks_lem _ _ c.after_blanks-from.ensures marked_taken in
    c.hex_taken.ensures ∙ hex_marked _ _ (omega arith) c.if-mark-eq47.false c.if-mark-eq58.true ∙ behind

pub returns : goal.returns
returns c =
    let behind = behind_blanks_lem _ _ c.after_blanks-from.ensures marked_taken in
    unmarked _ _ (omega arith) c.if-mark-eq47.false c.if-mark-eq58.false ∙ behind
