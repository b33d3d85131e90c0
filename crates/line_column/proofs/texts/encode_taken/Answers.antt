-- `encode_taken` meets its contract: each `return` is a case of `encodeTaken`. Assumes nothing.
use mathlib.Core.Path.{sym, ◌∙◌}
use native.Mathlib.Omega.{arith}
use Rattle.language.specs.Column.{encode_taken}
use Rattle.line_column.proofs.Words.{behind_blanks_lem}
use Rattle.line_column.proofs.Marks.{nothing_encoded, digits_all, digits_to, byte_encoded}
use Rattle.line_column.proofs.texts.encode_taken.Goals as goal

pub returns-then-line-from : goal.returns-then-line-from
returns-then-line-from c = nothing_encoded _ _ c.if-line-from.true ∙ behind_blanks_lem _ _ c.after_blanks-from.ensures encode_taken

pub returns-in-Ok : goal.returns-in-Ok
returns-in-Ok c =
    let behind = behind_blanks_lem _ _ c.after_blanks-from.ensures encode_taken in
    digits_all _ _ (omega arith) c.if-line-from-eq58.true (sym c.in-Ok.is ∙ c.hex_byte.ensures) ∙ behind

pub returns-in-Err : goal.returns-in-Err
returns-in-Err c =
    let behind = behind_blanks_lem _ _ c.after_blanks-from.ensures encode_taken in
    digits_to _ _ (omega arith) c.if-line-from-eq58.true (sym c.in-Err.is ∙ c.hex_byte.ensures) ∙ behind

pub returns : goal.returns
returns c =
    let behind = behind_blanks_lem _ _ c.after_blanks-from.ensures encode_taken in
    byte_encoded _ _ (omega arith) c.if-line-from-eq58.false ∙ behind
