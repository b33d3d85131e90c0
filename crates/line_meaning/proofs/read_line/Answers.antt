-- `read_line` meets its contract: each `return` is a law on what the line begins with. Assumes nothing.
use native.Mathlib.Omega.{arith}
use Rattle.language.specs.Script.{comment, blank}
use Rattle.line_meaning.proofs.Telling.{no_name}
use Rattle.line_meaning.proofs.Beginning.{too_long, reads, tells_blank, tells_comment, empty, semicolon, hash, slash, colon, blank_line, unknown_line}
use borrow.Author.Rules.{rules}
use Rattle.line_meaning.proofs.read_line.Goals as goal

pub returns-then-line-gt-LINE : goal.returns-then-line-gt-LINE
returns-then-line-gt-LINE c = too_long _ _ c.if-line-gt-LINE.true

pub returns-in-empty : goal.returns-in-empty
returns-in-empty c = reads _ blank c.if-line-gt-LINE.false (empty _ (omega (arith, c.in-empty.len_below))) (tells_blank _)

pub returns-in-59 : goal.returns-in-59
returns-in-59 c = reads _ comment c.if-line-gt-LINE.false (semicolon _ (λ e. omega (arith, c.in-59.len_at_least, e)) (search rules)) (tells_comment _)

pub returns-in-35 : goal.returns-in-35
returns-in-35 c = reads _ _ c.if-line-gt-LINE.false (hash _ (λ e. omega (arith, c.in-35.len_at_least, e)) (search rules)) c.named.ensures

pub returns-in-47 : goal.returns-in-47
returns-in-47 c = reads _ _ c.if-line-gt-LINE.false (slash _ (λ e. omega (arith, c.in-47.len_at_least, e)) (search rules)) c.send_text.ensures

pub returns-in-58 : goal.returns-in-58
returns-in-58 c = reads _ _ c.if-line-gt-LINE.false (colon _ (λ e. omega (arith, c.in-58.len_at_least, e)) (search rules)) c.send_hex.ensures

pub returns-in_default : goal.returns-in_default
returns-in_default c =
    reads _ blank c.if-line-gt-LINE.false (blank_line _ (λ e. omega (arith, c.in_default.len_at_least, e)) c.only_blanks.ensures
    (λ e. omega arith) (λ e. omega arith) (λ e. omega arith) c.if-only_blanks.true) (tells_blank _)

pub returns-in_default-2 : goal.returns-in_default-2
returns-in_default-2 c =
    reads _ _ c.if-line-gt-LINE.false (unknown_line _ (λ e. omega (arith, c.in_default.len_at_least, e)) c.only_blanks.ensures
    (λ e. omega arith) (λ e. omega arith) (λ e. omega arith) (λ e. omega arith) c.if-only_blanks.false) (no_name _)
