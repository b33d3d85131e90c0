-- `behind_second` meets its contract: each `return` is a name of the table. Assumes nothing.
use mathlib.Core.Path.{◌∙◌}
use Rattle.reader.specs.Ascii.{ascii}
use Rattle.reader.specs.Bytes.{same}
use Rattle.language.specs.Column.{taken_by, waits_behind}
use Rattle.line_column.proofs.Naming.{it_is, not_named, past, no_name}
use Rattle.line_column.proofs.names.behind_second.Goals as goal

pub returns-then-is_named : goal.returns-then-is_named
unfolding waits_behind taken_by same
returns-then-is_named c = c.in_word.ensures ∙ it_is _ _ _ waits_behind (ascii "TIME") c.is_named.ensures c.if-is_named.true

pub returns-then-is_named-2 : goal.returns-then-is_named-2
unfolding waits_behind taken_by same
returns-then-is_named-2 c = c.marked_taken.ensures ∙ it_is _ _ _ waits_behind (ascii "DATA") c.is_named-2.ensures c.if-is_named-2.true

pub returns-then-is_named-3 : goal.returns-then-is_named-3
unfolding waits_behind taken_by same
returns-then-is_named-3 c = c.in_word-then-is_named-3.ensures ∙ it_is _ _ _ waits_behind (ascii "BYTE") c.is_named-3.ensures c.if-is_named-3.true

pub returns-then-is_named-4 : goal.returns-then-is_named-4
unfolding waits_behind taken_by same
returns-then-is_named-4 c = c.in_word-then-is_named-4.ensures ∙ it_is _ _ _ waits_behind (ascii "CLOCK") c.is_named-4.ensures c.if-is_named-4.true

pub returns : goal.returns
unfolding waits_behind
returns c =
    let no-time = not_named _ _ _ _ c.is_named.ensures c.if-is_named.false in
    let no_data = not_named _ _ _ _ c.is_named-2.ensures c.if-is_named-2.false in
    let no_byte = not_named _ _ _ _ c.is_named-3.ensures c.if-is_named-3.false in
    let no_clock = not_named _ _ _ _ c.is_named-4.ensures c.if-is_named-4.false in
    c.after_blanks.ensures ∙ no_name _ _ _ ∙ past _ _ _ 4 waits_behind (no-time, (no_data, (no_byte, (no_clock, tt))))
