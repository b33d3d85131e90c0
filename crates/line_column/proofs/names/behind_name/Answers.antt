-- `behind_name` meets its contract: each `return` is a name of the table. Assumes nothing.
use mathlib.Core.Path.{◌∙◌}
use Rattle.reader.specs.Ascii.{ascii}
use Rattle.reader.specs.Bytes.{same}
use Rattle.language.specs.Column.{taken_by, names_behind}
use Rattle.line_column.specs.Inside.Behind.{settings_behind}
use Rattle.line_column.proofs.Naming.{it_is, not_named, past}
use Rattle.line_column.proofs.names.behind_name.Goals as goal

pub returns-then-is_named : goal.returns-then-is_named
unfolding settings_behind names_behind taken_by same
returns-then-is_named c = c.in_word.ensures ∙ it_is _ _ _ names_behind (ascii "#LOOP") c.is_named.ensures c.if-is_named.true

pub returns-then-is_named-2 : goal.returns-then-is_named-2
unfolding settings_behind names_behind taken_by same
returns-then-is_named-2 c = c.wait_taken.ensures ∙ it_is _ _ _ names_behind (ascii "#WAIT") c.is_named-2.ensures c.if-is_named-2.true

pub returns-then-is_named-3 : goal.returns-then-is_named-3
unfolding settings_behind names_behind taken_by same
returns-then-is_named-3 c = c.in_word-then-is_named-3.ensures ∙ it_is _ _ _ names_behind (ascii "#RTS") c.is_named-3.ensures c.if-is_named-3.true

pub returns-then-is_named-4 : goal.returns-then-is_named-4
unfolding settings_behind names_behind taken_by same
returns-then-is_named-4 c = c.log_taken.ensures ∙ it_is _ _ _ names_behind (ascii "#LOG") c.is_named-4.ensures c.if-is_named-4.true

pub returns : goal.returns
unfolding settings_behind names_behind
returns c =
    let no_loop = not_named _ _ _ _ c.is_named.ensures c.if-is_named.false in
    let no-wait = not_named _ _ _ _ c.is_named-2.ensures c.if-is_named-2.false in
    let no-rts = not_named _ _ _ _ c.is_named-3.ensures c.if-is_named-3.false in
    let no-log = not_named _ _ _ _ c.is_named-4.ensures c.if-is_named-4.false in
    c.behind_setting.ensures ∙ past _ _ _ 4 names_behind (no_loop, (no-wait, (no-rts, (no-log, tt))))
