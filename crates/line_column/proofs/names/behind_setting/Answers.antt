-- `behind_setting` meets its contract: each `return` is a name of the table, or one of four. Assumes nothing.
use mathlib.Core.Path.{◌≡◌, ◌∙◌}
use Prim.Native.Nat.{◌+◌}
use lib.ListN.{drop}
use Rattle.reader.specs.Ascii.{ascii}
use Rattle.reader.specs.Bytes.{same}
use Rattle.language.specs.Meaning.{ex_in}
use Rattle.language.specs.Column.{taken_by, names_behind, behind_blanks, in_word, in_taken}
use Rattle.line_column.specs.Inside.Behind.{settings_behind, taken_to}
use Rattle.line_column.proofs.Naming.{it_is, not_named, past, no_name}
use Rattle.line_column.proofs.names.behind_setting.Goals.{then-is_named-2-via-then-is_named-2, then-is_named-2-via-else-is_named-2+then-is_named-3, then-is_named-2-via-else-is_named-2+else-is_named-3+then-is_named-4, then-is_named-2-via-else-is_named-2+else-is_named-3+else-is_named-4+then-is_named-5}
use Rattle.line_column.proofs.names.behind_setting.Goals as goal

pub returns-then-is_named : goal.returns-then-is_named
unfolding settings_behind names_behind taken_by same
returns-then-is_named c = c.encode_taken.ensures ∙ it_is _ _ _ settings_behind (ascii "#f:ENCODE") c.is_named.ensures c.if-is_named.true

pub returns-then-is_named-2 : goal.returns-then-is_named-2
unfolding settings_behind names_behind taken_by same
returns-then-is_named-2 c =
    let taken : c.args.to + behind_blanks (in_word ex_in in_taken) (drop c.args.to c.args.line.now) ≡ taken_to settings_behind c.args.line.now 0 c.args.to =
    elim c.then-is_named-2.branch [
      | then-is_named-2-via-then-is_named-2 w ↦ it_is _ _ _ settings_behind (ascii "#f:EX1") c.is_named-2.ensures w.if-is_named-2.true
      | then-is_named-2-via-else-is_named-2+then-is_named-3 w ↦ it_is _ _ _ settings_behind (ascii "#f:EX2") w.is_named-else-is_named-2.ensures w.if-is_named-3.true
      | then-is_named-2-via-else-is_named-2+else-is_named-3+then-is_named-4 w ↦ it_is _ _ _ settings_behind (ascii "#f:EX3") w.is_named-else-is_named-3.ensures w.if-is_named-4.true
      | then-is_named-2-via-else-is_named-2+else-is_named-3+else-is_named-4+then-is_named-5 w ↦ it_is _ _ _ settings_behind (ascii "#f:EX4") w.is_named-else-is_named-4.ensures w.if-is_named-5.true
    ] in
    c.in_word.ensures ∙ taken

pub returns-then-is_named-6 : goal.returns-then-is_named-6
unfolding settings_behind names_behind taken_by same
returns-then-is_named-6 c = c.marked_taken.ensures ∙ it_is _ _ _ settings_behind (ascii "#f:OMIT") c.is_named-3.ensures c.if-is_named-6.true

pub returns-then-is_named-7 : goal.returns-then-is_named-7
unfolding settings_behind names_behind taken_by same
returns-then-is_named-7 c = c.in_word-then-is_named-7.ensures ∙ it_is _ _ _ settings_behind (ascii "#f:LFEXT") c.is_named-4.ensures c.if-is_named-7.true

pub returns : goal.returns
unfolding settings_behind names_behind
returns c =
    let no-encode = not_named _ _ _ _ c.is_named.ensures c.if-is_named.false in
    let no-ex1 = not_named _ _ _ _ c.is_named-2.ensures c.if-is_named-2.false in
    let no-ex2 = not_named _ _ _ _ c.is_named-else-is_named-2.ensures c.if-is_named-3.false in
    let no-ex3 = not_named _ _ _ _ c.is_named-else-is_named-3.ensures c.if-is_named-4.false in
    let no-ex4 = not_named _ _ _ _ c.is_named-else-is_named-4.ensures c.if-is_named-5.false in
    let no-omit = not_named _ _ _ _ c.is_named-3.ensures c.if-is_named-6.false in
    let no-lfext = not_named _ _ _ _ c.is_named-4.ensures c.if-is_named-7.false in
    c.after_blanks.ensures ∙ no_name _ _ _ ∙ past _ _ _ 7 settings_behind (no-encode, (no-ex1, (no-ex2, (no-ex3, (no-ex4, (no-omit, (no-lfext, tt)))))))
