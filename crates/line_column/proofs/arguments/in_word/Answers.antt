-- `in_word` meets its contract: each `return` is a case of `in_word`, behind the blanks. Assumes nothing.
use mathlib.Core.Path.{◌∙◌}
use Rattle.language.specs.Column.{in_word}
use Rattle.line_column.specs.Inside.Kinds.{reader_of, taken_of}
use Rattle.line_column.proofs.Words.{from_within, behind_blanks_lem, end_behind, end_within, bad_byte, not_right, next_word}
use borrow.Author.Rules.{rules}
use Rattle.line_column.proofs.arguments.in_word.Goals as goal

pub slice_bounds-word-count : goal.slice_bounds-word-count
slice_bounds-word-count c = end_behind _ _ c.word_end-end.ensures

pub slice_bounds-word-start : goal.slice_bounds-word-start
slice_bounds-word-start c = let h = end_behind _ _ c.word_end-end.ensures in search rules

pub slice_bounds-word-end : goal.slice_bounds-word-end
slice_bounds-word-end c = end_within _ _ c.word_end-end.ensures (from_within _ _ c.after_blanks-from.ensures c.requires)

pub overflow_sub-end : goal.overflow_sub-end
overflow_sub-end c = end_behind _ _ c.word_end-end.ensures

pub returns-then-count-end : goal.returns-then-count-end
returns-then-count-end c =
    let kind = c.args.kind in
    let behind = behind_blanks_lem _ _ c.after_blanks-from.ensures (in_word (reader_of kind) (taken_of kind)) in
    bad_byte _ _ c.word_end-end.ensures (reader_of kind) (taken_of kind) c.word_taken-count.ensures c.if-count-end.true ∙ behind

pub returns-then-not-right_word : goal.returns-then-not-right_word
returns-then-not-right_word c =
    let kind = c.args.kind in
    let behind = behind_blanks_lem _ _ c.after_blanks-from.ensures (in_word (reader_of kind) (taken_of kind)) in
    not_right _ _ c.word_end-end.ensures (reader_of kind) (taken_of kind) c.word_taken-count.ensures c.if-count-end.false
    c.right_word.ensures c.if-not-right_word.true ∙ behind

pub returns : goal.returns
returns c =
    let kind = c.args.kind in
    let behind = behind_blanks_lem _ _ c.after_blanks-from.ensures (in_word (reader_of kind) (taken_of kind)) in
    c.after_blanks.ensures ∙ next_word _ _ c.word_end-end.ensures (reader_of kind) (taken_of kind) c.word_taken-count.ensures
    c.if-count-end.false c.right_word.ensures c.if-not-right_word.false ∙ behind
