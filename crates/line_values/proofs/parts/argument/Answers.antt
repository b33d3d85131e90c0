-- `argument` meets its contract: the places are those of the blanks around it. Assumes nothing.
use Rattle.line_values.proofs.Cuts.{from_within, end_within, argument_is}
use borrow.Author.Rules.{rules}
use Rattle.line_values.proofs.parts.argument.Goals as goal

pub slice_bounds-tail-count : goal.slice_bounds-tail-count
slice_bounds-tail-count c = from_within _ c.after_blanks-from.ensures

pub slice_bounds-tail-start : goal.slice_bounds-tail-start
slice_bounds-tail-start c = let h = from_within _ c.after_blanks-from.ensures in search rules

pub slice_bounds-result-end : goal.slice_bounds-result-end
slice_bounds-result-end c = end_within _ c.trimmed_end-end.ensures

pub returns : goal.returns
returns c = argument_is _ c.after_blanks-from.ensures c.trimmed_end-end.ensures
