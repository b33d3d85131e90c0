-- `cut` meets its contract: the place behind the first word is within the part. Assumes nothing.
use mathlib.Core.Path.{ap, ◌∙◌}
use lib.ListN.{drop}
use Rattle.words.proofs.Places.{word_drop}
use Rattle.line_values.proofs.Cuts.{word_inside, word_length_lem, first_word}
use Rattle.line_meaning.proofs.part.Part.cut.Goals as goal

pub slice_bounds-word-end : goal.slice_bounds-word-end
slice_bounds-word-end c = word_length_lem _ c.word_end-end.ensures

pub after-requires : goal.after-requires
after-requires c = word_inside _ c.word_end-end.ensures

pub returns-clause-word : goal.returns-clause-word
returns-clause-word c = first_word _ c.word_end-end.ensures

pub returns-clause-rest : goal.returns-clause-rest
returns-clause-rest c = c.after.ensures ∙ ap (λ n. drop n c.args.self.bytes.now) c.word_end-end.ensures ∙ word_drop c.args.self.bytes.now 0
