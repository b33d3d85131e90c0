-- `word_end` meets its contract: what is counted off the front is the word. Assumes nothing.
use Rattle.std.proofs.Common.{arith, not}
use Rattle.reader.specs.Bytes.{is_blank}
use Rattle.words.proofs.Passing.{counted_few, word_at}
use Rattle.words.proofs.word_end.Goals as goal

pub overflow_add-result : goal.overflow_add-result
overflow_add-result c = omega (arith, c.rest.ensures.fits, c.word.ensures, counted_few (λ b. not (is_blank b)) c.rest.result.now)

pub returns : goal.returns
returns c = word_at _ _ c.rest.ensures.there c.word.ensures
