-- `after_blanks` meets its contract: what is counted off the front is the spaces and tabs. Assumes nothing.
use Rattle.std.proofs.Common.{arith}
use Rattle.reader.specs.Bytes.{is_blank}
use Rattle.words.proofs.Passing.{counted_few, blanks_at}
use Rattle.words.proofs.after_blanks.Goals as goal

pub overflow_add-result : goal.overflow_add-result
overflow_add-result c = omega (arith, c.rest.ensures.fits, c.blanks.ensures, counted_few is_blank c.rest.result.now)

pub returns : goal.returns
returns c = blanks_at _ _ c.rest.ensures.there c.blanks.ensures
