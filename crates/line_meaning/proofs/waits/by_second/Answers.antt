-- `by_second` meets its contract: the table is parted by the length of the word. Assumes nothing.
use Rattle.line_meaning.proofs.Telling.{tells_as, quiet, no_name}
use Rattle.line_meaning.proofs.ByName.{so_long, no_second_word, five_quiet, six_quiet}
use Rattle.line_meaning.proofs.waits.by_second.Goals as goal

pub returns-then-word-eq4 : goal.returns-then-word-eq4
returns-then-word-eq4 c = tells_as (so_long _ _ 4 c.if-word-eq4.true) c.of_four.ensures

pub returns-then-word-eq5 : goal.returns-then-word-eq5
returns-then-word-eq5 c = tells_as (so_long _ _ 5 c.if-word-eq5.true) (quiet c.of_five.ensures (five_quiet _ _))

pub returns-then-word-eq6 : goal.returns-then-word-eq6
returns-then-word-eq6 c = tells_as (so_long _ _ 6 c.if-word-eq6.true) (quiet c.of_six.ensures (six_quiet _ _))

pub returns : goal.returns
returns c = tells_as (no_second_word _ _ c.if-word-eq4.false c.if-word-eq5.false c.if-word-eq6.false) (no_name _)
