-- `blank` meets its contract: each way is a case of `is_blank`. Assumes nothing.
use borrow.Author.Tests.{eq-eqb, ne_eqb}
use Rattle.reader.specs.Bytes.{is_blank}
use Rattle.reader.proofs.bytes.blank.Goals as goal

pub returns-then-b-eq32 : goal.returns-then-b-eq32
unfolding is_blank
returns-then-b-eq32 c = simp (eq-eqb _ _ c.if-b-eq32.true)

pub returns-else-b-eq32 : goal.returns-else-b-eq32
unfolding is_blank
returns-else-b-eq32 c = simp (ne_eqb _ _ c.if-b-eq32.false)
