-- `put_two_digits` meets its contract: its two bytes are put. Assumes nothing.
use Rattle.writer.specs.Put.{two_digits}
use Rattle.writer.proofs.put_two_digits.Goals as goal

pub returns : goal.returns
unfolding two_digits
returns c = c.put_bytes.ensures
