-- `write` meets its contract by a law of `Writing`. Assumes nothing.
use Rattle.compiler.proofs.Writing.{written_on}
use Rattle.compiler.proofs.drafting.Drafting.write.Goals as goal

pub returns : goal.returns
returns c = λ st s e b h. rw (c.put_bytes.ensures.1, c.from-at.ensures, c.from-last.ensures, c.from.ensures) (written_on s {w = c.args.self.now} c.requires.room c.requires.data_room e b h)
