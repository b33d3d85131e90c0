-- `put_bytes` meets its contract: without room nothing is written, and with it all. Assumes nothing.
use mathlib.Core.Path.{sym, ◌∙◌}
use borrow.Author.Tests.{leb-true, leb-false}
use Rattle.writer.proofs.Writing.{copied, no_room}
use Rattle.writer.proofs.put_bytes.Goals as goal

pub returns-then-not-has_room : goal.returns-then-not-has_room
returns-then-not-has_room c = no_room _ _ _ (leb-false _ _ (sym c.has_room.ensures ∙ c.if-not-has_room.true))

pub returns : goal.returns
returns c = copied _ _ _ _ (leb-true _ _ (sym c.has_room.ensures ∙ c.if-not-has_room.false)) c.copy_from_slice.ensures.after
