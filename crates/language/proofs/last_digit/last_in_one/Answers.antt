-- `last_in_one` meets its contract: each way on is a law on the definition. Assumes nothing.
use native.Mathlib.Omega.{arith}
use Rattle.language.proofs.LastDigit.{no_last, not_full, full}
use Rattle.language.proofs.last_digit.last_in_one.Goals as goal

pub returns-in-empty : goal.returns-in-empty
returns-in-empty c = no_last _ _ (omega arith)

pub returns-then-front-room : goal.returns-then-front-room
returns-then-front-room c = full _ _ c.in-len1-up.len_at_least c.if-front-room.true

pub returns-else-front-room : goal.returns-else-front-room
returns-else-front-room c = not_full _ _ c.in-len1-up.len_at_least c.if-front-room.false
