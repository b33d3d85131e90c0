-- `lister::lines::letter` meets its contract. Assumes nothing.
use native.Mathlib.Omega.{arith}
use Rattle.lister.proofs.Clocking.{is_second, is_minute, is_hour, is_day}
use Rattle.lister.proofs.lines.letter.Goals as goal

pub returns-in-0 : goal.returns-in-0
returns-in-0 c = is_second _ (omega arith)

pub returns-in-2 : goal.returns-in-2
returns-in-2 c = is_minute _ (omega arith) (omega arith)

pub returns-in-3 : goal.returns-in-3
returns-in-3 c = is_hour _ (omega arith) (omega arith) (omega arith)

pub returns-in_default : goal.returns-in_default
returns-in_default c = is_day _ (omega arith) (omega arith) (omega arith)
