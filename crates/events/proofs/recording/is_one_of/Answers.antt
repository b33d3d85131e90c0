-- `events::recording::is_one_of` meets its contract: the bytes from i on decide. Assumes nothing.
use mathlib.Core.Path.{refl}
use native.Mathlib.Omega.{arith}
use Rattle.events.proofs.Copying.{seek_enough, seek_past, seek_found, seek_on}
use Rattle.events.proofs.recording.is_one_of.Goals as goal

pub loop-i-init : goal.loop-i-init
loop-i-init c = record { whole = refl }

pub returns-then-count-i : goal.returns-then-count-i
returns-then-count-i c = seek_enough c.loop-i.invariant c.if-count-i.true

pub returns-then-bytes-i : goal.returns-then-bytes-i
returns-then-bytes-i c = seek_found c.loop-i.invariant (omega arith) (omega arith) c.if-bytes-i.true

pub loop-i-preserved : goal.loop-i-preserved
loop-i-preserved c = seek_on c.loop-i.invariant (omega arith) (omega arith) c.if-bytes-i.false

pub returns : goal.returns
returns c = seek_past c.loop-i.invariant c.loop-i-test.false
