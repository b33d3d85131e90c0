-- `events::recording::room_for` meets its contract. Assumes nothing.
use native.Mathlib.Omega.{arith}
use lib.ListN.{get_or, drop}
use Rattle.events.proofs.Copying.{times_few}
use Rattle.events.proofs.Records.{room_all, room_next, room_stops, room_end}
use Rattle.events.proofs.recording.room_for.Goals as goal

pub returns-then-run-room : goal.returns-then-run-room
returns-then-run-room c = let a = c.args in room_all a.heads a.paused a.run.now a.room (omega (arith, c.if-run-room.true))

pub loop-i-init : goal.loop-i-init
loop-i-init c = (omega arith, omega arith)

pub returns-then-left-lt2 : goal.returns-then-left-lt2
returns-then-left-lt2 c =
    let l = c.loop-i in
    let a = c.args in
    omega (arith, l.invariant.1, room_stops a.heads a.paused (drop l.i a.run.now) l.left c.if-left-lt2.true)

pub overflow_sub-left : goal.overflow_sub-left
overflow_sub-left c =
    let a = c.args in
    omega (arith, c.recorded.ensures, times_few a.heads (get_or a.run.now c.loop-i.i 0) a.paused)

pub loop-i-preserved : goal.loop-i-preserved
loop-i-preserved c =
    let l = c.loop-i in
    let a = c.args in
    let r = rw (← c.recorded.ensures) at (room_next a.heads a.paused a.run.now l.i l.left (omega arith) (omega arith)) in
    (omega arith, rw c.from-left.ensures (omega (arith, l.invariant.1, r)))

pub returns : goal.returns
returns c =
    let l = c.loop-i in
    let a = c.args in
    omega (arith, l.invariant.1, room_end a.heads a.paused a.run.now l.i l.left c.loop-i-test.false)
