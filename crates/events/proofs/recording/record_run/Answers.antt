-- `events::recording::record_run` meets its contract. Assumes nothing.
use native.Mathlib.Omega.{arith}
use lib.ListN.{get_or}
use Rattle.reader.proofs.Placing.{begun, renamed, placed}
use Rattle.events.proofs.Copying.{times_few}
use Rattle.events.proofs.Records.{records_fit, records_on, records_end}
use Rattle.events.proofs.recording.record_run.Goals as goal

pub loop-i-init : goal.loop-i-init
loop-i-init c = (omega arith, begun (omega (arith, c.requires)))

pub put_copies-requires : goal.put_copies-requires
put_copies-requires c =
    let a = c.args in
    let l = c.loop-i in
    let e = c.recorded-count.ensures in (
      omega (arith, e, times_few a.heads (get_or a.run.now l.i 0) a.paused),
      omega (arith, e, records_fit a.heads a.paused a.run.now l.i (omega arith) l.invariant.1),
    )

pub overflow_add-at : goal.overflow_add-at
overflow_add-at c =
    let a = c.args in
    let l = c.loop-i in
    omega (arith, c.recorded-count.ensures, records_fit a.heads a.paused a.run.now l.i (omega arith) l.invariant.1, l.invariant.1.long)

pub loop-i-preserved : goal.loop-i-preserved
loop-i-preserved c =
    let a = c.args in
    let l = c.loop-i in (
      omega arith,
      rw (c.from-at.ensures, c.put_copies.ensures, c.recorded-count.ensures)
          (records_on a.heads a.paused a.run.now l.i (omega arith) l.invariant.1),
    )

pub shape_of-out : goal.shape_of-out
shape_of-out c = c.loop-i.invariant.1.long

pub returns : goal.returns
returns c =
    let l = c.loop-i in
    let a = c.args in
    let w = renamed (records_end a.heads a.paused a.run.now l.i c.loop-i-test.false) l.invariant.1 in
    (omega (arith, w.ends), placed w)
