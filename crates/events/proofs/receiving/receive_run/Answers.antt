-- `events::receiving::receive_run` meets its contract. Assumes nothing.
use mathlib.Core.Path.{sym, ◌∙◌}
use Prim.Native.Nat.{◌≤◌}
use native.Mathlib.Omega.{arith}
use lib.ListN.{length}
use Rattle.process.specs.Waiting.{ready, byte_taken}
use Rattle.process.specs.State.{any}
use Rattle.events.specs.Inside.Passing.{each}
use Rattle.events.proofs.Reach.{reach_le}
use Rattle.events.proofs.Records.{room_le, part_fits}
use Rattle.events.proofs.GulpsReach.{bytes_wrong, bytes_busy, bytes_took, ranges_all}
use Rattle.events.proofs.receiving.receive_run.Goals as goal

pub returns-then-not-ranges_right : goal.returns-then-not-ranges_right
returns-then-not-ranges_right c =
    let a = c.args in
    let x = bytes_wrong a.pool.now a.heads a.s a.run.now a.records.now (sym c.ranges_right.ensures ∙ c.if-not-ranges_right.true) in
    (c.refuse.ensures ∙ x.0, x.1)

pub returns-then-any_ready : goal.returns-then-any_ready
returns-then-any_ready c =
    let a = c.args in
    let x = bytes_busy a.pool.now a.heads a.s a.run.now (sym c.ranges_right.ensures ∙ c.if-not-ranges_right.false) a.records.now
    (sym c.any_ready.ensures ∙ c.if-any_ready.true)
    in
    (c.refuse-then-any_ready.ensures ∙ x.0, x.1)

pub first-fitting-requires : goal.first-fitting-requires
first-fitting-requires c =
    let a = c.args in
    omega (arith, c.room_for.ensures, room_le a.heads a.s.paused a.run.now (length a.records.now))

pub pass_run-pass-requires : goal.pass_run-pass-requires
pass_run-pass-requires c =
    (ranges_all c.args.heads c.args.s (sym c.ranges_right.ensures ∙ c.if-not-ranges_right.false), sym c.any_ready.ensures ∙ c.if-any_ready.false)

pub first-requires : goal.first-requires
first-requires c =
    let a = c.args in
    omega (arith, c.pass_run-pass.ensures.0, reach_le (each (byte_taken a.pool.now)) (any ready) c.first-fitting.result.now a.s.processes)

pub record_run-recorded-requires : goal.record_run-recorded-requires
record_run-recorded-requires c =
    let a = c.args in
    let few : c.pass_run-pass.result.count ≤ length c.first-fitting.result.now =
    omega (arith, c.pass_run-pass.ensures.0, reach_le (each (byte_taken a.pool.now)) (any ready) c.first-fitting.result.now a.s.processes)
    in
    part_fits a.heads a.s.paused a.run.now (length a.records.now) c.room_for.ensures c.first-fitting.ensures.0 few c.first.ensures.0

pub returns : goal.returns
returns c =
    let a = c.args in
    bytes_took a.pool.now a.heads a.s a.run.now (sym c.ranges_right.ensures ∙ c.if-not-ranges_right.false) a.records.now
    (sym c.any_ready.ensures ∙ c.if-any_ready.false) c.room_for.ensures c.first-fitting.ensures.0 c.pass_run-pass.ensures.0 c.pass_run-pass.ensures.1
    c.first.ensures.0 c.record_run-recorded.ensures.0 c.record_run-recorded.ensures.1
