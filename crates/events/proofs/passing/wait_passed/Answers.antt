-- `events::passing::wait_passed` meets its contract. Assumes nothing.
use mathlib.Core.Path.{◌≡◌, sym, ap, ◌∙◌}
use Prim.Native.Nat.{ℕ}
use Rattle.process.specs.Waiting.{ready_wait, wait_right}
use Rattle.events.specs.Inside.Passing.{byte_on, passed_by}
use Rattle.events.proofs.DataCases.{others_stay}
use Rattle.events.proofs.DataPassed.{passed_all}
use Rattle.events.proofs.Reach.{stays_reach, stays_through}
use Rattle.events.proofs.passing.wait_passed.Goals as goal

pub data_passed-requires : goal.data_passed-requires
data_passed-requires c =
    let p = c.requires in
    (sym (ap wait_right c.in-Data.is) ∙ p.0, rw c.in-Data.is at p.2)

pub returns-in-Bytes : goal.returns-in-Bytes
returns-in-Bytes c =
    let a = c.args in
    (c.bytes_passed.ensures a.pool.now ∙ sym (ap (passed_by a.pool.now a.p.place a.p.end a.run.now) c.in-Bytes.is), c.requires.2)

pub returns-in-Data : goal.returns-in-Data
returns-in-Data c =
    let a = c.args in (
      c.data_passed.ensures.0 ∙ sym (ap (passed_by a.pool.now a.p.place a.p.end a.run.now) c.in-Data.is),
      rw c.in-Data.is c.data_passed.ensures.1,
    )

pub returns-in_default : goal.returns-in_default
returns-in_default c =
    let a = c.args in
    let stays : (x : ℕ) → byte_on a.pool.now a.p.place a.p.end x a.p.wait ≡ a.p.wait = λ x. sym (others_stay a.pool.now x a.p.place a.p.end a.p.wait c.in_default.not-Bytes c.in_default.not-Data) in (
      passed_all a.pool.now a.p.place a.p.end a.p.wait a.p.wait a.run.now
          (stays_reach (byte_on a.pool.now a.p.place a.p.end) ready_wait a.p.wait stays c.requires.1 a.run.now)
          (stays_through (byte_on a.pool.now a.p.place a.p.end) ready_wait a.p.wait stays a.run.now),
      c.requires.2,
    )
