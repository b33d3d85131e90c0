-- `events::passing::bytes_passed` meets its contract. Assumes nothing.
use mathlib.Core.Path.{◌≡◌, ◌∙◌}
use native.Mathlib.Omega.{arith}
use lib.ListN.{length}
use Rattle.events.specs.Inside.Passing.{at_least1}
use Rattle.events.proofs.WaitsPassed.{least_max, least_over}
use Rattle.events.proofs.DataPassed.{bytes_end, bytes_stay}
use Rattle.events.proofs.passing.bytes_passed.Goals as goal

pub overflow_sub-result : goal.overflow_sub-result
overflow_sub-result c = omega (arith, c.from-left.ensures, least_over c.args.n (length c.args.run.now) (omega (arith, c.max-last.ensures, c.from-left.ensures, c.if-all-last.true, least_max c.args.n)))

pub returns-then-all-last : goal.returns-then-all-last
returns-then-all-last c pool =
    let a = c.args in
    let last : c.max-last.result ≡ at_least1 a.n = omega (arith, c.max-last.ensures, c.from-left.ensures, least_max a.n) in
    rw c.from-left.ensures (bytes_stay pool a.p.place a.p.end a.n a.run.now (rw last at c.if-all-last.true))

pub returns : goal.returns
returns c pool =
    let a = c.args in
    let last : c.max-last.result ≡ at_least1 a.n = omega (arith, c.max-last.ensures, c.from-left.ensures, least_max a.n) in
    c.ended.ensures
    ∙ rw last (bytes_end pool a.p.place a.p.end a.n a.run.now (rw last at c.if-all-last.false))
