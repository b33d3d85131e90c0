-- `largest` meets its contract: what is answered is right. Assumes nothing.
use Rattle.std.proofs.Common.{◌≡◌}
use Rattle.stretch.specs.Marks.{processes_of}
use Rattle.stretch.specs.Inside.Measured.{measured}
use Rattle.stretch.proofs.Reports.{measured_reported}
use Rattle.stretch.proofs.largest.Goals as goal

pub returns : goal.returns
unfolding processes_of
returns c =
    let a = c.args in
    let e : c.measure_all.result ≡ measured a.cells.now a.heads = rw c.from.ensures at c.measure_all.ensures in
    record { value = e; reported = rw e (measured_reported a.cells.now a.heads) }
