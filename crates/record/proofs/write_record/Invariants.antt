-- `record::write_record` meets its contract: each turn of the loop is a law on its state, `Cutting`. Assumes nothing.
use Rattle.std.proofs.Common.{false, drop}
use Rattle.record.specs.Logging.{written_out}
use Rattle.record.proofs.Cutting.{Cutting}
use Rattle.record.proofs.write_record.Given as goal

abbrev pub invariant-loop-b : goal.invariant-loop-b
invariant-loop-b l =
    Cutting l.initial.out (written_out l.fn.r l.fn.count l.text false) l.out l.at (written_out l.fn.r l.fn.count (drop l.b-index l.text) l.signed)
