-- The process after its statement, or none, where a place, loop or data range leaves the table.
use Rattle.std.specs.Prelude.{Option}
use Rattle.std.specs.Bool.{then_some}
use Rattle.process.specs.declared.Process.{Process}
use Rattle.statement.specs.Ways.{Moved}

abbrev pub in_table : Moved → Option Process
in_table m = then_some m.found m.process
