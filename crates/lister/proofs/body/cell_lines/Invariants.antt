-- `lister::body::cell_lines` meets its contract: the cells from the next on are left. Assumes nothing.
use lib.ListN.{drop}
use Rattle.language.specs.Table.{items_of}
use Rattle.lister.specs.Inside.Printed.{printed_items, printed_cells}
use Rattle.lister.proofs.Printing.{Printing}
use Rattle.lister.proofs.body.cell_lines.Given as goal

abbrev pub invariant-loop-w : goal.invariant-loop-w
invariant-loop-w l = Printing (printed_cells l.pool l.cells l.from l.end) l.initial.out l.at l.out l.place (printed_items (items_of l.pool (drop l.w-index l.w-items)))
