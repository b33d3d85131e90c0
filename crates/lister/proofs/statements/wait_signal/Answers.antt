-- `lister::statements::wait_signal` meets its contract. Assumes nothing.
use Rattle.lister.proofs.Printing.{printed_more}
use Rattle.lister.proofs.statements.wait_signal.Goals as goal

pub returns : goal.returns
returns c =
    printed_more c.put-name.ensures (printed_more c.signal_text-next.ensures
    c.on_text.ensures)
