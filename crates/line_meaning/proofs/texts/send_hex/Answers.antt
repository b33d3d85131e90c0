-- `send_hex` meets its contract: each `return` is a case of what is found. Assumes nothing.
use Rattle.std.proofs.lemmas.Result.{err_from_is_err_and}
use Rattle.line_meaning.proofs.Filling.{found_as, sends, sends_none}
use Rattle.line_meaning.proofs.texts.send_hex.Goals as goal

pub returns-in_err-count : goal.returns-in_err-count
returns-in_err-count c =
    let p = err_from_is_err_and c.from_residual.result c.from_residual.ensures.1 in
    rw (p.1, p.2) (sends_none (found_as c.in_err-count.was c.read_hex.ensures))

pub returns : goal.returns
returns c = sends (found_as c.in_ok-count.was c.read_hex.ensures)
