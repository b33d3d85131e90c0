-- `lister::lines::signal_text` meets its contract. Assumes nothing.
use Rattle.lister.proofs.Printing.{printed_is, room_is}
use Rattle.lister.proofs.Texts.{is_cts, is_ex}
use Rattle.lister.proofs.lines.signal_text.Goals as goal

pub put-requires : goal.put-requires
put-requires c = room_is (is_cts _ c.if-n-eq0.true) c.requires.1

pub returns-then-n-eq0 : goal.returns-then-n-eq0
returns-then-n-eq0 c = printed_is (is_cts _ c.if-n-eq0.true) c.put.ensures

pub put-requires-2 : goal.put-requires-2
put-requires-2 c = room_is (is_ex _ c.if-n-eq0.false) c.requires.1

pub returns : goal.returns
returns c = printed_is (is_ex _ c.if-n-eq0.false) c.put-2.ensures
