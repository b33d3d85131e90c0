-- `lister::lines::on_text` meets its contract. Assumes nothing.
use Rattle.lister.proofs.Printing.{printed_is, room_is}
use Rattle.lister.proofs.Texts.{level_on, level_off}
use Rattle.lister.proofs.lines.on_text.Goals as goal

pub put-requires : goal.put-requires
put-requires c = room_is (level_on c.if-on.true) c.requires

pub returns-then-on : goal.returns-then-on
returns-then-on c = printed_is (level_on c.if-on.true) c.put.ensures

pub put-requires-2 : goal.put-requires-2
put-requires-2 c = room_is (level_off c.if-on.false) c.requires

pub returns : goal.returns
returns c = printed_is (level_off c.if-on.false) c.put-2.ensures
