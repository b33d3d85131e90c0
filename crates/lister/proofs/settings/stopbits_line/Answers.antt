-- `lister::settings::stopbits_line` meets its contract. Assumes nothing.
use Rattle.reader.specs.Ascii.{ascii}
use Rattle.lister.proofs.Printing.{printed_none, printed_is, room_is}
use Rattle.lister.proofs.Setting.{stands, stands_not}
use Rattle.lister.proofs.settings.stopbits_line.Goals as goal

pub put-requires : goal.put-requires
put-requires c = room_is (stands (ascii "#f:STOPBITS 2") c.if-two.true) c.requires

pub returns-then-two : goal.returns-then-two
returns-then-two c = printed_is (stands (ascii "#f:STOPBITS 2") c.if-two.true) c.put.ensures

pub returns : goal.returns
returns c = printed_is (stands_not (ascii "#f:STOPBITS 2") c.if-two.false) printed_none
