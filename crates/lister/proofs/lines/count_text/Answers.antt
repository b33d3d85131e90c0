-- `lister::lines::count_text` meets its contract. Assumes nothing.
use Rattle.lister.proofs.Printing.{printed_is, room_is}
use Rattle.lister.proofs.Texts.{for_ever, so_often}
use Rattle.lister.proofs.lines.count_text.Goals as goal

pub put-requires : goal.put-requires
put-requires c = room_is (for_ever _ c.if-n-eq0.true) c.requires

pub returns-then-n-eq0 : goal.returns-then-n-eq0
returns-then-n-eq0 c = printed_is (for_ever _ c.if-n-eq0.true) c.put.ensures

pub number-requires : goal.number-requires
number-requires c = room_is (so_often _ c.from.ensures c.if-n-eq0.false) c.requires

pub returns : goal.returns
returns c = printed_is (so_often _ c.from.ensures c.if-n-eq0.false) c.number.ensures
