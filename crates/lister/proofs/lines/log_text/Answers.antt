-- `lister::lines::log_text` meets its contract. Assumes nothing.
use Rattle.reader.specs.Ascii.{ascii}
use Rattle.lister.proofs.Printing.{printed_is, printed_more, room_is, first_room, then_room}
use Rattle.lister.proofs.Texts.{log_empty, log_full}
use Rattle.lister.proofs.lines.log_text.Goals as goal

pub put-requires : goal.put-requires
put-requires c = room_is (log_empty _ c.if-text-eq0.true) c.requires

pub returns-then-text-eq0 : goal.returns-then-text-eq0
returns-then-text-eq0 c = printed_is (log_empty _ c.if-text-eq0.true) c.put.ensures

pub put-next-requires : goal.put-next-requires
put-next-requires c = first_room (ascii "#LOG ") c.args.text.now (room_is (log_full _ c.if-text-eq0.false) c.requires)

pub put-requires-2 : goal.put-requires-2
put-requires-2 c =
    then_room (ascii "#LOG ") c.args.text.now (room_is (log_full _ c.if-text-eq0.false) c.requires)
    c.put-next.ensures.place

pub returns : goal.returns
returns c = printed_is (log_full _ c.if-text-eq0.false) (printed_more c.put-next.ensures c.put-2.ensures)
