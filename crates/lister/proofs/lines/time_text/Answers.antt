-- `lister::lines::time_text` meets its contract. Assumes nothing.
use Prim.Native.Nat.{◌/◌}
use Rattle.reader.specs.Ascii.{ascii}
use Rattle.writer.specs.Put.{decimal}
use Rattle.lister.proofs.Printing.{printed_is, printed_more, room_is, first_room, then_room}
use Rattle.lister.proofs.Texts.{in_ms, in_s}
use Rattle.lister.proofs.lines.time_text.Goals as goal

pub number-next-requires : goal.number-next-requires
number-next-requires c = first_room (decimal c.args.n) (ascii "MS") (room_is (in_ms _ c.if-n-le60000.true) c.requires)

pub put-requires : goal.put-requires
put-requires c =
    then_room (decimal c.args.n) (ascii "MS") (room_is (in_ms _ c.if-n-le60000.true) c.requires)
    c.number-next.ensures.place

pub returns-then-n-le60000 : goal.returns-then-n-le60000
returns-then-n-le60000 c = printed_is (in_ms _ c.if-n-le60000.true) (printed_more c.number-next.ensures c.put.ensures)

pub number-next-requires-2 : goal.number-next-requires-2
number-next-requires-2 c =
    first_room (decimal (c.args.n / 1000)) (ascii "S")
    (room_is (in_s _ c.if-n-le60000.false) c.requires)

pub put-requires-2 : goal.put-requires-2
put-requires-2 c =
    then_room (decimal (c.args.n / 1000)) (ascii "S") (room_is (in_s _ c.if-n-le60000.false) c.requires)
    c.number-next-2.ensures.place

pub returns : goal.returns
returns c = printed_is (in_s _ c.if-n-le60000.false) (printed_more c.number-next-2.ensures c.put-2.ensures)
