-- `lister::printer::whole` meets its contract. Assumes nothing.
use Rattle.language.specs.declared.Table.{Table}
use Rattle.accepted.specs.Inside.Heads.{ends_of}
use Rattle.lister.specs.Inside.Printed.{printed_settings, printed_body}
use Rattle.lister.proofs.Printing.{printed_is, printed_more, room_is, first_room, then_room}
use Rattle.lister.proofs.Setting.{listing_parts}
use Rattle.lister.proofs.printer.whole.Goals as goal
use Rattle.lister.proofs.printer.whole.Goals.{Start}

-- the table that is lent
abbrev table : Start → Table
table s = record { cells = s.args.cells.now; pool = s.args.pool.now; heads = s.args.heads }

pub settings-next-requires : goal.settings-next-requires
settings-next-requires c =
    first_room (printed_settings c.args.heads)
    (printed_body c.args.pool.now c.args.cells.now (ends_of c.args.heads))
    (room_is (listing_parts (table (goal.at.settings-next-requires c).Start)) c.requires)

pub body-requires : goal.body-requires
body-requires c =
    then_room (printed_settings c.args.heads)
    (printed_body c.args.pool.now c.args.cells.now (ends_of c.args.heads))
    (room_is (listing_parts (table (goal.at.body-requires c).Start)) c.requires) c.settings-next.ensures.place

pub returns : goal.returns
returns c = printed_is (listing_parts (table (goal.at.returns c).Start)) (printed_more c.settings-next.ensures c.body.ensures)
