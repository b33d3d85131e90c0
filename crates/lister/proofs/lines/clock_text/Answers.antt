-- `lister::lines::clock_text` meets its contract. Assumes nothing.
use Rattle.lister.proofs.Clocking.{letter_room, day_room, hour_room, minute_room, second_room, clock_printed}
use Rattle.lister.proofs.lines.clock_text.Goals as goal

pub put-day-requires : goal.put-day-requires
put-day-requires c = letter_room _ c.letter.ensures c.requires

pub unit-hour-requires : goal.unit-hour-requires
unit-hour-requires c = day_room _ c.letter.ensures c.requires c.put-day.ensures

pub unit-minute-requires : goal.unit-minute-requires
unit-minute-requires c = hour_room _ c.letter.ensures c.requires c.put-day.ensures c.unit-hour.ensures

pub unit-second-requires : goal.unit-second-requires
unit-second-requires c =
    minute_room _ c.letter.ensures c.requires c.put-day.ensures c.unit-hour.ensures
    c.unit-minute.ensures

pub unit-requires : goal.unit-requires
unit-requires c =
    second_room _ c.letter.ensures c.requires c.put-day.ensures c.unit-hour.ensures
    c.unit-minute.ensures c.unit-second.ensures

pub returns : goal.returns
returns c =
    clock_printed _ c.letter.ensures c.requires c.put-day.ensures c.unit-hour.ensures
    c.unit-minute.ensures c.unit-second.ensures c.unit.ensures
