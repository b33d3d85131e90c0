-- `lister::statements::statement` meets its contract, cell by cell. Assumes nothing.
use Prim.Native.Nat.{ℕ}
use mathlib.Core.Path.{◌≡◌, refl, ap}
use mathlib.Core.List.{List, ◌++◌}
use Rattle.reader.specs.Ascii.{ascii}
use Rattle.language.specs.Limits.{send_room, wait_room}
use Rattle.language.specs.declared.Cell.{Cell}
use Rattle.language.specs.Listing.{data_text, log_text, line_for}
use Rattle.language.specs.Table.{statement_of}
use Rattle.accepted.proofs.CellsFit.{sent_inside, waited_inside, logged_inside}
use Rattle.lister.specs.Inside.Printed.{FitsListing, Printed, word_line}
use Rattle.lister.proofs.Printing.{printed_is, room_is}
use Rattle.lister.proofs.Stating.{word_room, word_printed, signal_few, name_alone}
use borrow.Author.Rules.{rules}
use Rattle.lister.proofs.statements.statement.Goals as goal
use Rattle.lister.proofs.statements.statement.Goals.{After-decode-c}

-- WAIT DATA and its data
abbrev waited : List ℕ → List ℕ
waited bs = ascii "#WAIT DATA " ++ data_text wait_room bs

-- the line of the cell that the word says has room, and is the word's
module _ (d : After-decode-c) {c : Cell} (is : d.decode-c.result ≡ c) where
  line_room : FitsListing d.args.at (line_for (statement_of d.args.pool.now c))
  line_room = word_room _ _ d.decode-c.ensures is d.requires

  line-printed : {r : ℕ} {e : List ℕ}
      → Printed (line_for (statement_of d.args.pool.now c)) d.args.out.now
      d.args.at r e
      → Printed (word_line d.args.pool.now d.args.w)
      d.args.out.now d.args.at r e
  line-printed p = word_printed _ _ d.decode-c.ensures is p

pub data_of-requires : goal.data_of-requires
data_of-requires c = sent_inside _ c.decode-c.ensures c.in-Send.is

pub data_text-requires : goal.data_text-requires
unfolding line_for statement_of
data_text-requires c = (
  search rules,
  room_is (ap (data_text send_room) c.data_of.ensures) (line_room (goal.at.data_text-requires c).After-decode-c c.in-Send.is),
)

pub loops-requires : goal.loops-requires
unfolding line_for statement_of
loops-requires c = line_room (goal.at.loops-requires c).After-decode-c c.in-Loop.is

pub wait_time-requires : goal.wait_time-requires
unfolding line_for statement_of
wait_time-requires c = line_room (goal.at.wait_time-requires c).After-decode-c c.in-WaitTime.is

pub data_of-requires-in-WaitData : goal.data_of-requires-in-WaitData
data_of-requires-in-WaitData c = waited_inside _ c.decode-c.ensures c.in-WaitData.is

pub wait_data-requires : goal.wait_data-requires
unfolding line_for statement_of
wait_data-requires c =
    room_is (ap waited c.data_of-in-WaitData.ensures) (line_room (goal.at.wait_data-requires c).After-decode-c c.in-WaitData.is)

pub wait_byte-requires : goal.wait_byte-requires
unfolding line_for statement_of
wait_byte-requires c = line_room (goal.at.wait_byte-requires c).After-decode-c c.in-WaitByte.is

pub wait_clock-requires : goal.wait_clock-requires
unfolding line_for statement_of
wait_clock-requires c = line_room (goal.at.wait_clock-requires c).After-decode-c c.in-WaitClock.is

pub wait_signal-requires : goal.wait_signal-requires
unfolding line_for statement_of
wait_signal-requires c = (signal_few _ c.decode-c.ensures c.in-WaitSignal.is, line_room (goal.at.wait_signal-requires c).After-decode-c c.in-WaitSignal.is)

pub rts-requires : goal.rts-requires
unfolding line_for statement_of
rts-requires c = line_room (goal.at.rts-requires c).After-decode-c c.in-Rts.is

pub data_of-requires-in-Log : goal.data_of-requires-in-Log
data_of-requires-in-Log c = logged_inside _ c.decode-c.ensures c.in-Log.is

pub log_text-requires : goal.log_text-requires
unfolding line_for statement_of
log_text-requires c = room_is (ap log_text c.data_of-in-Log.ensures) (line_room (goal.at.log_text-requires c).After-decode-c c.in-Log.is)

pub bare_name-requires : goal.bare_name-requires
bare_name-requires c = room_is (name_alone _ _ c.in_default.in_default-own.keys10) (line_room (goal.at.bare_name-requires c).After-decode-c refl)

pub returns-in-Send : goal.returns-in-Send
unfolding line_for statement_of
returns-in-Send c =
    line-printed (goal.at.returns-in-Send c).After-decode-c c.in-Send.is
    (printed_is (ap (data_text send_room) c.data_of.ensures) c.data_text.ensures)

pub returns-in-Loop : goal.returns-in-Loop
unfolding line_for statement_of
returns-in-Loop c = line-printed (goal.at.returns-in-Loop c).After-decode-c c.in-Loop.is c.loops.ensures

pub returns-in-WaitTime : goal.returns-in-WaitTime
unfolding line_for statement_of
returns-in-WaitTime c = line-printed (goal.at.returns-in-WaitTime c).After-decode-c c.in-WaitTime.is c.wait_time.ensures

pub returns-in-WaitData : goal.returns-in-WaitData
unfolding line_for statement_of
returns-in-WaitData c =
    line-printed (goal.at.returns-in-WaitData c).After-decode-c c.in-WaitData.is
    (printed_is (ap waited c.data_of-in-WaitData.ensures) c.wait_data.ensures)

pub returns-in-WaitByte : goal.returns-in-WaitByte
unfolding line_for statement_of
returns-in-WaitByte c = line-printed (goal.at.returns-in-WaitByte c).After-decode-c c.in-WaitByte.is c.wait_byte.ensures

pub returns-in-WaitClock : goal.returns-in-WaitClock
unfolding line_for statement_of
returns-in-WaitClock c = line-printed (goal.at.returns-in-WaitClock c).After-decode-c c.in-WaitClock.is c.wait_clock.ensures

pub returns-in-WaitSignal : goal.returns-in-WaitSignal
unfolding line_for statement_of
returns-in-WaitSignal c = line-printed (goal.at.returns-in-WaitSignal c).After-decode-c c.in-WaitSignal.is c.wait_signal.ensures

pub returns-in-Rts : goal.returns-in-Rts
unfolding line_for statement_of
returns-in-Rts c = line-printed (goal.at.returns-in-Rts c).After-decode-c c.in-Rts.is c.rts.ensures

pub returns-in-Log : goal.returns-in-Log
unfolding line_for statement_of
returns-in-Log c =
    line-printed (goal.at.returns-in-Log c).After-decode-c c.in-Log.is
    (printed_is (ap log_text c.data_of-in-Log.ensures) c.log_text.ensures)

pub returns-in_default : goal.returns-in_default
returns-in_default c =
    line-printed (goal.at.returns-in_default c).After-decode-c refl
    (printed_is (name_alone _ _ c.in_default.in_default-own.keys10) c.bare_name.ensures)
