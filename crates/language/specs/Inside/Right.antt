-- Which cells a word can have, and which meanings a line.
use Rattle.std.specs.Prelude.{Bool, true, false, leb, ℕ, ◌-◌}
use Rattle.language.specs.declared.Cell.{Cell}
use Rattle.language.specs.declared.Cell.TheVariants.{Nothing, Send, Loop, End, WaitTime, WaitData, WaitByte, WaitClock, WaitSignal, Rts, Log, Fchange, Pause, Resume, Nop, Unknown}
use Rattle.language.specs.Limits.{send_room, wait_room, log_room, line_limit}
use Rattle.language.specs.Right.{time_right, is_byte, data_right, right}
use Rattle.language.specs.Cell.{span_right, fixed_right}
use Rattle.language.specs.Script.{Meaning, comment, blank, process, set_ex, says, set_encode, set_stopbits, set_omit, set_lfext, fault}
use Rattle.language.specs.Meaning.{extension}

-- after `#f:OMIT ` and a mark
abbrev pub omit_room : ℕ
omit_room = line_limit - 9

-- the ranges that the section "Lines" gives each statement
unfoldable pub cell_right : Cell → Bool
cell_right Nothing = true
cell_right (Send s) = span_right 0 send_room s
cell_right (Loop n) = leb n 60000
cell_right End = true
cell_right (WaitTime n) = time_right n
cell_right (WaitData s) = span_right 1 wait_room s
cell_right (WaitByte n) = leb n 60000
cell_right (WaitClock c) = fixed_right c
cell_right (WaitSignal l) = leb l.signal 4
cell_right (Rts on) = true
cell_right (Log s) = span_right 0 log_room s
cell_right Fchange = true
cell_right Pause = true
cell_right Resume = true
cell_right Nop = true
cell_right Unknown = false

-- a line's meaning
unfoldable pub meaning_right : Meaning → Bool
meaning_right comment = true
meaning_right blank = true
meaning_right process = true
meaning_right set_ex = true
meaning_right (says s) = right s
meaning_right (set_encode b) = is_byte b
meaning_right (set_stopbits two) = true
meaning_right (set_omit bs) = data_right omit_room bs
meaning_right (set_lfext e) = extension e
meaning_right (fault n) = true
