-- The lines that are a name alone.
use Rattle.std.specs.Prelude.{ℕ, List}
use Rattle.reader.specs.Ascii.{ascii}
use Rattle.language.specs.declared.Cell.{Cell}
use Rattle.language.specs.declared.Cell.TheVariants.{Nothing, Send, Loop, End, WaitTime, WaitData, WaitByte, WaitClock, WaitSignal, Rts, Log, Fchange, Pause, Resume, Nop, Unknown}

-- the name of a cell that has nothing besides; of any other, and of one that says no statement, NOP
unfoldable pub bare_name : Cell → List ℕ
bare_name Nothing = ascii "#NOP"
bare_name (Send s) = ascii "#NOP"
bare_name (Loop n) = ascii "#NOP"
bare_name End = ascii "#END"
bare_name (WaitTime n) = ascii "#NOP"
bare_name (WaitData s) = ascii "#NOP"
bare_name (WaitByte n) = ascii "#NOP"
bare_name (WaitClock v) = ascii "#NOP"
bare_name (WaitSignal l) = ascii "#NOP"
bare_name (Rts on) = ascii "#NOP"
bare_name (Log s) = ascii "#NOP"
bare_name Fchange = ascii "#FCHANGE"
bare_name Pause = ascii "#PAUSE"
bare_name Resume = ascii "#RESUME"
bare_name Nop = ascii "#NOP"
bare_name Unknown = ascii "#NOP"
