-- Document 01's cases of the stretch as tables, and tables that no script has. Assumes nothing: these are definitions.
use Rattle.std.specs.Prelude.{◌≡◌, true, false, List, [], ◌∷◌, map, ℕ, length, Result, Ok, Err}
use Rattle.language.specs.declared.Cell.{Cell}
use Rattle.language.specs.declared.Cell.TheVariants.{Send, Loop, End, WaitTime, WaitData, WaitByte, WaitClock, WaitSignal, Log, Nop}
use Rattle.language.specs.declared.Heads.{Heads}
use Rattle.language.specs.Limits.{cell_places, process_places}
use Rattle.language.specs.Cell.{span, level, clock, coded}
use Rattle.language.specs.Table.{padded}
use Rattle.stretch.specs.declared.StretchFault.{StretchFault}
use Rattle.stretch.specs.declared.StretchFault.TheVariants.{Over, Broken}
use Rattle.stretch.specs.Inside.Measured.{measured}

-- the cells of a table, the place after the last cell of each process, and what is answered
pub record Case : Type 0 where
  pub cells : List Cell
  pub ends : List ℕ
  pub answer : Result ℕ StretchFault

-- a table's heads with these ends; nothing else of them matters
abbrev pub heads_with : List ℕ → Heads
heads_with ends =
    record {
      processes = length ends;
      ends = padded process_places ends;
      used = 0;
      encodes = false;
      encode = 0;
      two_stop_bits = false;
      omits = 0;
      omit = [];
      extension = [];
    }

-- what `largest` answers is what the case says
abbrev pub Holds : Case → Type 0
Holds c = measured (padded cell_places (map coded c.cells)) (heads_with c.ends) ≡ c.answer

-- every case of a table of cases holds
abbrev pub AllHold : List Case → Type 0
AllHold [] = Unit {0}
AllHold (c ∷ cs) = Holds c × AllHold cs

-- the cases of document 01 about stretches, and tables that do not nest
abbrev pub cases : List Case
cases =
    -- "#LOOP 2047, /A, #END: stretch 4,095, accepted"
    record { cells = Loop 2047 ∷ Send (span 0 1) ∷ End ∷ []; ends = 3 ∷ []; answer = Ok 4095 }
    -- "With #NOP before: 4,096, accepted"
    ∷ record { cells = Nop ∷ Loop 2047 ∷ Send (span 0 1) ∷ End ∷ []; ends = 4 ∷ []; answer = Ok 4096 }
    -- "#LOOP 2048: 4,097, refused 11"
    ∷ record { cells = Loop 2048 ∷ Send (span 0 1) ∷ End ∷ []; ends = 3 ∷ []; answer = Err (Over 1) }
    -- "#LOOP, #WAIT CTSON, #END: 11"
    ∷ record { cells = Loop 0 ∷ WaitSignal (level 0 true) ∷ End ∷ []; ends = 3 ∷ []; answer = Err (Over 1) }
    -- "Empty text: one empty process"
    ∷ record { cells = []; ends = 0 ∷ []; answer = Ok 0 }
    -- the tank meter: "Its stretch is 2 (LOG, END)"
    ∷ record {
      cells = Loop 0 ∷ WaitClock (clock 2 0 0 0 0) ∷ Send (span 0 2) ∷ WaitData (span 2 2) ∷ Log (span 4 13) ∷ End ∷ [];
      ends = 6 ∷ [];
      answer = Ok 2;
    }
    -- "Letting statements after a forever loop into the stretch"
    ∷ record { cells = Loop 0 ∷ WaitClock (clock 0 0 0 0 0) ∷ End ∷ Loop 60000 ∷ Nop ∷ End ∷ []; ends = 6 ∷ []; answer = Ok 1 }
    -- "Letting the stretch wrap while 60,000 loops nest"
    ∷ record {
      cells = Loop 60000 ∷ Loop 60000 ∷ Loop 60000 ∷ Loop 60000 ∷ Loop 60000 ∷ Loop 60000 ∷ Loop 60000 ∷ Loop 60000
          ∷ End ∷ End ∷ End ∷ End ∷ End ∷ End ∷ End ∷ End ∷ [];
      ends = 16 ∷ [];
      answer = Err (Over 1);
    }
    -- "Sure rests are WAIT TIME and WAIT BYTE above zero"
    ∷ record { cells = Loop 0 ∷ WaitTime 1 ∷ WaitByte 0 ∷ End ∷ []; ends = 4 ∷ []; answer = Ok 2 }
    ∷ record { cells = Loop 0 ∷ WaitTime 0 ∷ WaitByte 1 ∷ End ∷ []; ends = 4 ∷ []; answer = Ok 2 }
    ∷ record { cells = Loop 0 ∷ WaitTime 0 ∷ WaitByte 0 ∷ End ∷ []; ends = 4 ∷ []; answer = Err (Over 1) }
    -- "the largest stretch of any process", and "lowest process number, from 1"
    ∷ record { cells = Nop ∷ Nop ∷ Nop ∷ Nop ∷ []; ends = 1 ∷ 3 ∷ 3 ∷ 4 ∷ []; answer = Ok 2 }
    ∷ record { cells = Nop ∷ Loop 0 ∷ End ∷ Loop 0 ∷ End ∷ []; ends = 1 ∷ 3 ∷ 5 ∷ []; answer = Err (Over 2) }
    -- "END with none open", "loop open at .. the end of text", "ninth open loop"
    ∷ record { cells = Nop ∷ End ∷ []; ends = 2 ∷ []; answer = Err Broken }
    ∷ record { cells = Loop 2 ∷ Nop ∷ End ∷ []; ends = 2 ∷ 3 ∷ []; answer = Err Broken }
    ∷ record {
      cells = Loop 1 ∷ Loop 1 ∷ Loop 1 ∷ Loop 1 ∷ Loop 1 ∷ Loop 1 ∷ Loop 1 ∷ Loop 1 ∷ Loop 1
          ∷ End ∷ End ∷ End ∷ End ∷ End ∷ End ∷ End ∷ End ∷ End ∷ [];
      ends = 18 ∷ [];
      answer = Err Broken;
    }
    -- ends out of order, and one after the table, whose unused cells are read as other statements
    ∷ record { cells = Nop ∷ Nop ∷ Nop ∷ []; ends = 3 ∷ 1 ∷ 2 ∷ []; answer = Ok 3 }
    ∷ record { cells = Nop ∷ []; ends = 65535 ∷ []; answer = Ok 512 }
    -- no process at all
    ∷ record { cells = Nop ∷ []; ends = []; answer = Ok 0 }
    ∷ []
