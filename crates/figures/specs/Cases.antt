-- Document 01's cases of the stretch, "both sides of each bound". Assumes nothing: these are definitions.
use Rattle.std.specs.Prelude.{Bool, cond, List, [], ◌∷◌, ℕ, leb}
use Rattle.figures.specs.Flat.{Mark, plain, sure_rest, opens, closes, fragment}
use Rattle.figures.specs.Cap.{limit, over}
use Rattle.figures.specs.Stretch.{Stretch, Over}

-- "Sure rests are .. WAIT DATA"
abbrev wait_data : Mark
wait_data = sure_rest

-- "WAIT CLOCK"
abbrev wait_clock : Mark
wait_clock = sure_rest

-- "Signal waits are not sure rests."
abbrev wait_cts_on : Mark
wait_cts_on = plain

-- a data line, one of the "other statements"
abbrev send : Mark
send = plain

-- NOP, another
abbrev nop : Mark
nop = plain

-- LOG, another
abbrev log : Mark
log = plain

-- "EVER, 0 or nothing is forever"
abbrev loop_ever : Mark
loop_ever = opens 0

-- a process and its stretch; 4,097 stands for one over 4,096
pub record Case : Type 0 where
  pub process : List Mark
  pub stretch : ℕ

-- the cases of document 01 about stretches
abbrev pub cases : List Case
cases =
    -- "#LOOP 2047, /A, #END: stretch 4,095, accepted"
    record { process = opens 2047 ∷ send ∷ closes ∷ []; stretch = 4095 }
    -- "With #NOP before: 4,096, accepted"
    ∷ record { process = nop ∷ opens 2047 ∷ send ∷ closes ∷ []; stretch = limit }
    -- "#LOOP 2048: 4,097, refused 11"
    ∷ record { process = opens 2048 ∷ send ∷ closes ∷ []; stretch = over }
    -- "#LOOP, #WAIT CTSON, #END: 11"
    ∷ record { process = loop_ever ∷ wait_cts_on ∷ closes ∷ []; stretch = over }
    -- "Empty text: one empty process"
    ∷ record { process = []; stretch = 0 }
    -- the tank meter: "Its stretch is 2 (LOG, END)"
    ∷ record { process = loop_ever ∷ wait_clock ∷ send ∷ wait_data ∷ log ∷ closes ∷ []; stretch = 2 }
    -- "Letting statements after a forever loop into the stretch"
    ∷ record { process = loop_ever ∷ wait_clock ∷ closes ∷ opens 60000 ∷ nop ∷ closes ∷ []; stretch = 1 }
    -- "Letting the stretch wrap while 60,000 loops nest"
    ∷ record {
      process = opens 60000 ∷ opens 60000 ∷ opens 60000 ∷ opens 60000 ∷ opens 60000 ∷ opens 60000 ∷ opens 60000 ∷ opens 60000
          ∷ closes ∷ closes ∷ closes ∷ closes ∷ closes ∷ closes ∷ closes ∷ closes ∷ [];
      stretch = over;
    }
    ∷ []

-- what a case says of the written-out form
abbrev pub Holds : Bool → Case → Type 0
Holds t c = cond t (Stretch (fragment c.process) c.stretch) (Over (fragment c.process) limit)

-- every case of a table holds
abbrev pub AllHold : List Case → Type 0
AllHold [] = Unit {0}
AllHold (c ∷ cs) = Holds (leb c.stretch limit) c × AllHold cs
