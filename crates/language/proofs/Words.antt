-- Which words have a cell, computed: each number and each range of data at its edge, and past it. A word that no line can have is Unknown, and a table with
-- one is 25. Assumes nothing.
use Prim.Native.Nat.{ℕ}
use mathlib.Core.Path.{◌≡◌, refl}
use mathlib.Core.Bool.{Bool, true, false}
use mathlib.Core.List.{List, [], ◌∷◌}
use Rattle.language.specs.Right as right
use Rattle.language.specs.Clock as clocks
use Rattle.language.specs.Cell as cell
use Rattle.language.specs.Cell.{span, clock, level, coded, decoded}
use Rattle.language.specs.declared.Cell.{Cell}
use Rattle.language.specs.declared.Cell.TheVariants.{Nothing, Send, Loop, End, WaitTime, WaitData, WaitByte, WaitClock, WaitSignal, Rts, Log, Fchange, Pause, Resume, Nop, Unknown}

-- whether a cell is one that some line has, or none
abbrev known : Cell → Bool
known Nothing = true
known (Send s) = true
known (Loop n) = true
known End = true
known (WaitTime n) = true
known (WaitData s) = true
known (WaitByte n) = true
known (WaitClock c) = true
known (WaitSignal l) = true
known (Rts on) = true
known (Log s) = true
known Fchange = true
known Pause = true
known Resume = true
known Nop = true
known Unknown = false

-- a word, and whether it has a cell
abbrev Words : List (ℕ × Bool) → Type 0
Words [] = Unit {0}
Words (c ∷ cs) = (known (decoded c.0) ≡ c.1) × Words cs

abbrev words : List (ℕ × Bool)
words =
    -- the cell that says no statement; a kind that there is not; and as large a word as there is
    (0, true)
    ∷ (1, false)
    ∷ (coded Nop, true)
    ∷ (coded Unknown, false)
    ∷ (4294967295, false)
    -- data of a line, up to 126 bytes, within the 1,024 of the pool
    ∷ (coded (Send (span 0 0)), true)
    ∷ (coded (Send (span 0 126)), true)
    ∷ (coded (Send (span 0 127)), false)
    ∷ (coded (Send (span 1024 0)), true)
    ∷ (coded (Send (span 1025 0)), false)
    ∷ (coded (Send (span 1000 24)), true)
    ∷ (coded (Send (span 1000 25)), false)
    -- of WAIT DATA, 1 to 115; of LOG, up to 122
    ∷ (coded (WaitData (span 0 0)), false)
    ∷ (coded (WaitData (span 0 1)), true)
    ∷ (coded (WaitData (span 0 115)), true)
    ∷ (coded (WaitData (span 0 116)), false)
    ∷ (coded (WaitData (span 1000 24)), true)
    ∷ (coded (WaitData (span 1000 25)), false)
    ∷ (coded (Log (span 0 122)), true)
    ∷ (coded (Log (span 0 123)), false)
    ∷ (coded (Log (span 1000 24)), true)
    ∷ (coded (Log (span 1000 25)), false)
    -- numbers that a line can have
    ∷ (coded (Loop 60000), true)
    ∷ (coded (Loop 60001), false)
    ∷ (coded (WaitByte 60000), true)
    ∷ (coded (WaitByte 60001), false)
    ∷ (coded (WaitTime 60000), true)
    ∷ (coded (WaitTime 60001), false)
    ∷ (coded (WaitTime 61000), true)
    ∷ (coded (WaitTime 60000000), true)
    ∷ (coded (WaitTime 60001000), false)
    ∷ (coded (WaitSignal (level 4 true)), true)
    ∷ (coded (WaitSignal (level 5 false)), false)
    ∷ (603979777, true)
    ∷ (603979778, false)
    -- clock values: "D 01 to 31, h to 23, m and s to 59", and 0 for a unit that is not fixed
    ∷ (coded (WaitClock (clock 4 31 23 59 59)), true)
    ∷ (coded (WaitClock (clock 4 1 0 0 0)), true)
    ∷ (coded (WaitClock (clock 4 0 0 0 0)), false)
    ∷ (coded (WaitClock (clock 4 1 24 0 0)), false)
    ∷ (coded (WaitClock (clock 4 1 0 60 0)), false)
    ∷ (coded (WaitClock (clock 4 1 0 0 60)), false)
    ∷ (coded (WaitClock (clock 5 1 0 0 0)), false)
    ∷ (coded (WaitClock (clock 3 1 0 0 0)), false)
    ∷ (coded (WaitClock (clock 2 0 1 0 0)), false)
    ∷ (coded (WaitClock (clock 1 0 0 1 0)), false)
    ∷ (coded (WaitClock (clock 0 0 0 0 1)), false)
    -- a kind that has no argument
    ∷ (738197504, true)
    ∷ (738197505, false)
    ∷ (805306369, false)
    ∷ (872415233, false)
    ∷ (939524097, false)
    ∷ []

words_hold : Words words
unfolding right.time_right clocks.within cell.span_number cell.clock_number cell.coded cell.span_right cell.unit_right cell.fixed_right cell.cell_of cell.decoded
words_hold = (refl, (refl, (refl, (refl, (refl, (refl, (refl, (refl, (refl, (refl, (refl, (refl, (refl, (refl, (refl, (refl, (refl, (refl, (refl, (refl, (refl, (refl, (refl, (refl, (refl, (refl, (refl, (refl, (refl, (refl, (refl, (refl, (refl, (refl, (refl, (refl, (refl, (refl, (refl, (refl, (refl, (refl, (refl, (refl, (refl, (refl, (refl, (refl, (refl, (refl, (refl, tt)))))))))))))))))))))))))))))))))))))))))))))))))))
