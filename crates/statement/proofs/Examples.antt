-- Damaged tables and states, computed: each place, loop or data range that leaves the table, and each neighbour that does not. A process that is
-- not found is answered 25 (`drained`). Assumes nothing.
use Rattle.std.proofs.Common.{◌≡◌, ℕ, Bool, true, false, List, [], ◌∷◌, replicate, refl}
use Rattle.language.specs.Right as right
use Rattle.language.specs.Clock as clocks
use Rattle.language.specs.Cell as cell
use Rattle.language.specs.Cell.{span, coded}
use Rattle.language.specs.declared.Cell.TheVariants.{Send, Loop, End, WaitData, Log, Nop, Unknown}
use Rattle.process.specs.declared.Process.{Process}
use Rattle.process.specs.declared.Wait.TheVariants.{Ready}
use Rattle.statement.specs.Joining.{neighbours, their_bytes}
use Rattle.statement.specs.Loops.{opened, back_to, pass, closed}
use Rattle.statement.specs.Moving.{awaits, rests_unless, signalled, moved_by, moved}

-- ---- a cell that says nothing or is unknown, and data past the pool

-- a process at the first of some cells
abbrev first : Process
first = record { place = 0; end = 1; depth = 0; left = replicate 8 0; back = replicate 8 0; wait = Ready }

-- a word, and whether its statement is found
abbrev Words : List (ℕ × Bool) → Type 0
Words [] = Unit {0}
Words (c ∷ cs) = ((moved (c.0 ∷ []) [] first).found ≡ c.1) × Words cs

abbrev words : List (ℕ × Bool)
words =
    -- no statement; a kind that there is not; data past the pool: which words have a cell, `language` Words tells
    (0, false)
    ∷ (coded Nop, true)
    ∷ (coded Unknown, false)
    ∷ (coded (Send (span 1000 24)), true)
    ∷ (coded (Send (span 1000 25)), false)
    ∷ (coded (WaitData (span 1000 24)), true)
    ∷ (coded (WaitData (span 1000 25)), false)
    ∷ (coded (Log (span 1000 24)), true)
    ∷ (coded (Log (span 1000 25)), false)
    ∷ []

words_hold : Words words
unfolding moved moved_by opened closed awaits rests_unless signalled neighbours their_bytes right.time_right clocks.within cell.span_number cell.clock_number cell.coded cell.span_right cell.unit_right cell.fixed_right cell.cell_of cell.decoded
words_hold = (refl, (refl, (refl, (refl, (refl, (refl, (refl, (refl, (refl, tt)))))))))

-- ---- joined waits: "one wait for the bytes joined"

-- two WAIT DATA cells; the process has both, or ends after the first
abbrev joins : ℕ → ℕ → ℕ → ℕ → Bool
joins from count more end =
    (moved (coded (WaitData (span from count)) ∷ coded (WaitData (span 0 more)) ∷ []) []
    (record { place = 0; end = end; depth = 0; left = replicate 8 0; back = replicate 8 0; wait = Ready })).found

-- ---- LOOP and END

-- a process at END, in four cells, with so many loops open, the innermost with so many passes left and its body at a place
abbrev at_end : ℕ → ℕ → ℕ → Bool
at_end depth left body =
    (moved (coded Nop ∷ coded Nop ∷ coded End ∷ coded Nop ∷ []) []
    (record { place = 2; end = 4; depth = depth; left = replicate 8 left; back = replicate 8 body; wait = Ready })).found

-- a process at LOOP, with so many loops open
abbrev at_loop : ℕ → Bool
at_loop depth =
    (moved (coded (Loop 2) ∷ coded End ∷ []) []
    (record { place = 0; end = 2; depth = depth; left = replicate 8 1; back = replicate 8 0; wait = Ready })).found

-- a process at a place of 512 cells, with an end
abbrev at_place : ℕ → ℕ → Bool
at_place place end =
    (moved (replicate 600 (coded Nop)) []
    (record { place = place; end = end; depth = 0; left = replicate 8 0; back = replicate 8 0; wait = Ready })).found

-- what is told, and what it is
abbrev Told : List (Bool × Bool) → Type 0
Told [] = Unit {0}
Told (c ∷ cs) = (c.0 ≡ c.1) × Told cs

abbrev told : List (Bool × Bool)
told =
    -- 12 and 12 bytes from 1,000 on are 1,024; one more leaves the pool, unless the process ends before
    (joins 1000 12 12 2, true)
    ∷ (joins 1000 12 13 2, false)
    ∷ (joins 1000 12 13 1, true)
    -- END with none open, with one, with eight, with nine
    ∷ (at_end 0 1 0, false)
    ∷ (at_end 1 1 0, true)
    ∷ (at_end 8 1 0, true)
    ∷ (at_end 9 1 0, false)
    -- a loop body before, at and past the process's end: a forever loop, passes left, and the last pass, which goes on
    ∷ (at_end 1 0 3, true)
    ∷ (at_end 1 0 4, false)
    ∷ (at_end 1 0 5, false)
    ∷ (at_end 1 2 3, true)
    ∷ (at_end 1 2 4, false)
    ∷ (at_end 1 2 5, false)
    ∷ (at_end 1 1 4, true)
    -- LOOP with seven, eight and nine open
    ∷ (at_loop 7, true)
    ∷ (at_loop 8, false)
    ∷ (at_loop 9, false)
    -- a place before, at and past the end, and at and past the last cell
    ∷ (at_place 0 1, true)
    ∷ (at_place 1 1, false)
    ∷ (at_place 2 1, false)
    ∷ (at_place 511 512, true)
    ∷ (at_place 511 600, true)
    ∷ (at_place 512 600, false)
    ∷ []

told_hold : Told told
unfolding moved moved_by opened closed pass back_to awaits rests_unless signalled neighbours their_bytes right.time_right clocks.within cell.span_number cell.clock_number cell.coded cell.span_right cell.unit_right cell.fixed_right cell.cell_of cell.decoded
told_hold = (refl, (refl, (refl, (refl, (refl, (refl, (refl, (refl, (refl, (refl, (refl, (refl, (refl, (refl, (refl, (refl, (refl, (refl, (refl, (refl, (refl, (refl, (refl, tt)))))))))))))))))))))))
