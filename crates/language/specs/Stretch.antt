-- Document 01, "Longest stretch": what counts of each statement. The written-out form and its runs are the crate `figures`'s.
use Rattle.std.specs.Prelude.{ℕ, max, cond, List, [], ◌∷◌, map, ltb}
use Rattle.figures.specs.Flat.{Mark, plain, sure_rest, opens, closes, fragment}
use Rattle.figures.specs.Figures as figures
use Rattle.language.specs.Script.{Statement, send, loop, end, wait_time, wait_data, wait_byte, wait_clock, wait_signal, rts, log, fchange, pause, resume, nop, Item, processes}

-- "Sure rests are WAIT TIME and WAIT BYTE above zero, WAIT DATA, WAIT CLOCK"; "Signal waits are not sure rests"
unfoldable pub mark_of : Statement → Mark
mark_of (send bs) = plain
mark_of (loop n) = opens n
mark_of end = closes
mark_of (wait_time n) = cond (ltb 0 n) sure_rest plain
mark_of (wait_data bs) = sure_rest
mark_of (wait_byte n) = cond (ltb 0 n) sure_rest plain
mark_of (wait_clock vs) = sure_rest
mark_of (wait_signal n on) = plain
mark_of (rts on) = plain
mark_of (log text) = plain
mark_of fchange = plain
mark_of pause = plain
mark_of resume = plain
mark_of nop = plain

-- the stretch of a process, 4,097 standing for all over 4,096
unfoldable pub stretch_of : List Statement → ℕ
stretch_of p = figures.fragment_stretch (fragment (map mark_of p))

-- "The compiler reports the largest stretch of any process"
unfoldable pub largest_of : List (List Statement) → ℕ
largest_of [] = 0
largest_of (p ∷ ps) = max (stretch_of p) (largest_of ps)

-- of the processes of a body
unfoldable pub largest : List Item → ℕ
largest body = largest_of (processes body)
