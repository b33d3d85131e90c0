-- Document 01: "WAIT DATA lines that follow each other in one process are one wait for the bytes joined. Only comment, blank and
-- f: lines may stand between." Those are no statements, so neighbours among the statements of a process are meant.
use Rattle.std.specs.Prelude.{List, [], ◌∷◌, ◌++◌, map, ℕ}
use Rattle.language.specs.Script.{Statement, send, loop, end, wait_time, wait_data, wait_byte, wait_clock, wait_signal, rts, log, fchange, pause, resume, nop, Item, processes}

-- whether a statement waits for data, and for which
pub data Awaits : Type 0 where
  bytes : List ℕ → Awaits
  nothing : Awaits

-- WAIT DATA alone has such data
unfoldable pub awaits : Statement → Awaits
awaits (send bs) = nothing
awaits (loop n) = nothing
awaits end = nothing
awaits (wait_time n) = nothing
awaits (wait_data bs) = bytes bs
awaits (wait_byte n) = nothing
awaits (wait_clock vs) = nothing
awaits (wait_signal n on) = nothing
awaits (rts on) = nothing
awaits (log text) = nothing
awaits fchange = nothing
awaits pause = nothing
awaits resume = nothing
awaits nop = nothing

-- two neighbours: two waits for data are one
unfoldable pub join_two : Awaits → Awaits → Statement → Statement → List Statement → List Statement
join_two (bytes bs) (bytes cs) s t ss = wait_data (bs ++ cs) ∷ ss
join_two (bytes bs) nothing s t ss = s ∷ t ∷ ss
join_two nothing w s t ss = s ∷ t ∷ ss

-- a statement in front of the joined statements after it
unfoldable pub join_to : Statement → List Statement → List Statement
join_to s [] = s ∷ []
join_to s (t ∷ ss) = join_two (awaits s) (awaits t) s t ss

-- the statements of a process as they are done
unfoldable pub joined_in : List Statement → List Statement
joined_in [] = []
joined_in (s ∷ ss) = join_to s (joined_in ss)

-- "in one process": joined within each, never across a PROCESS line
unfoldable pub done : List Item → List (List Statement)
done body = map joined_in (processes body)
