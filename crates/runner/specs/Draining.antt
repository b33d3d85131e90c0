-- The drain. "A drain does one statement of the lowest-numbered ready process and says what it sent, recorded or switched; or says
-- quiet exactly when none is ready."
use Rattle.std.specs.Prelude.{ℕ, suc, Bool, true, false, cond, List, [], ◌∷◌, length, get_or, set, replicate, ltb}
use Rattle.std.proofs.Math.Seq as seq
use Rattle.language.specs.Limits.{process_places, loop_places}
use Rattle.process.specs.declared.Wait.TheVariants.{Over}
use Rattle.process.specs.declared.Process.{Process}
use Rattle.process.specs.declared.State.{State}
use Rattle.process.specs.declared.RunRefusal.{RunRefusal}
use Rattle.statement.specs.declared.outcome.Outcome.{Outcome}
use Rattle.statement.specs.declared.outcome.Outcome.TheVariants.{Quiet, Refused}
use Rattle.runner.specs.declared.Drained.{Drained}
use Rattle.process.specs.Waiting.{ready}
use Rattle.statement.specs.Moving.{moved, cell_at}
use Rattle.statement.specs.Saying.{outcome_of, paused_by, counted_by}
use Rattle.runner.specs.Turns.{tested, acts, turn_writes}

-- the number, from 0, of the first process that is ready; their number where none is
unfoldable pub lowest : List Process → ℕ
lowest [] = 0
lowest (p ∷ ps) = cond (ready p) 0 (suc (lowest ps))

-- what stands where there is no process
abbrev pub nobody : Process
nobody = record { place = 0; end = 0; depth = 0; left = replicate loop_places 0; back = replicate loop_places 0; wait = Over }

-- the process whose turn it is
abbrev pub turn_of : State → Process
turn_of s = get_or s.processes (lowest s.processes) nobody

-- the drain does a statement: one is ready, found within the table, and the buffer has 128 bytes
unfoldable pub does : List ℕ → State → ℕ → Bool
does cells s room = cond (ltb (lowest s.processes) process_places) (acts cells s.levels (turn_of s) room) false

-- what the statement writes
unfoldable pub writes : List ℕ → List ℕ → State → List ℕ → List ℕ
writes cells pool s counts = turn_writes cells pool s.reading counts (turn_of s)

-- the state after the statement
unfoldable pub state_after : List ℕ → State → State
state_after cells s =
    record {
      processes = set s.processes (lowest s.processes) (moved cells s.levels (turn_of s)).process;
      reading = s.reading;
      levels = s.levels;
      paused = paused_by s.paused (cell_at cells (turn_of s));
    }

-- "A refusal alters no state"
abbrev pub unaltered : State → Outcome → Drained
unaltered s o = record { state = s; outcome = o }

-- a drain that is refused
abbrev pub refusal : State → RunRefusal → Drained
refusal s r = unaltered s (Refused r)

-- one statement of the lowest-numbered ready process, or quiet; "a quiet drain with a small buffer is 24"
unfoldable pub drained : List ℕ → List ℕ → State → List ℕ → ℕ → Drained
drained cells pool s counts room =
    cond (ltb (lowest s.processes) process_places)
    (tested (moved cells s.levels (turn_of s)).found room (refusal s)
    (record { state = state_after cells s; outcome = outcome_of (length (writes cells pool s counts)) (cell_at cells (turn_of s)) }))
    (tested true room (refusal s) (unaltered s Quiet))

-- the lent buffer and the lent counts after the drain
unfoldable pub buffer_after : List ℕ → List ℕ → State → List ℕ → List ℕ → List ℕ
buffer_after cells pool s counts out = cond (does cells s (length out)) (seq.sets out 0 (writes cells pool s counts)) out

-- "Each LOG statement has its own `@c`": by the place of its cell
unfoldable pub counts_after : List ℕ → State → List ℕ → ℕ → List ℕ
counts_after cells s counts room =
    cond (does cells s room)
    (set counts (turn_of s).place (counted_by (get_or counts (turn_of s).place 0) (cell_at cells (turn_of s))))
    counts
