-- The turn of a process, as the code goes through it.
use Rattle.std.specs.Prelude.{ℕ, cond, List, length, get_or, set, Result, Ok, Err}
use Rattle.std.proofs.Math.Seq as seq
use Rattle.process.specs.declared.Process.{Process}
use Rattle.process.specs.declared.State.{State}
use Rattle.process.specs.declared.RunRefusal.{RunRefusal}
use Rattle.statement.specs.Moving.{moved, cell_at}
use Rattle.statement.specs.Saying.{outcome_of, paused_by, counted_by}
use Rattle.statement.specs.declared.outcome.Outcome.{Outcome}
use Rattle.runner.specs.Turns.{tested, acts, turn_writes}

-- what one statement of the process says, or a refusal
unfoldable pub turned : List ℕ → List ℕ → State → List ℕ → Process → ℕ → Result Outcome RunRefusal
turned cells pool s counts p room =
    tested (moved cells s.levels p).found room Err
    (Ok (outcome_of (length (turn_writes cells pool s.reading counts p)) (cell_at cells p)))

-- the state after it, the process being number i
unfoldable pub state_turned : List ℕ → State → ℕ → Process → ℕ → State
state_turned cells s i p room =
    cond (acts cells s.levels p room)
    (record {
      processes = set s.processes i (moved cells s.levels p).process;
      reading = s.reading;
      levels = s.levels;
      paused = paused_by s.paused (cell_at cells p);
    })
    s

-- the lent buffer and the lent counts after it
unfoldable pub buffer_turned : List ℕ → List ℕ → State → List ℕ → Process → List ℕ → List ℕ
buffer_turned cells pool s counts p out = cond (acts cells s.levels p (length out)) (seq.sets out 0 (turn_writes cells pool s.reading counts p)) out

-- "Each LOG statement has its own `@c`": by the place of its cell
unfoldable pub counts_turned : List ℕ → State → List ℕ → Process → ℕ → List ℕ
counts_turned cells s counts p room =
    cond (acts cells s.levels p room) (set counts p.place (counted_by (get_or counts p.place 0) (cell_at cells p))) counts
