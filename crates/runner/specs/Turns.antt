-- The turn of a process that is ready: "a drain does one statement ... and says what it sent, recorded or switched".
use Rattle.std.specs.Prelude.{ℕ, Bool, false, cond, List, get_or}
use Rattle.process.specs.declared.Reading.{Reading}
use Rattle.process.specs.declared.Process.{Process}
use Rattle.process.specs.declared.RunRefusal.{RunRefusal}
use Rattle.process.specs.declared.RunRefusal.TheVariants.{SmallBuffer, BadTable}
use Rattle.statement.specs.Moving.{moved, cell_at}
use Rattle.runner.specs.Writing.{writes_for}
use Rattle.language.specs.Limits.{wide}

-- 25, then 24: what comes of it where the statement is found within the table and the buffer has 128 bytes, else what a refusal
-- comes to
abbrev pub tested : {A : Type 0} → Bool → ℕ → (RunRefusal → A) → A → A
tested found room refusal done = cond found (cond (wide room) done (refusal SmallBuffer)) (refusal BadTable)

-- the statement is done
abbrev pub acts : List ℕ → List Bool → Process → ℕ → Bool
acts cells levels p room = cond (moved cells levels p).found (wide room) false

-- what it writes
abbrev pub turn_writes : List ℕ → List ℕ → Reading → List ℕ → Process → List ℕ
turn_writes cells pool r counts p = writes_for pool r (get_or counts p.place 0) (cell_at cells p)
