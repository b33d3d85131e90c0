-- The start. "Start makes every process with statements ready"; "Levels start off"; "000101000000 (yymmddhhmmss) before any".
use Rattle.std.specs.Prelude.{ℕ, zero, suc, ◌+◌, Bool, false, cond, List, [], ◌∷◌, get_or, replicate, ltb}
use Rattle.language.specs.declared.Heads.{Heads}
use Rattle.language.specs.Limits.{signals, cell_places, process_places, loop_places}
use Rattle.process.specs.declared.Reading.{Reading}
use Rattle.process.specs.declared.Process.{Process}
use Rattle.process.specs.declared.State.{State}
use Rattle.process.specs.declared.Event.{Event}
use Rattle.process.specs.declared.RunRefusal.TheVariants.{BadTable}
use Rattle.process.specs.Waiting.{awake}
use Rattle.events.specs.Events.{took, refused}

-- a process at its first statement, with no loop open
abbrev pub start_at : ℕ → ℕ → Process
start_at first end =
    record { place = first; end = end; depth = 0; left = replicate loop_places 0; back = replicate loop_places 0; wait = awake first end }

-- process i begins after the one before it; one that the table does not have is over
unfoldable pub started : Heads → ℕ → Process
started h i = cond (ltb i h.processes) (start_at (get_or (0 ∷ h.ends) i 0) (get_or h.ends i 0)) (start_at 0 0)

-- so many processes from i on
unfoldable pub started_from : Heads → ℕ → ℕ → List Process
started_from h i zero = []
started_from h i (suc n) = started h i ∷ started_from h (i + 1) n

-- "000101000000 (yymmddhhmmss) before any"
abbrev pub no_reading : Reading
no_reading = record { year = 0; month = 1; day = 1; hour = 0; minute = 0; second = 0 }

-- "Levels start off", recording is not paused
unfoldable pub start_state : Heads → State
start_state h = record { processes = started_from h 0 process_places; reading = no_reading; levels = replicate signals false; paused = false }

-- "from 0": the counts of all LOG statements
abbrev pub no_counts : List ℕ
no_counts = replicate cell_places 0

-- `right` tells whether some accepted script has the table: "Start is given a state too and hands it back with 25"
unfoldable pub start_event : Bool → Heads → State → Event (Unit {0})
start_event right h s = cond right (took (start_state h)) (refused s BadTable)

-- the lent counts after it: "A refusal alters no state and no lent byte"
unfoldable pub start_counts : Bool → List ℕ → List ℕ
start_counts right counts = cond right no_counts counts
