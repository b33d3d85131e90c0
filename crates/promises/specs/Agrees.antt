-- Demand 2, what the definitions come to, over whole runs: "Compiling and running agree with the script reference .. as read in document 01." That the
-- code agrees with the definitions is in the contracts. Assumes nothing: these are definitions.
use Rattle.std.specs.Prelude.{◌≡◌, true, List, ℕ, ◌≤◌, length}
use Rattle.language.specs.declared.Heads.{Heads}
use Rattle.language.specs.declared.Table.{Table}
use Rattle.language.specs.Limits.{process_limit, drain_least}
use Rattle.language.specs.Script.{Statement, Script}
use Rattle.process.specs.declared.State.{State}
use Rattle.runner.specs.Calls as runner
use Rattle.runner.specs.Calls.{Call}
use Rattle.bounded.specs.Replies.{called, is_event}
use Rattle.running.specs.Running as running
use Rattle.running.specs.Running.{Process, Box}
use Rattle.running.specs.Joins.{Joins}
use Rattle.running.specs.Waits.{WaitsBegin, WaitsEnd}
use Rattle.running.specs.Passes.{LoopsPass}
use Rattle.running.specs.Called as script
use Rattle.promises.specs.Turns.{CountsAlways, TakenWhenQuiet, OneStatement, DrainWrote}

-- what a script does: each meaning that a user relies on
pub record Means : Type 0 where
  -- "WAIT DATA lines that follow each other in one process are one wait for the bytes joined."
  pub joined : Joins
  -- "Zero waits pass."; "Signal waits pass at once if the level holds"
  pub begins : (b : Box) (p : Process) (ss : List Statement) → WaitsBegin b p ss
  -- "WAIT TIME of n ms ends at the n-th tick after it began. WAIT BYTE likewise for bytes. WAIT DATA ends when the last bytes received since it began equal
  -- its data. WAIT CLOCK ends at a later reading that matches", signal waits "at the event that sets it"
  pub ends : WaitsEnd
  -- "since it began": in a run, the events that are taken act on a wait, and nothing else does
  pub through : (s : Script) (b : Box) (k : ℕ) (qs : List Call) → script.WaitsThrough s b k qs
  -- "`#LOOP n` .. `EVER`, 0 or nothing is forever. `#END` closes the innermost loop."
  pub loops : LoopsPass
  -- "An event is taken only when no process is ready."; a received byte "counts for waits in every case"
  pub taken : (s : Script) (b : Box) (q : Call) → is_event q ≡ true → script.EventTaken b q (running.called s q b)
  -- "A drain does one statement of the lowest-numbered ready process and says what it sent, recorded or switched; or says quiet exactly when none is ready."
  pub drained : (s : Script) (b : Box) (room : ℕ) (enough : drain_least ≤ room) → script.OneStatement s b room enough
  -- "A received byte is recorded once; not at all if paused or in OMIT; in all other cases twice if it is the ENCODE byte."
  pub recorded : (s : Script) (b : Box) (qs : List Call) → script.RecordedRight s b qs
  -- "Each LOG statement has its own `@c`"
  pub logged : (s : Script) (b : Box) (qs : List Call) → script.CountsOwn s b qs

-- what holds of every table and state there can be, those that no script has too
pub record Whatever : Type 0 where
  -- "It counts for waits in every case."
  pub counts : (pool : List ℕ) (h : Heads) (s : State) (b : ℕ) → CountsAlways pool h s b
  -- "An event is taken only when no process is ready."
  pub taken : (b : runner.Box) (t : Table) (q : Call) → is_event q ≡ true → TakenWhenQuiet b (called t q b)
  -- "A drain does one statement of the lowest-numbered ready process"
  pub one : (t : Table) (b : runner.Box) (room : ℕ) → length b.state.processes ≡ process_limit → OneStatement t b room
  -- "Success writes only the bytes it reports"
  pub wrote : (t : Table) (b : runner.Box) (out : List ℕ) → DrainWrote t b out
