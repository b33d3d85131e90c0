-- The state of a box: which process is ready, and the numbers of the runner's refusals.
use Rattle.std.specs.Prelude.{ℕ, Bool, false, ◌||◌, List, [], ◌∷◌}
use Rattle.process.specs.declared.Process.{Process}
use Rattle.process.specs.declared.State.{State}
use Rattle.process.specs.declared.RunRefusal.{RunRefusal}
use Rattle.process.specs.declared.RunRefusal.TheVariants.{Busy, BadReading, NoSuchSignal, SmallBuffer, BadTable}
use Rattle.process.specs.Waiting.{ready}

-- "Numbers the bench reads back", the rows of the runner
unfoldable pub run_refusal_number : RunRefusal → ℕ
run_refusal_number Busy = 21
run_refusal_number BadReading = 22
run_refusal_number NoSuchSignal = 23
run_refusal_number SmallBuffer = 24
run_refusal_number BadTable = 25

-- some element passes a test
abbrev pub any : {A : Type 0} → (A → Bool) → List A → Bool
any f [] = false
any f (x ∷ xs) = f x || any f xs

-- some process is ready
unfoldable pub busy : State → Bool
busy s = any ready s.processes

-- the state with other processes
abbrev pub with_processes : State → List Process → State
with_processes s ps = record { processes = ps; reading = s.reading; levels = s.levels; paused = s.paused }
