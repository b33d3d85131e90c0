-- Demand 3: "Take a script that was accepted, started afresh, with table and states handed on unaltered. Under every sequence of calls,
-- refused ones among them, no process leaves its own statements, holds more than 8 open loops or is answered 25; and between a start,
-- or an accepted event, and the next start or quiet moment no process does more than 4,097 statements." Assumes nothing: these are definitions.
use Rattle.std.specs.Prelude.{◌≡◌, true, false, cond, List, [], ◌∷◌, ℕ, suc, ◌+◌, ◌≤◌, ◌<◌, length, get_or, drop, eqb, ltb, Ok, Err}
use Rattle.figures.specs.Flat.{Mark, marks_nest}
use Rattle.figures.specs.Cap.{over}
use Rattle.language.specs.declared.Heads.{Heads}
use Rattle.language.specs.declared.Table.{Table}
use Rattle.language.specs.Limits.{loop_limit, process_limit, drain_least}
use Rattle.stretch.specs.Marks.{begins_at, ends_at, marks_to}
use Rattle.process.specs.declared.Wait.TheVariants.{Over}
use Rattle.process.specs.declared.Process.{Process}
use Rattle.process.specs.declared.State.{State}
use Rattle.process.specs.declared.RunRefusal.TheVariants.{BadTable}
use Rattle.process.specs.Answers.{Taken, Received, Gulped}
use Rattle.statement.specs.declared.outcome.Outcome.TheVariants.{Quiet}
use Rattle.process.specs.State.{busy}
use Rattle.runner.specs.Draining.{lowest, nobody}
use Rattle.runner.specs.Calls as calls
use Rattle.runner.specs.Calls.{Box, Call, start, drain, Reply, event, gulp, outcome}
use Rattle.bounded.specs.Replies.{called, reply_number, RefusedBy, took_many, did}

-- ---- the statements that each process has done since the last start or accepted event, by its number from 0

-- an accepted event starts the count anew
abbrev pub after_taken : Taken → ℕ → ℕ
after_taken (Ok tt) n = 0
after_taken (Err r) n = n

-- an accepted byte likewise
abbrev pub after_received : Received → ℕ → ℕ
after_received (Ok c) n = 0
after_received (Err r) n = n

-- a gulp likewise, if it took at least one
abbrev pub after_gulp : Gulped → ℕ → ℕ
after_gulp a n = cond (ltb 0 (took_many a)) 0 n

-- "A drain does one statement of the lowest-numbered ready process"
unfoldable pub tally : State → Reply → (ℕ → ℕ) → ℕ → ℕ
tally s (event a) f i = after_taken a (f i)
tally s (calls.received a) f i = after_received a (f i)
tally s (gulp a records) f i = after_gulp a (f i)
tally s (outcome o bytes) f i = cond (did o) (cond (eqb i (lowest s.processes)) (suc (f i)) (f i)) (f i)

-- ---- a sequence of calls

-- a box, and beside it these counts
pub record CountedRun : Type 0 where
  pub box : Box
  pub done : ℕ → ℕ

-- "with table and states handed on unaltered"
unfoldable pub next_call : Table → CountedRun → Call → CountedRun
next_call t r q = record { box = (called t q r.box).box; done = tally r.box.state (called t q r.box).reply r.done }

-- a run after some more calls
unfoldable pub after_calls : Table → CountedRun → List Call → CountedRun
after_calls t r [] = r
after_calls t r (q ∷ qs) = after_calls t (next_call t r q) qs

-- "started afresh", whatever the box held before
unfoldable pub fresh : Table → Box → CountedRun
fresh t b = next_call t (record { box = b; done = λ i. 0 }) start

-- ---- what holds after any of them

-- a process's own statements lie from one place up to another; one that the table does not have has none
abbrev pub first_of : Heads → ℕ → ℕ
first_of h i = cond (ltb i h.processes) (begins_at h i) 0

-- where a process ends
abbrev pub end_of : Heads → ℕ → ℕ
end_of h i = cond (ltb i h.processes) (ends_at h i) 0

-- the marks of the cells up to the end of process i: a LOOP opens, an END closes
abbrev pub marks_of : Table → ℕ → List Mark
marks_of t i = marks_to t.cells (end_of t.heads i)

-- process i, the stretch of the script being k and n the count of its statements; its open loops are exactly those that enclose its place: from there
-- on its statements close them all and no other, and where the body of the j-th of them begins they close j + 1
pub record Safe (t : Table) (k i n : ℕ) (p : Process) : Type 0 where
  pub low : first_of t.heads i ≤ p.place
  pub high : p.place ≤ end_of t.heads i
  pub few : p.depth ≤ loop_limit
  pub enclosed : marks_nest p.depth (drop p.place (marks_of t i)) ≡ true
  pub bodies : (j : ℕ) → j < p.depth → marks_nest (suc j) (drop (get_or p.back j 0) (marks_of t i)) ≡ true
  pub brief : n ≤ over
  pub exact : n ≤ k + 1
  pub absent : t.heads.processes ≤ i → p.wait ≡ Over

-- "quiet exactly when none is ready"; "a quiet drain with a small buffer is 24"
pub record QuietExactly (t : Table) (b : Box) (room : ℕ) : Type 0 where
  pub only : (called t (drain room) b).reply ≡ outcome Quiet [] → (busy b.state ≡ false) × (drain_least ≤ room)
  pub always : busy b.state ≡ false → drain_least ≤ room → (called t (drain room) b).reply ≡ outcome Quiet []

-- there are eight processes, each safe; whichever call comes next, it is not answered 25, neither by that number nor by the refusal that has it; a drain
-- is quiet when it should be
pub record Bounded (t : Table) (k : ℕ) (r : CountedRun) : Type 0 where
  pub eight : length r.box.state.processes ≡ process_limit
  pub safe : (i : ℕ) → i < process_limit → Safe t k i (r.done i) (get_or r.box.state.processes i nobody)
  pub found : (q : Call) → reply_number (called t q r.box).reply ≡ 25 → ⊥
  pub fitting : (q : Call) → RefusedBy BadTable (called t q r.box).reply → ⊥
  pub quiet : (room : ℕ) → QuietExactly t r.box room
