-- What a byte, an event and a drain do on every table and state there can be, those that no script has too. "It counts for waits in every case." "An event
-- is taken only when no process is ready. A drain does one statement of the lowest-numbered ready process". Assumes nothing: these are definitions.
use Rattle.std.specs.Prelude.{◌≡◌, Bool, true, false, List, [], map, ℕ, length, get_or, take, drop, Ok}
use Rattle.language.specs.declared.Heads.{Heads}
use Rattle.language.specs.declared.Table.{Table}
use Rattle.process.specs.declared.State.{State}
use Rattle.process.specs.declared.Copies.{Copies}
use Rattle.process.specs.Waiting.{byte_taken}
use Rattle.process.specs.State.{busy}
use Rattle.events.specs.Receiving.{ranges_right, byte_event}
use Rattle.statement.specs.Moving.{moved}
use Rattle.statement.specs.declared.outcome.Outcome.{Outcome}
use Rattle.statement.specs.declared.outcome.Outcome.TheVariants.{Quiet, Sent, Recorded, Rts, Fchange, Pause, Resume, Plain, Refused}
use Rattle.runner.specs.Draining.{lowest, nobody, turn_of, does, drained, buffer_after}
use Rattle.runner.specs.Calls as calls
use Rattle.runner.specs.Calls.{Box, drain, Reply, event, gulp, outcome, Called}
use Rattle.bounded.specs.Replies.{called, was_taken}

-- ---- "It counts for waits in every case"

-- the state, paused or not
abbrev pub with_paused : State → Bool → State
with_paused s paused = record { processes = s.processes; reading = s.reading; levels = s.levels; paused = paused }

-- a byte that is taken counts for every process, however often it is recorded; and what it does to them is the same under any PAUSE, OMIT and ENCODE
pub record CountsAlways (pool : List ℕ) (h : Heads) (s : State) (b : ℕ) : Type 0 where
  pub counts : (c : Copies) → (byte_event pool h s b).answer ≡ Ok c → (byte_event pool h s b).state.processes ≡ map (byte_taken pool b) s.processes
  pub alike : (g : Heads) (paused : Bool) → ranges_right g s ≡ ranges_right h s
      → (byte_event pool g (with_paused s paused) b).state.processes ≡ (byte_event pool h s b).state.processes

-- ---- events and drains

-- "An event is taken only when no process is ready", and one that is not taken alters nothing
pub record TakenWhenQuiet (b : Box) (r : Called) : Type 0 where
  pub only : was_taken r.reply ≡ true → busy b.state ≡ false
  pub unaltered : was_taken r.reply ≡ false → r.box ≡ b

-- "A drain does one statement of the lowest-numbered ready process": it leaves every other process as it was; what it does is one statement of that
-- process; and where it does none it alters nothing
pub record OneStatement (t : Table) (b : Box) (room : ℕ) : Type 0 where
  pub others : (i : ℕ) → (i ≡ lowest b.state.processes → ⊥)
      → get_or (called t (drain room) b).box.state.processes i nobody ≡ get_or b.state.processes i nobody
  pub one : does t.cells b.state room ≡ true
      → get_or (called t (drain room) b).box.state.processes (lowest b.state.processes) nobody ≡ (moved t.cells b.state.levels (turn_of b.state)).process
  pub ready : does t.cells b.state room ≡ true → busy b.state ≡ true
  pub none : does t.cells b.state room ≡ false → (called t (drain room) b).box ≡ b

-- ---- what a drain wrote

-- the bytes of a reply
abbrev pub reply_bytes : Reply → List ℕ
reply_bytes (event a) = []
reply_bytes (calls.received a) = []
reply_bytes (gulp a records) = records
reply_bytes (outcome o bytes) = bytes

-- how many bytes an outcome tells
abbrev pub told_bytes : Outcome → ℕ
told_bytes Quiet = 0
told_bytes (Sent n) = n.bytes
told_bytes (Recorded n) = n.bytes
told_bytes (Rts s) = 0
told_bytes Fchange = 0
told_bytes Pause = 0
told_bytes Resume = 0
told_bytes Plain = 0
told_bytes (Refused r) = 0

-- "Success writes only the bytes it reports": those of the reply stand at the front of the lent buffer, the outcome tells how many, and after them the
-- buffer is as it was
pub record Wrote (t : Table) (b : Box) (out : List ℕ) (bytes after : List ℕ) : Type 0 where
  pub told : told_bytes (drained t.cells t.pool b.state b.counts (length out)).outcome ≡ length bytes
  pub front : take (length bytes) after ≡ bytes
  pub rest : drop (length bytes) after ≡ drop (length bytes) out

-- of a drain with this buffer
abbrev pub DrainWrote : Table → Box → List ℕ → Type 0
DrainWrote t b out = Wrote t b out (reply_bytes (called t (drain (length out)) b).reply) (buffer_after t.cells t.pool b.state b.counts out)
