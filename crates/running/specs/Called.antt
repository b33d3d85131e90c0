-- What a call on a script's box comes to: events, drains, recording and the counts of LOG, over whole runs. Document 01, "Running". Assumes nothing:
-- these are definitions.
use Rattle.std.specs.Prelude.{◌≡◌, Bool, true, false, cond, ◌&&◌, List, [], ◌∷◌, ◌++◌, map, ℕ, zero, suc, ◌+◌, ◌%◌, ◌≤◌, ◌<◌, length, get_or, take, replicate, eqb, Ok}
use Rattle.language.specs.Script.{Statement, send, loop, end, wait_time, wait_data, wait_byte, wait_clock, wait_signal, rts, log, fchange, pause, resume, nop, Script}
use Rattle.process.specs.declared.Gulp.{Gulp}
use Rattle.process.specs.declared.Copies.{Copies}
use Rattle.process.specs.State.{any}
use Rattle.statement.specs.declared.outcome.Outcome.{Outcome}
use Rattle.statement.specs.declared.outcome.Outcome.TheVariants.{Quiet, Sent, Recorded, Rts, Fchange, Pause, Resume, Plain, Refused}
use Rattle.record.specs.Logging.{record_of}
use Rattle.runner.specs.Calls as calls
use Rattle.runner.specs.Calls.{Call, start, tick, byte, reading, level, ticks, bytes, drain, Reply, event, gulp, outcome}
use Rattle.bounded.specs.Replies.{was_taken, is_event, took_many}
use Rattle.running.specs.Running.{Process, Box, Next, idle, statement, next, ready, busy, Deed, does, Called, times_recorded, waiting, at_first, called}
use Rattle.running.specs.Waits.{since}
use Rattle.language.specs.Limits.{drain_least, wide}

-- ---- some calls, one after the other

-- process k of a box, from 0; one that it does not have has no statement
abbrev pub process : ℕ → Box → Process
process k b = get_or b.processes k (at_first [])

-- the box after them
unfoldable pub box_after : Script → Box → List Call → Box
box_after s b [] = b
box_after s b (q ∷ qs) = box_after s (called s q b).box qs

-- a call that is a start
abbrev pub is_start : Call → Bool
is_start start = true
is_start tick = false
is_start (byte x) = false
is_start (reading r) = false
is_start (level n on) = false
is_start (ticks n) = false
is_start (bytes run room) = false
is_start (drain room) = false

-- how many single events a reply says were taken by a gulp
abbrev pub many_in : Reply → ℕ
many_in (event a) = 0
many_in (calls.received a) = 0
many_in (gulp a records) = took_many a
many_in (outcome o written) = 0

-- the single events that a call was, by its reply: of a gulp those that it took
unfoldable pub singles : Call → Reply → List Call
singles start r = start ∷ []
singles tick r = tick ∷ []
singles (byte x) r = byte x ∷ []
singles (reading x) r = reading x ∷ []
singles (level n on) r = level n on ∷ []
singles (ticks n) r = replicate (many_in r) tick
singles (bytes run room) r = map byte (take (many_in r) run)
singles (drain room) r = drain room ∷ []

-- the single events among them that are taken
unfoldable pub taken_in : Script → Box → List Call → List Call
taken_in s b [] = []
taken_in s b (q ∷ qs) =
    let rest = taken_in s (called s q b).box qs in
    cond (is_event q && was_taken (called s q b).reply) (singles q (called s q b).reply ++ rest) rest

-- process k is ready before none of them
unfoldable pub waits_on : Script → ℕ → Box → List Call → Bool
waits_on s k b [] = true
waits_on s k b (q ∷ qs) = cond (ready (process k b)) false (waits_on s k (called s q b).box qs)

-- ---- events

-- "An event is taken only when no process is ready." One that is not taken alters nothing; one that is acts on the wait of every process, and on nothing
-- else of it; a gulp as the single events that it took. A byte too, however often it is recorded: "It counts for waits in every case."
pub record EventTaken (b : Box) (q : Call) (r : Called) : Type 0 where
  pub only : was_taken r.reply ≡ true → busy b ≡ false
  pub unaltered : was_taken r.reply ≡ false → r.box ≡ b
  pub acts : was_taken r.reply ≡ true → r.box.processes ≡ map (waiting (since (singles q r.reply))) b.processes

-- "since it began": through any calls but a start, a process that is not ready has its wait changed by the events that are taken, one after the other, and
-- stays otherwise as it was, whatever the other processes do
pub record WaitsThrough (s : Script) (b : Box) (k : ℕ) (qs : List Call) : Type 0 where
  pub through : any is_start qs ≡ false → waits_on s k b qs ≡ true → process k (box_after s b qs) ≡ waiting (since (taken_in s b qs)) (process k b)

-- ---- drains

-- process p of some has its turn: those before it are not ready, and it is, with the statement x and ss after it
pub record HasTurn (ps before : List Process) (p : Process) (behind : List Process) (x : Statement) (ss : List Statement) : Type 0 where
  pub parts : ps ≡ before ++ (p ∷ behind)
  pub lowest : any ready before ≡ false
  pub ready : next p ≡ statement x ss

-- one of them has
pub record SomeTurn (ps : List Process) : Type 0 where
  pub before : List Process
  pub process : Process
  pub behind : List Process
  pub statement : Statement
  pub rest : List Statement
  pub turn : HasTurn ps before process behind statement rest

-- the box and the reply after a statement that makes these processes
abbrev pub doing : Box → List Process → Deed → Called
doing b ps d = record { box = record { processes = ps; reading = b.reading; levels = b.levels; paused = d.paused }; reply = outcome d.says d.bytes }

-- "A drain does one statement of the lowest-numbered ready process": the other processes stay as they are. It "says what it sent, recorded": all bytes of
-- the statement and no other, and of LOG the record of its own text with its own count. It "says quiet exactly when none is ready", and alters nothing then
pub record OneStatement (s : Script) (b : Box) (room : ℕ) (enough : drain_least ≤ room) : Type 0 where
  pub one : (before : List Process) (p : Process) (behind : List Process) (x : Statement) (ss : List Statement) → HasTurn b.processes before p behind x ss →
      called s (drain room) b ≡ doing b (before ++ ((does b p ss x).process ∷ behind)) (does b p ss x)
  pub sends : (before : List Process) (p : Process) (behind : List Process) (bs : List ℕ) (ss : List Statement) → HasTurn b.processes before p behind (send bs) ss →
      (called s (drain room) b).reply ≡ outcome (Sent (record { bytes = length bs })) bs
  pub records : (before : List Process) (p : Process) (behind : List Process) (text : List ℕ) (ss : List Statement) → HasTurn b.processes before p behind (log text) ss →
      (called s (drain room) b).reply
      ≡ outcome (Recorded (record { bytes = length (record_of b.reading (p.counts (length ss)) text) })) (record_of b.reading (p.counts (length ss)) text)
  pub some : busy b ≡ true → SomeTurn b.processes
  pub quiet : busy b ≡ false → called s (drain room) b ≡ record { box = b; reply = outcome Quiet [] }
  pub only : (called s (drain room) b).reply ≡ outcome Quiet [] → busy b ≡ false

-- ---- recording

-- whether recording is paused after an outcome
abbrev pub paused_since : Outcome → Bool → Bool
paused_since Quiet p = p
paused_since (Sent n) p = p
paused_since (Recorded n) p = p
paused_since (Rts s) p = p
paused_since Fchange p = p
paused_since Pause p = true
paused_since Resume p = false
paused_since Plain p = p
paused_since (Refused r) p = p

-- and after any reply
abbrev pub paused_said : Reply → Bool → Bool
paused_said (event a) p = p
paused_said (calls.received a) p = p
paused_said (gulp a records) p = p
paused_said (outcome o written) p = paused_since o p

-- "PAUSE and RESUME act from the next byte"; a start begins unpaused
unfoldable pub paused_after : Call → Reply → Bool → Bool
paused_after start r p = false
paused_after tick r p = p
paused_after (byte x) r p = p
paused_after (reading x) r p = p
paused_after (level n on) r p = p
paused_after (ticks n) r p = p
paused_after (bytes run room) r p = p
paused_after (drain room) r p = paused_said r p

-- the replies to some calls say whether it is paused after them
unfoldable pub paused_then : Script → Box → List Call → Bool → Bool
paused_then s b [] p = p
paused_then s b (q ∷ qs) p = paused_then s (called s q b).box qs (paused_after q (called s q b).reply p)

-- the records of some bytes, each as often as document 01 says
unfoldable pub records_of : Script → Bool → List ℕ → List ℕ
records_of s paused [] = []
records_of s paused (x ∷ xs) = replicate (times_recorded s.settings paused x) x ++ records_of s paused xs

-- after any calls: paused exactly as the outcomes up to now said, and a byte that is taken is recorded as often as document 01 says, one of a gulp too
pub record RecordedRight (s : Script) (b : Box) (qs : List Call) : Type 0 where
  pub paused : (box_after s b qs).paused ≡ paused_then s b qs b.paused
  pub copied : (x : ℕ) (c : Copies) → (called s (byte x) (box_after s b qs)).reply ≡ calls.received (Ok c) →
      c.count ≡ times_recorded s.settings (paused_then s b qs b.paused) x
  pub gulped : (run : List ℕ) (room : ℕ) (g : Gulp) (bs : List ℕ) → (called s (bytes run room) (box_after s b qs)).reply ≡ gulp (Ok g) bs →
      bs ≡ records_of s (paused_then s b qs b.paused) (take g.taken run)

-- ---- LOG counts

-- a LOG statement
abbrev pub is_log : Statement → Bool
is_log (send bs) = false
is_log (loop n) = false
is_log end = false
is_log (wait_time n) = false
is_log (wait_data bs) = false
is_log (wait_byte n) = false
is_log (wait_clock vs) = false
is_log (wait_signal n on) = false
is_log (rts on) = false
is_log (log text) = true
is_log fchange = false
is_log pause = false
is_log resume = false
is_log nop = false

-- a process does next the LOG that has n statements after it
unfoldable pub logs_next : ℕ → Next → Bool
logs_next n idle = false
logs_next n (statement s ss) = is_log s && eqb n (length ss)

-- process k does so in a drain, none before it being ready
unfoldable pub logs_in : ℕ → ℕ → List Process → Bool
logs_in k n [] = false
logs_in zero n (p ∷ ps) = logs_next n (next p)
logs_in (suc k) n (p ∷ ps) = cond (ready p) false (logs_in k n ps)

-- a call does that statement
unfoldable pub logs : ℕ → ℕ → Call → Box → Bool
logs k n start b = false
logs k n tick b = false
logs k n (byte x) b = false
logs k n (reading r) b = false
logs k n (level m on) b = false
logs k n (ticks m) b = false
logs k n (bytes run room) b = false
logs k n (drain room) b = wide room && logs_in k n b.processes

-- how often some calls do so
unfoldable pub logged_in : Script → ℕ → ℕ → Box → List Call → ℕ
logged_in s k n b [] = 0
logged_in s k n b (q ∷ qs) = cond (logs k n q b) 1 0 + logged_in s k n (called s q b).box qs

-- "Each LOG statement has its own `@c` .. and 4294967295 is followed by 0": the count of the LOG of process k with n statements after it is how often
-- that very statement was done since, and no other, whatever its text; "from 0" after a start
pub record CountsOwn (s : Script) (b : Box) (qs : List Call) : Type 0 where
  pub counted : any is_start qs ≡ false → (k n : ℕ) → (process k b).counts n < 4294967296 →
      (process k (box_after s b qs)).counts n ≡ ((process k b).counts n + logged_in s k n b qs) % 4294967296
  pub from_zero : (k n : ℕ) → (process k (called s start b).box).counts n ≡ 0
