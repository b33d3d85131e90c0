-- WHAT A SCRIPT DOES: document 01, "Running", said of the script's own statements. There is no table here, no cell, no place and no pool.
use Rattle.std.specs.Prelude.{ℕ, ◌-◌, Bool, true, false, cond, ◌&&◌, ◌||◌, List, [], ◌∷◌, ◌++◌, map, length, get_or, set, drop, replicate, ltb, leb, eqb, Ok, Err}
use Rattle.reader.specs.Bytes.{same}
use Rattle.language.specs.Script.{Statement, send, loop, end, wait_time, wait_data, wait_byte, wait_clock, wait_signal, rts, log, fchange, pause, resume, nop, Encode, unset, byte, Settings, Script}
use Rattle.running.specs.Joined.{done}
use Rattle.process.specs.declared.Reading.{Reading}
use Rattle.process.specs.declared.RunRefusal.{RunRefusal}
use Rattle.process.specs.declared.RunRefusal.TheVariants.{Busy, BadReading, NoSuchSignal, SmallBuffer}
use Rattle.process.specs.Answers.{Received}
use Rattle.statement.specs.declared.outcome.Outcome.{Outcome}
use Rattle.statement.specs.declared.outcome.Outcome.TheVariants.{Quiet, Sent, Recorded, Rts, Fchange, Pause, Resume, Plain, Refused}
use Rattle.process.specs.Waiting.{same_level}
use Rattle.process.specs.State.{any}
use Rattle.events.specs.Events.{reading_right}
use Rattle.events.specs.Recording.{one_of}
use Rattle.events.specs.Gulps.{Gulping, ticks_from, bytes_from}
use Rattle.record.specs.Logging.{record_of, next_count}
use Rattle.runner.specs.Starting.{no_reading}
use Rattle.runner.specs.Calls as calls
use Rattle.runner.specs.Calls.{Call, start, tick, reading, level, ticks, bytes, drain, Reply, event, gulp, outcome}
use Rattle.language.specs.Limits.{signals, wide}

-- ---- what there is

-- an open loop: the passes left, the present one among them, 0 is forever; and the statements from its body's first on
pub record Loop : Type 0 where
  pub left : ℕ
  pub body : List Statement

-- what a process waits for
pub data Wait : Type 0 where
  for_nothing : Wait
  for_ticks for_bytes : ℕ → Wait  -- so many more
  for_data : List ℕ → List ℕ → Wait  -- the data; all bytes received since the wait began
  for_clock : List ℕ → Wait  -- the values of the fixed units
  for_signal : ℕ → Bool → Wait

-- a process: the statements still to come, its open loops, the innermost first, its wait; and how often each of its LOG statements has been done, by
-- the number of statements after it
pub record Process : Type 0 where
  pub coming : List Statement
  pub loops : List Loop
  pub wait : Wait
  pub counts : ℕ → ℕ

-- the processes, the last reading, the levels of CTS and EX1 to EX4, and whether recording is paused
pub record Box : Type 0 where
  pub processes : List Process
  pub reading : Reading
  pub levels : List Bool
  pub paused : Bool

-- ---- ready

-- what a process does next: a statement, with those after it; or nothing now
pub data Next : Type 0 where
  idle : Next
  statement : Statement → List Statement → Next

-- "one past its last statement is never ready again"
unfoldable pub next_in : List Statement → Next
next_in [] = idle
next_in (s ∷ ss) = statement s ss

-- it waits for nothing, and has a statement to come
unfoldable pub next_by : Wait → List Statement → Next
next_by for_nothing ss = next_in ss
next_by (for_ticks n) ss = idle
next_by (for_bytes n) ss = idle
next_by (for_data d xs) ss = idle
next_by (for_clock vs) ss = idle
next_by (for_signal n on) ss = idle

-- of a process
abbrev pub next : Process → Next
next p = next_by p.wait p.coming

-- a statement, or none
unfoldable pub is_statement : Next → Bool
is_statement idle = false
is_statement (statement s ss) = true

-- "ready"
abbrev pub ready : Process → Bool
ready p = is_statement (next p)

-- some process is ready
unfoldable pub busy : Box → Bool
busy b = any ready b.processes

-- ---- the waits

-- "the last bytes received .. equal its data"
unfoldable pub ends_in : List ℕ → List ℕ → Bool
ends_in d xs = same d (drop (length xs - length d) xs)

-- "WAIT TIME of n ms ends at the n-th tick after it began."
unfoldable pub ticked : Wait → Wait
ticked for_nothing = for_nothing
ticked (for_ticks n) = cond (leb n 1) for_nothing (for_ticks (n - 1))
ticked (for_bytes n) = for_bytes n
ticked (for_data d xs) = for_data d xs
ticked (for_clock vs) = for_clock vs
ticked (for_signal n on) = for_signal n on

-- "WAIT BYTE likewise for bytes. WAIT DATA ends when the last bytes received since it began equal its data."
unfoldable pub gets : ℕ → Wait → Wait
gets b for_nothing = for_nothing
gets b (for_ticks n) = for_ticks n
gets b (for_bytes n) = cond (leb n 1) for_nothing (for_bytes (n - 1))
gets b (for_data d xs) = cond (ends_in d (xs ++ (b ∷ []))) for_nothing (for_data d (xs ++ (b ∷ [])))
gets b (for_clock vs) = for_clock vs
gets b (for_signal n on) = for_signal n on

-- the units of a reading that a clock wait can fix, the longest first
abbrev pub units : Reading → List ℕ
units r = r.day ∷ r.hour ∷ r.minute ∷ r.second ∷ []

-- "WAIT CLOCK ends at a later reading that matches": the fixed units are the shortest ones, and "longer units match all"
unfoldable pub read : Reading → Wait → Wait
read r for_nothing = for_nothing
read r (for_ticks n) = for_ticks n
read r (for_bytes n) = for_bytes n
read r (for_data d xs) = for_data d xs
read r (for_clock vs) = cond (ends_in vs (units r)) for_nothing (for_clock vs)
read r (for_signal n on) = for_signal n on

-- "Signal waits pass .. at the event that sets it."
unfoldable pub levelled : ℕ → Bool → Wait → Wait
levelled m is for_nothing = for_nothing
levelled m is (for_ticks n) = for_ticks n
levelled m is (for_bytes n) = for_bytes n
levelled m is (for_data d xs) = for_data d xs
levelled m is (for_clock vs) = for_clock vs
levelled m is (for_signal n on) = cond (eqb n m && same_level on is) for_nothing (for_signal n on)

-- ---- one statement

-- on to the statements after, with a wait
abbrev pub on : Process → List Statement → Wait → Process
on p ss w = record { coming = ss; loops = p.loops; wait = w; counts = p.counts }

-- "Zero waits pass."
unfoldable pub unless_zero : ℕ → Wait → Wait
unless_zero n w = cond (eqb n 0) for_nothing w

-- "Signal waits pass at once if the level holds"
unfoldable pub unless_holds : Bool → ℕ → Bool → Wait
unless_holds is n on = cond (same_level on is) for_nothing (for_signal n on)

-- on to some statements, with other loops open
abbrev pub in_loops : Process → List Statement → List Loop → Process
in_loops p ss ls = record { coming = ss; loops = ls; wait = for_nothing; counts = p.counts }

-- one pass of a loop less
abbrev pub fewer : Loop → Loop
fewer l = record { left = l.left - 1; body = l.body }

-- "`#END` closes the innermost loop": back to its body for the next pass, or on after it after the last; no accepted script has END with none open
unfoldable pub closed : Process → List Statement → List Loop → Process
closed p ss [] = in_loops p ss []
closed p ss (l ∷ ls) =
    cond (eqb l.left 0) (in_loops p l.body (l ∷ ls))
    (cond (eqb l.left 1) (in_loops p ss ls)
    (in_loops p l.body (fewer l ∷ ls)))

-- "Each LOG statement has its own `@c`": one more for the LOG with so many statements after it
unfoldable pub logged : Process → List Statement → Process
logged p ss =
    record {
      coming = ss;
      loops = p.loops;
      wait = for_nothing;
      counts = λ n. cond (eqb n (length ss)) (next_count (p.counts n)) (p.counts n);
    }

-- what a statement comes to: its process after it, whether recording is paused then, what the drain says, the bytes sent or recorded
pub record Deed : Type 0 where
  pub process : Process
  pub paused : Bool
  pub says : Outcome
  pub bytes : List ℕ

-- a statement that leaves the pause as it is
abbrev pub deed : Box → Process → Outcome → List ℕ → Deed
deed b p o bs = record { process = p; paused = b.paused; says = o; bytes = bs }

-- a record of some bytes
abbrev pub recorded : Box → Process → List ℕ → Deed
recorded b p bs = deed b p (Recorded (record { bytes = length bs })) bs

-- what each statement of a process does, those after it being given; "FCHANGE is taken to need no time"
unfoldable pub does : Box → Process → List Statement → Statement → Deed
does b p ss (send bs) = deed b (on p ss for_nothing) (Sent (record { bytes = length bs })) bs
does b p ss (loop n) = deed b (in_loops p ss (record { left = n; body = ss } ∷ p.loops)) Plain []
does b p ss end = deed b (closed p ss p.loops) Plain []
does b p ss (wait_time n) = deed b (on p ss (unless_zero n (for_ticks n))) Plain []
does b p ss (wait_data bs) = deed b (on p ss (for_data bs [])) Plain []
does b p ss (wait_byte n) = deed b (on p ss (unless_zero n (for_bytes n))) Plain []
does b p ss (wait_clock vs) = deed b (on p ss (for_clock vs)) Plain []
does b p ss (wait_signal n is) = deed b (on p ss (unless_holds (get_or b.levels n false) n is)) Plain []
does b p ss (rts is) = deed b (on p ss for_nothing) (Rts (record { on = is })) []
does b p ss (log text) = recorded b (logged p ss) (record_of b.reading (p.counts (length ss)) text)
does b p ss fchange = deed b (on p ss for_nothing) Fchange []
does b p ss pause = record { process = on p ss for_nothing; paused = true; says = Pause; bytes = [] }
does b p ss resume = record { process = on p ss for_nothing; paused = false; says = Resume; bytes = [] }
does b p ss nop = deed b (on p ss for_nothing) Plain []

-- ---- a drain

-- what a turn comes to: the processes, the pause, what was said and the bytes; or that none is ready
pub data Turn : Type 0 where
  none : Turn
  did : List Process → Bool → Outcome → List ℕ → Turn

-- a turn of a process further on
unfoldable pub later : Process → Turn → Turn
later p none = none
later p (did ps paused o bs) = did (p ∷ ps) paused o bs

-- a process takes its turn, or one of those after it does
unfoldable pub takes : Box → Process → List Process → Next → Turn → Turn
takes b p ps idle rest = later p rest
takes b p ps (statement s ss) rest =
    let d = does b p ss s in
    did (d.process ∷ ps) d.paused d.says d.bytes

-- "one statement of the lowest-numbered ready process"
unfoldable pub turn : Box → List Process → Turn
turn b [] = none
turn b (p ∷ ps) = takes b p ps (next p) (turn b ps)

-- the box after a call, and what it was answered
pub record Called : Type 0 where
  pub box : Box
  pub reply : Reply

-- "and says what it sent, recorded or switched; or says quiet exactly when none is ready"
unfoldable pub drained : Box → Turn → Called
drained b none = record { box = b; reply = outcome Quiet [] }
drained b (did ps paused o bs) =
    record { box = record { processes = ps; reading = b.reading; levels = b.levels; paused = paused }; reply = outcome o bs }

-- ---- recording

-- the ENCODE byte is recorded twice
unfoldable pub times_by : Encode → ℕ → ℕ
times_by unset x = 1
times_by (byte e) x = cond (eqb e x) 2 1

-- "A received byte is recorded once; not at all if paused or in OMIT; in all other cases twice if it is the ENCODE byte."
unfoldable pub times_recorded : Settings → Bool → ℕ → ℕ
times_recorded s paused x = cond (paused || one_of s.omit x) 0 (times_by s.encode x)

-- ---- the calls

-- an event changes the wait of a process
abbrev pub waiting : (Wait → Wait) → Process → Process
waiting f p = record { coming = p.coming; loops = p.loops; wait = f p.wait; counts = p.counts }

-- and of every process of a box
abbrev pub all_waiting : (Wait → Wait) → Box → List Process
all_waiting f b = map (waiting f) b.processes

-- the box with these processes
abbrev pub having : List Process → Box → Box
having ps b = record { processes = ps; reading = b.reading; levels = b.levels; paused = b.paused }

-- "A refusal alters no state"
abbrev pub refuses : Box → RunRefusal → Called
refuses b r = record { box = b; reply = event (Err r) }

-- an event that is taken
abbrev pub takes_event : Box → Called
takes_event b = record { box = b; reply = event (Ok tt) }

-- a process at its first statement
abbrev pub at_first : List Statement → Process
at_first ss = record { coming = ss; loops = []; wait = for_nothing; counts = λ n. 0 }

-- "Start makes every process with statements ready"; "Levels start off"; WAIT DATA lines that follow each other are one statement
unfoldable pub started : Script → Box
started s = record { processes = map at_first (done s.body); reading = no_reading; levels = replicate signals false; paused = false }

-- a tick alone: the box after it
abbrev pub tick_box : Box → Box
tick_box b = cond (busy b) b (having (all_waiting ticked b) b)

-- a received byte alone: what it is answered
abbrev pub byte_answer : Script → ℕ → Box → Received
byte_answer s x b = cond (busy b) (Err Busy) (Ok (record { count = times_recorded s.settings b.paused x }))

-- and the box after it
abbrev pub byte_box : ℕ → Box → Box
byte_box x b = cond (busy b) b (having (all_waiting (gets x) b) b)

-- No. 2, "a whole gulp at once": what came of the single events, as a call's answer; "If a process is ready at the outset it takes none": 21
abbrev pub gulps : Box → Gulping Box → Called
gulps b g =
    cond (busy b) (record { box = b; reply = gulp (Err Busy) [] })
    (record { box = g.box; reply = gulp (Ok (record { taken = g.taken; recorded = length g.records })) g.records })

-- "An event is taken only when no process is ready." 24, then 21, 22, 23; 25 is never answered
unfoldable pub called : Script → Call → Box → Called
called s start b = takes_event (started s)
called s tick b = cond (busy b) (refuses b Busy) (takes_event (having (all_waiting ticked b) b))
called s (calls.byte x) b = record { box = byte_box x b; reply = calls.received (byte_answer s x b) }
called s (reading r) b =
    cond (busy b) (refuses b Busy)
    (cond (reading_right r)
    (takes_event (record { processes = all_waiting (read r) b; reading = r; levels = b.levels; paused = b.paused }))
    (refuses b BadReading))
called s (level n is) b =
    cond (busy b) (refuses b Busy)
    (cond (ltb n signals)
    (takes_event (record { processes = all_waiting (levelled n is) b; reading = b.reading; levels = set b.levels n is; paused = b.paused }))
    (refuses b NoSuchSignal))
called s (ticks n) b = gulps b (ticks_from busy tick_box b n)
called s (bytes run room) b = gulps b (bytes_from busy (byte_answer s) byte_box b run room)
called s (drain room) b =
    cond (wide room) (drained b (turn b b.processes))
    (record { box = b; reply = outcome (Refused SmallBuffer) [] })

-- the replies to some calls, one after the other
unfoldable pub replies : Script → Box → List Call → List Reply
replies s b [] = []
replies s b (q ∷ qs) = (called s q b).reply ∷ replies s (called s q b).box qs
