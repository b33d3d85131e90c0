-- When the waits of a script begin and end, whatever events come: document 01, "Running". Assumes nothing: these are definitions.
use Rattle.std.specs.Prelude.{◌≡◌, Bool, true, false, cond, ◌&&◌, List, [], ◌∷◌, ◌++◌, ℕ, ◌+◌, ◌-◌, ◌≤◌, ◌<◌, length, get_or, eqb}
use Rattle.language.specs.Script.{Statement, wait_time, wait_data, wait_byte, wait_clock, wait_signal}
use Rattle.process.specs.Waiting.{same_level}
use Rattle.process.specs.State.{any}
use Rattle.runner.specs.Calls.{Call, start, tick, byte, reading, level, ticks, bytes, drain}
use Rattle.running.specs.Running.{Wait, for_nothing, for_ticks, for_bytes, for_data, for_clock, for_signal, ends_in, ticked, gets, units, read, levelled, Process, Box, does}

-- ---- a wait, and the events since it began

-- what a single event that is taken makes of a wait; a start and a drain are no events, and a gulp is many
abbrev pub event_on : Call → Wait → Wait
event_on start w = w
event_on tick w = ticked w
event_on (byte x) w = gets x w
event_on (reading r) w = read r w
event_on (level n is) w = levelled n is w
event_on (ticks n) w = w
event_on (bytes run room) w = w
event_on (drain room) w = w

-- what events, one after the other, make of a wait
unfoldable pub since : List Call → Wait → Wait
since [] w = w
since (e ∷ es) w = since es (event_on e w)

-- how many of them are of a kind
unfoldable pub count : (Call → Bool) → List Call → ℕ
count kind [] = 0
count kind (e ∷ es) = cond (kind e) 1 0 + count kind es

-- a tick
abbrev pub is_tick : Call → Bool
is_tick start = false
is_tick tick = true
is_tick (byte x) = false
is_tick (reading r) = false
is_tick (level n is) = false
is_tick (ticks n) = false
is_tick (bytes run room) = false
is_tick (drain room) = false

-- a received byte
abbrev pub is_received : Call → Bool
is_received start = false
is_received tick = false
is_received (byte x) = true
is_received (reading r) = false
is_received (level n is) = false
is_received (ticks n) = false
is_received (bytes run room) = false
is_received (drain room) = false

-- a reading that matches the fixed units
abbrev pub reading_matches : List ℕ → Call → Bool
reading_matches vs start = false
reading_matches vs tick = false
reading_matches vs (byte x) = false
reading_matches vs (reading r) = ends_in vs (units r)
reading_matches vs (level n is) = false
reading_matches vs (ticks n) = false
reading_matches vs (bytes run room) = false
reading_matches vs (drain room) = false

-- the event that sets a signal's level
abbrev pub sets_level : ℕ → Bool → Call → Bool
sets_level n on start = false
sets_level n on tick = false
sets_level n on (byte x) = false
sets_level n on (reading r) = false
sets_level n on (level m is) = eqb n m && same_level on is
sets_level n on (ticks m) = false
sets_level n on (bytes run room) = false
sets_level n on (drain room) = false

-- the bytes received
unfoldable pub received_in : List Call → List ℕ
received_in [] = []
received_in (start ∷ es) = received_in es
received_in (tick ∷ es) = received_in es
received_in (byte x ∷ es) = x ∷ received_in es
received_in (reading r ∷ es) = received_in es
received_in (level n is ∷ es) = received_in es
received_in (ticks n ∷ es) = received_in es
received_in (bytes run room ∷ es) = received_in es
received_in (drain room ∷ es) = received_in es

-- ---- how a wait ends

-- "of n .. ends at the n-th": through fewer than n events of its kind it waits on, and at the n-th it is over; no other event counts
pub record EndsAtLast (kind : Call → Bool) (wait : ℕ → Wait) : Type 0 where
  pub waits : (n : ℕ) (es : List Call) → count kind es < n → since es (wait n) ≡ wait (n - count kind es)
  pub ends : (n : ℕ) (es : List Call) → 0 < n → n ≤ count kind es → since es (wait n) ≡ for_nothing

-- at the first event that passes a test, and at no other
pub record EndsAtFirst (test : Call → Bool) (wait : Wait) : Type 0 where
  pub waits : (es : List Call) → any test es ≡ false → since es wait ≡ wait
  pub ends : (es : List Call) → any test es ≡ true → since es wait ≡ for_nothing

-- "the last bytes .. equal its data": some bytes, and then the data
pub record Last (d xs : List ℕ) : Type 0 where
  pub before : List ℕ
  pub parts : before ++ d ≡ xs

-- "WAIT DATA ends when the last bytes received since it began equal its data": it waits on while they never did, and is over once they did
pub record DataWait (d : List ℕ) : Type 0 where
  pub waits : (es : List Call) → ((fs gs : List Call) → fs ++ gs ≡ es → Last d (received_in fs) → ⊥) → since es (for_data d []) ≡ for_data d (received_in es)
  pub ends : (fs gs : List Call) → Last d (received_in fs) → since (fs ++ gs) (for_data d []) ≡ for_nothing

-- every wait of a script
pub record WaitsEnd : Type 0 where
  -- "WAIT TIME of n ms ends at the n-th tick after it began. WAIT BYTE likewise for bytes."
  pub of_time : EndsAtLast is_tick for_ticks
  pub of_bytes : EndsAtLast is_received for_bytes
  -- the data are not empty
  pub of_data : (d : List ℕ) → 0 < length d → DataWait d
  -- "WAIT CLOCK ends at a later reading that matches, also when the clock has gone back": the readings may come in any order
  pub of_clock : (vs : List ℕ) → EndsAtFirst (reading_matches vs) (for_clock vs)
  -- "else at the event that sets it"
  pub of_signal : (n : ℕ) (on : Bool) → EndsAtFirst (sets_level n on) (for_signal n on)

-- ---- how a wait begins

-- a process after its statement, in front of those after it
abbrev pub wait_at : Box → Process → List Statement → Statement → Wait
wait_at b p ss s = (does b p ss s).process.wait

-- "Zero waits pass"; "Signal waits pass at once if the level holds"
pub record WaitsBegin (b : Box) (p : Process) (ss : List Statement) : Type 0 where
  pub of_time : (n : ℕ) → 0 < n → wait_at b p ss (wait_time n) ≡ for_ticks n
  pub of_no_time : wait_at b p ss (wait_time 0) ≡ for_nothing
  pub of_bytes : (n : ℕ) → 0 < n → wait_at b p ss (wait_byte n) ≡ for_bytes n
  pub of_no_bytes : wait_at b p ss (wait_byte 0) ≡ for_nothing
  pub of_data : (d : List ℕ) → wait_at b p ss (wait_data d) ≡ for_data d []
  pub of_clock : (vs : List ℕ) → wait_at b p ss (wait_clock vs) ≡ for_clock vs
  pub of_holding : (n : ℕ) (on : Bool) → get_or b.levels n false ≡ on → wait_at b p ss (wait_signal n on) ≡ for_nothing
  pub of_signal : (n : ℕ) (on : Bool) → (get_or b.levels n false ≡ on → ⊥) → wait_at b p ss (wait_signal n on) ≡ for_signal n on
