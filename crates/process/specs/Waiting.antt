-- What each event does to a wait and to a process.
use Rattle.std.specs.Prelude.{ℕ, ◌+◌, ◌-◌, Bool, true, false, cond, ◌&&◌, List, take, drop, ltb, leb, eqb}
use Rattle.language.specs.declared.Clock.{Clock}
use Rattle.language.specs.declared.Level.{Level}
use Rattle.language.specs.Limits.{pool_places}
use Rattle.process.specs.declared.Reading.{Reading}
use Rattle.process.specs.declared.Progress.{Progress}
use Rattle.process.specs.declared.Wait.{Wait}
use Rattle.process.specs.declared.Wait.TheVariants.{Ready, Over, Ticks, Bytes, Data, ClockValue, Signal}
use Rattle.process.specs.declared.Process.{Process}
use Rattle.process.specs.Matching.{advance}

-- "ready"
abbrev pub ready_wait : Wait → Bool
ready_wait Ready = true
ready_wait Over = false
ready_wait (Ticks n) = false
ready_wait (Bytes n) = false
ready_wait (Data m) = false
ready_wait (ClockValue c) = false
ready_wait (Signal l) = false

-- a process that waits for nothing
abbrev pub ready : Process → Bool
ready p = ready_wait p.wait

-- "one past its last statement is never ready again"
unfoldable pub awake : ℕ → ℕ → Wait
awake place end = cond (ltb place end) Ready Over

-- a process with another wait
abbrev pub with_wait : Process → Wait → Process
with_wait p w = record { place = p.place; end = p.end; depth = p.depth; left = p.left; back = p.back; wait = w }

-- ---- "a tick of 1 ms": "WAIT TIME of n ms ends at the n-th tick after it began"

-- "WAIT TIME of n ms ends at the n-th tick"
abbrev pub ticked_wait : ℕ → ℕ → Wait → Wait
ticked_wait place end Ready = Ready
ticked_wait place end Over = Over
ticked_wait place end (Ticks n) = cond (leb n 1) (awake place end) (Ticks (n - 1))
ticked_wait place end (Bytes n) = Bytes n
ticked_wait place end (Data m) = Data m
ticked_wait place end (ClockValue c) = ClockValue c
ticked_wait place end (Signal l) = Signal l

-- a process takes a tick
abbrev pub ticked : Process → Process
ticked p = with_wait p (ticked_wait p.place p.end p.wait)

-- ---- "a received byte": "WAIT BYTE likewise for bytes. WAIT DATA ends when the last bytes received since it began equal its data"

-- the data of a wait
abbrev pub awaited : List ℕ → Progress → List ℕ
awaited pool m = take m.count (drop m.from pool)

-- so many bytes of the data are matched
abbrev pub matched_to : Progress → ℕ → Progress
matched_to m k = record { from = m.from; count = m.count; matched = k }

-- k bytes of the data are matched now: the wait is over where that is all of them
unfoldable pub matched_wait : ℕ → ℕ → Progress → ℕ → Wait
matched_wait place end m k = cond (eqb k m.count) (awake place end) (Data (matched_to m k))

-- "WAIT BYTE likewise for bytes"; a wait for data is matched on
abbrev pub byte_wait : List ℕ → ℕ → ℕ → ℕ → Wait → Wait
byte_wait pool b place end Ready = Ready
byte_wait pool b place end Over = Over
byte_wait pool b place end (Ticks n) = Ticks n
byte_wait pool b place end (Bytes n) = cond (leb n 1) (awake place end) (Bytes (n - 1))
byte_wait pool b place end (Data m) = matched_wait place end m (advance (awaited pool m) m.matched b)
byte_wait pool b place end (ClockValue c) = ClockValue c
byte_wait pool b place end (Signal l) = Signal l

-- a process takes a byte
abbrev pub byte_taken : List ℕ → ℕ → Process → Process
byte_taken pool b p = with_wait p (byte_wait pool b p.place p.end p.wait)

-- a data range that the event must use lies within the pool, and what is matched within the range
unfoldable pub progress_right : Progress → Bool
progress_right m = leb (m.from + m.count) pool_places && ltb m.matched m.count

-- a data range that leaves the pool, or is matched past its end, is 25
abbrev pub wait_right : Wait → Bool
wait_right Ready = true
wait_right Over = true
wait_right (Ticks n) = true
wait_right (Bytes n) = true
wait_right (Data m) = progress_right m
wait_right (ClockValue c) = true
wait_right (Signal l) = true

-- the data range of a process
abbrev pub range_right : Process → Bool
range_right p = wait_right p.wait

-- ---- "a clock reading": "WAIT CLOCK ends at a later reading that matches, also when the clock has gone back"

-- "longer units match all": a unit that is fixed must be equal
unfoldable pub unit_matches : Bool → ℕ → ℕ → Bool
unit_matches true v w = eqb v w
unit_matches false v w = true

-- a reading has the value of each fixed unit
unfoldable pub matches : Clock → Reading → Bool
matches c r =
    unit_matches (leb 4 c.fixed) c.day r.day
    && (unit_matches (leb 3 c.fixed) c.hour r.hour
    && (unit_matches (leb 2 c.fixed) c.minute r.minute
    && unit_matches (leb 1 c.fixed) c.second r.second))

-- a reading ends a wait for a clock value that it matches
abbrev pub reading_wait : Reading → ℕ → ℕ → Wait → Wait
reading_wait r place end Ready = Ready
reading_wait r place end Over = Over
reading_wait r place end (Ticks n) = Ticks n
reading_wait r place end (Bytes n) = Bytes n
reading_wait r place end (Data m) = Data m
reading_wait r place end (ClockValue c) = cond (matches c r) (awake place end) (ClockValue c)
reading_wait r place end (Signal l) = Signal l

-- a process takes a reading
abbrev pub reading_taken : Reading → Process → Process
reading_taken r p = with_wait p (reading_wait r p.place p.end p.wait)

-- ---- "a signal level": "Signal waits pass at once if the level holds, else at the event that sets it"

-- two levels agree
abbrev pub same_level : Bool → Bool → Bool
same_level true on = on
same_level false true = false
same_level false false = true

-- an event sets the level that a wait is for
unfoldable pub sets_level : Level → Level → Bool
sets_level l e = eqb l.signal e.signal && same_level l.on e.on

-- such an event ends the wait
abbrev pub level_wait : Level → ℕ → ℕ → Wait → Wait
level_wait e place end Ready = Ready
level_wait e place end Over = Over
level_wait e place end (Ticks n) = Ticks n
level_wait e place end (Bytes n) = Bytes n
level_wait e place end (Data m) = Data m
level_wait e place end (ClockValue c) = ClockValue c
level_wait e place end (Signal l) = cond (sets_level l e) (awake place end) (Signal l)

-- a process takes a level
abbrev pub level_taken : Level → Process → Process
level_taken e p = with_wait p (level_wait e p.place p.end p.wait)
