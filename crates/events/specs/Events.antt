-- The tick, the reading and the level on the state. "An event is taken only when no process is ready." "In the runner 25, then 24,
-- then 21, 22, 23."
use Rattle.std.specs.Prelude.{ℕ, Bool, cond, ◌&&◌, map, set, ltb, leb, Ok, Err}
use Rattle.language.specs.Cell.{level}
use Rattle.process.specs.declared.Reading.{Reading}
use Rattle.process.specs.declared.State.{State}
use Rattle.process.specs.declared.RunRefusal.{RunRefusal}
use Rattle.process.specs.declared.RunRefusal.TheVariants.{Busy, BadReading, NoSuchSignal}
use Rattle.process.specs.declared.Event.{Event}
use Rattle.process.specs.Waiting.{ticked, reading_taken, level_taken}
use Rattle.process.specs.State.{busy, with_processes}
use Rattle.language.specs.Limits.{signals}

-- "A refusal alters no state"
abbrev pub refused : {A : Type 0} → State → RunRefusal → Event A
refused s r = record { state = s; answer = Err r }

-- an event that was taken
abbrev pub took : State → Event (Unit {0})
took s = record { state = s; answer = Ok tt }

-- a tick of 1 ms: 21
unfoldable pub tick_event : State → Event (Unit {0})
tick_event s = cond (busy s) (refused s Busy) (took (with_processes s (map ticked s.processes)))

-- "A reading has year 0 to 99, month 1 to 12, day 1 to 31, hour to 23, minute and second to 59."
unfoldable pub reading_right : Reading → Bool
reading_right r =
    (leb r.year 99 && (leb 1 r.month && (leb r.month 12 && (leb 1 r.day && leb r.day 31))))
    && (leb r.hour 23 && (leb r.minute 59 && leb r.second 59))

-- a clock reading: 21, then 22
unfoldable pub reading_event : State → Reading → Event (Unit {0})
reading_event s r =
    cond (busy s) (refused s Busy)
    (cond (reading_right r)
    (took (record { processes = map (reading_taken r) s.processes; reading = r; levels = s.levels; paused = s.paused }))
    (refused s BadReading))

-- a signal level, "0 (CTS) or 1 to 4 (EX)": 21, then 23
unfoldable pub level_event : State → ℕ → Bool → Event (Unit {0})
level_event s n on =
    cond (busy s) (refused s Busy)
    (cond (ltb n signals)
    (took (record { processes = map (level_taken (level n on)) s.processes; reading = s.reading; levels = set s.levels n on; paused = s.paused }))
    (refused s NoSuchSignal))
