-- What the definitions of the events come to, case by case. Assumes nothing.
use Prim.Native.Nat.{ℕ, ◌≤◌, ◌<◌}
use mathlib.Core.Path.{◌≡◌}
use mathlib.Core.Bool.{Bool, true, false}
use mathlib.Core.List.{map}
use borrow.Author.Tests.{lt-ltb, le-ltb}
use lib.ListN.{set}
use Rattle.language.specs.Cell.{level}
use Rattle.process.specs.declared.Reading.{Reading}
use Rattle.process.specs.declared.State.{State}
use Rattle.process.specs.declared.RunRefusal.TheVariants.{Busy, BadReading, NoSuchSignal}
use Rattle.process.specs.Waiting.{ready, ticked, reading_taken, level_taken}
use Rattle.process.specs.State.{any, busy, with_processes}
use Rattle.events.specs.Events.{refused, took, tick_event, reading_right, reading_event, level_event}

module _ (s : State) (h : any ready s.processes ≡ true) where
  pub tick_busy : tick_event s ≡ refused s Busy
  unfolding tick_event busy
  tick_busy = rw h

  pub reading_busy : (r : Reading) → reading_event s r ≡ refused s Busy
  unfolding reading_event busy
  reading_busy r = rw h

  pub level_busy : (n : ℕ) (on : Bool) → level_event s n on ≡ refused s Busy
  unfolding level_event busy
  level_busy n on = rw h

module _ (s : State) (h : any ready s.processes ≡ false) where
  pub tick_takes : tick_event s ≡ took (with_processes s (map ticked s.processes))
  unfolding tick_event busy
  tick_takes = rw h

  pub reading_takes : (r : Reading) → reading_right r ≡ true
      → reading_event s r ≡ took (record { processes = map (reading_taken r) s.processes; reading = r; levels = s.levels; paused = s.paused })
  unfolding reading_event busy
  reading_takes r d = rw (h, d)

  pub reading_wrong : (r : Reading) → reading_right r ≡ false → reading_event s r ≡ refused s BadReading
  unfolding reading_event busy
  reading_wrong r d = rw (h, d)

  pub level_takes : (n : ℕ) (on : Bool) → n < 5
      → level_event s n on ≡ took (record { processes = map (level_taken (level n on)) s.processes; reading = s.reading; levels = set s.levels n on; paused = s.paused })
  unfolding level_event busy
  level_takes n on l = rw (h, lt-ltb n 5 l)

  pub level_none : (n : ℕ) (on : Bool) → 5 ≤ n → level_event s n on ≡ refused s NoSuchSignal
  unfolding level_event busy
  level_none n on l = rw (h, le-ltb n 5 l)
