-- What the definition of a received byte comes to, case by case. Assumes nothing.
use Prim.Native.Nat.{ℕ}
use mathlib.Core.Path.{◌≡◌}
use mathlib.Core.Bool.{true, false}
use mathlib.Core.List.{List, map}
use Rattle.std.specs.Prelude.{Ok}
use Rattle.language.specs.declared.Heads.{Heads}
use Rattle.process.specs.declared.State.{State}
use Rattle.process.specs.declared.RunRefusal.TheVariants.{Busy, BadTable}
use Rattle.process.specs.Waiting.{ready, byte_taken}
use Rattle.process.specs.State.{any, busy, with_processes}
use Rattle.events.specs.Events.{refused}
use Rattle.events.specs.Recording.{times_recorded}
use Rattle.events.specs.Receiving.{answered_with, ranges_right, byte_event}

module _ (pool : List ℕ) (h : Heads) (s : State) (b : ℕ) where
  pub byte_wrong : ranges_right h s ≡ false → refused s BadTable ≡ byte_event pool h s b
  unfolding byte_event
  byte_wrong e = rw e

  module _ (e : ranges_right h s ≡ true) where
    pub byte_busy : any ready s.processes ≡ true → refused s Busy ≡ byte_event pool h s b
    unfolding byte_event busy
    byte_busy r = rw (e, r)

    pub byte_takes : any ready s.processes ≡ false
        → answered_with (with_processes s (map (byte_taken pool b) s.processes)) (Ok (record { count = times_recorded h s.paused b })) ≡ byte_event pool h s b
    unfolding byte_event busy
    byte_takes r = rw (e, r)
