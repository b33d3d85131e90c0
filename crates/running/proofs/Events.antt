-- An event is taken only when no process is ready, and then it acts on every wait; a gulp as the single events that it took. Assumes nothing.
use mathlib.Core.Path.{◌≡◌, refl, sym, ap, ◌∙◌}
use mathlib.Core.Bool.{Bool, true, false, cond}
use mathlib.Core.List.{List, map}
use native.Mathlib.Omega.{arith}
use lib.ListN.{length, length-map}
use lib.Dec.{ltb}
use borrow.Author.Tests.{ltb-false}
use Rattle.std.specs.Prelude.{Ok, Err}
use Rattle.reader.proofs.Tests.{true_is_false, by_cases}
use Rattle.language.specs.Script.{Script}
use Rattle.process.specs.declared.Copies.{Copies}
use Rattle.process.specs.declared.RunRefusal.{RunRefusal}
use Rattle.process.specs.declared.RunRefusal.TheVariants.{Busy, BadReading, NoSuchSignal}
use Rattle.events.specs.Events.{reading_right}
use Rattle.events.specs.Gulps.{Gulping}
use Rattle.runner.specs.Calls as calls
use Rattle.runner.specs.Calls.{Call, start, tick, byte, reading, level, ticks, bytes, drain, Reply, event}
use Rattle.bounded.specs.Replies.{was_taken, is_event}
use Rattle.running.specs.Running.{Process, Box, busy, Called, refuses, takes_event, gulps, waiting, called}
use Rattle.running.specs.Waits.{since}
use Rattle.running.specs.Called.{singles, EventTaken}
use Rattle.running.proofs.Gulps.{takes_gulp, Gulped, ticks_gulped, bytes_gulped}

module _ (b : Box) (q : Call) where
  abbrev Fair : Called → Type 0
  Fair = EventTaken b q

  refused_fair : (r : RunRefusal) → Fair (refuses b r)
  unfolding was_taken
  refused_fair r = record { only = λ e. true_is_false (sym e); unaltered = λ e. refl; acts = λ e. true_is_false (sym e) }

  -- the waits are as the single events leave them
  abbrev Acts : Reply → Box → Type 0
  Acts r c = c.processes ≡ map (waiting (since (singles q r))) b.processes

  taken_fair : (c : Box) → busy b ≡ false → Acts (event (Ok tt)) c → Fair (takes_event c)
  unfolding was_taken
  taken_fair c n e = record { only = λ u. n; unaltered = λ u. true_is_false u; acts = λ u. e }

  unless_busy : (r : Called) → (busy b ≡ false → Fair r) → Fair (cond (busy b) (refuses b Busy) r)
  unless_busy r f = by_cases Fair (busy b) (refuses b Busy) r (λ u. refused_fair Busy) f

  byte_fair : (c : Box) (n : Copies) → Acts (calls.received (Ok n)) c →
      Fair (record { box = cond (busy b) b c; reply = calls.received (cond (busy b) (Err Busy) (Ok n)) })
  unfolding was_taken
  byte_fair c n e = go (busy b) refl
    where
      go : (u : Bool) → busy b ≡ u → Fair (record { box = cond u b c; reply = calls.received (cond u (Err Busy) (Ok n)) })
      go true i = record { only = λ v. true_is_false (sym v); unaltered = λ v. refl; acts = λ v. true_is_false (sym v) }
      go false i = record { only = λ v. i; unaltered = λ v. true_is_false v; acts = λ v. e }

  gulp_fair : (g : Gulping Box) → (busy b ≡ false → Gulped b (singles q (takes_gulp g).reply) g) → Fair (gulps b g)
  unfolding was_taken
  gulp_fair g f =
      by_cases Fair (busy b) _ _ (λ u. record { only = λ v. true_is_false (sym v); unaltered = λ v. refl; acts = λ v. true_is_false (sym v) })
      (λ u. record { only = λ v. u; unaltered = λ v. (f u).none (omega (arith, ltb-false 0 g.taken v)); acts = λ v. (f u).acts })

pub event_taken : (s : Script) (b : Box) (q : Call) → is_event q ≡ true → EventTaken b q (called s q b)
unfolding called singles since
event_taken s b start e = true_is_false (sym e)
event_taken s b tick e = unless_busy b tick _ (λ u. taken_fair b tick _ u refl)
event_taken s b (byte x) e = byte_fair b (byte x) _ _ refl
event_taken s b (reading r) e =
    unless_busy b (reading r) _
    (λ u. by_cases (EventTaken b (reading r)) (reading_right r) _ _ (λ v. taken_fair b (reading r) _ u refl) (λ v. refused_fair b (reading r) BadReading))
event_taken s b (level n is) e =
    unless_busy b (level n is) _
    (λ u. by_cases (EventTaken b (level n is)) (ltb n 5) _ _ (λ v. taken_fair b (level n is) _ u refl) (λ v. refused_fair b (level n is) NoSuchSignal))
event_taken s b (ticks n) e = gulp_fair b (ticks n) _ (ticks_gulped b n)
event_taken s b (bytes run room) e = gulp_fair b (bytes run room) _ (bytes_gulped s b run room)
event_taken s b (drain room) e = true_is_false (sym e)

-- an event leaves as many processes
pub event_many : (s : Script) (q : Call) (b : Box) → is_event q ≡ true → length (called s q b).box.processes ≡ length b.processes
event_many s q b e = go (was_taken (called s q b).reply) refl
  where
    go : (u : Bool) → was_taken (called s q b).reply ≡ u → length (called s q b).box.processes ≡ length b.processes
    go true d = ap (λ (ps : List Process). length ps) ((event_taken s b q e).acts d) ∙ length-map b.processes _
    go false d = ap (λ (c : Box). length c.processes) ((event_taken s b q e).unaltered d)
