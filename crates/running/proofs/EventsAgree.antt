-- A start and each event are answered alike by the runner and by the script, and leave boxes that are alike. Assumes nothing.
use mathlib.Core.Path.{◌≡◌, refl, ap, ◌∙◌}
use mathlib.Core.Bool.{Bool, true, false, cond, ◌||◌}
use mathlib.Core.List.{List, map}
use Prim.Native.Nat.{ℕ}
use native.Mathlib.Omega.{arith}
use lib.Dec.{ltb, leb, eqb}
use lib.ListN.{length, set, take, length-replicate}
use borrow.Author.Tests.{le-leb}
use Rattle.std.specs.Prelude.{Ok, Err}
use Rattle.reader.proofs.Tests.{both}
use Rattle.language.specs.declared.Heads.{Heads}
use Rattle.language.specs.declared.Table.{Table}
use Rattle.language.specs.Limits.{lines_limit, omit_limit}
use Rattle.language.specs.Script.{unset, Settings, Script}
use Rattle.language.specs.Script as scripts
use Rattle.running.specs.Joined.{done}
use Rattle.language.specs.Cell.{level}
use Rattle.language.specs.Table.{settings_of, script_of}
use Rattle.accepted.specs.Accepted.{table_right}
use Rattle.process.specs.declared.Reading.{Reading}
use Rattle.process.specs.declared.State.{State}
use Rattle.process.specs.declared.RunRefusal.{RunRefusal}
use Rattle.process.specs.declared.RunRefusal.TheVariants.{Busy, BadReading, NoSuchSignal}
use Rattle.process.specs.declared.Event.{Event}
use Rattle.process.specs.Waiting.{ticked, ticked_wait, byte_taken, byte_wait, reading_taken, reading_wait, level_taken, level_wait}
use Rattle.events.specs.Events as events
use Rattle.process.specs.State.{busy, with_processes}
use Rattle.events.specs.Events.{took, tick_event, reading_right, reading_event, level_event}
use Rattle.events.specs.Recording.{one_of, times_recorded}
use Rattle.events.specs.Receiving.{ranges_right, answered_with, byte_event}
use Rattle.runner.specs.Starting.{start_state, start_event, start_counts}
use Rattle.runner.specs.Calls as calls
use Rattle.runner.specs.Calls.{Box, start, tick, reading, Called, answered_by, received_by, start_call}
use Rattle.bounded.specs.Demand3.{end_of}
use Rattle.bounded.proofs.Several.{every_right}
use Rattle.bounded.proofs.Keeping.{All}
use Rattle.running.specs.Running as script
use Rattle.running.specs.Running.{times_by, started}
use Rattle.running.proofs.Alike.{tick_waits, byte_waits, reading_waits, level_waits}
use Rattle.running.proofs.Turns.{Alikes, busy_alike, event_alike}
use Rattle.running.proofs.Starts.{Bears, start_alike}

-- the script's box of a state: the same reading, levels and pause, with the script's own processes
abbrev pub box_of : State → List script.Process → script.Box
box_of s qs = record { processes = qs; reading = s.reading; levels = s.levels; paused = s.paused }

-- a box of the runner stands for the script's box with these processes; f being the statements that each has done since the last start or accepted event
pub record InStep (t : Table) (k : ℕ) (b : Box) (qs : List script.Process) (f : ℕ → ℕ) : Type 0 where
  pub bounded : All t k b.state f
  pub alike : Alikes t b.counts 0 b.state.processes qs
  pub long : length b.counts ≡ lines_limit

-- a call answered alike, and the boxes after it alike
pub record Answers (t : Table) (r : Called) (x : script.Called) : Type 0 where
  pub reply : r.reply ≡ x.reply
  pub after : List script.Process
  pub box : x.box ≡ box_of r.box.state after
  pub alike : Alikes t r.box.counts 0 r.box.state.processes after
  pub long : length r.box.counts ≡ lines_limit

-- so the box stands for the script's after it
pub after_in_step : {t : Table} {k : ℕ} {r : Called} {x : script.Called} {f : ℕ → ℕ} (w : Answers t r x) → All t k r.box.state f → InStep t k r.box w.after f
after_in_step w h = record { bounded = h; alike = w.alike; long = w.long }

-- the settings of the heads
recorded_same : (h : Heads) (paused : Bool) (x : ℕ) → times_recorded h paused x ≡ script.times_recorded (settings_of h) paused x
unfolding times_recorded script.times_recorded settings_of
recorded_same h paused x = ap (cond (paused || one_of (take h.omits h.omit) x) 0) (go h.encodes)
  where
    go : (u : Bool) → cond u (cond (eqb h.encode x) 2 1) 1 ≡ times_by (cond u (scripts.byte h.encode) unset) x
    go true = unfold times_by in refl
    go false = unfold times_by in refl

module _ (t : Table) (s : Script) (k : ℕ) (a : Bears t s k) (b : Box) where
  pub start_answers : (y : script.Box) → Answers t (calls.called table_right t start b) (script.called s start y)
  unfolding calls.called start_call start_event start_counts script.called start_state started
  start_answers y = rw a.fits.started (record {
    reply = refl;
    after = map script.at_first (done s.body);
    box = refl;
    alike = start_alike t s k a;
    long = length-replicate {A = ℕ} lines_limit 0;
  })

module _ (t : Table) (s : Script) (k : ℕ) (a : Bears t s k) (b : Box) (qs : List script.Process) (f : ℕ → ℕ) (w : InStep t k b qs f) where
  abbrev bx : script.Box
  bx = box_of b.state qs

  pub busy_same : busy b.state ≡ script.busy bx
  unfolding busy script.busy
  busy_same = busy_alike t b.counts 0 b.state.processes qs w.alike

  -- ---- events

  stays : (r : RunRefusal) → Answers t (answered_by b.counts (events.refused b.state r)) (script.refuses bx r)
  stays r = record { reply = refl; after = qs; box = refl; alike = w.alike; long = w.long }

  takes : (e : State) (rs : List script.Process) → Alikes t b.counts 0 e.processes rs → Answers t (answered_by b.counts (took e)) (script.takes_event (box_of e rs))
  takes e rs z = record { reply = refl; after = rs; box = refl; alike = z; long = w.long }

  by_test : (u : Bool) (e g : Event (Unit {0})) (x y : script.Called) → Answers t (answered_by b.counts e) x → Answers t (answered_by b.counts g) y →
      Answers t (answered_by b.counts (cond u e g)) (cond u x y)
  by_test true e g x y p q = p
  by_test false e g x y p q = q

  unless_busy : (e : Event (Unit {0})) (x : script.Called) → Answers t (answered_by b.counts e) x →
      Answers t (answered_by b.counts (cond (busy b.state) (events.refused b.state Busy) e)) (cond (script.busy bx) (script.refuses bx Busy) x)
  unless_busy e x p = rw busy_same (by_test (script.busy bx) (events.refused b.state Busy) e (script.refuses bx Busy) x (stays Busy) p)

  pub tick_answers : Answers t (calls.called table_right t tick b) (script.called s tick bx)
  unfolding calls.called script.called tick_event
  tick_answers = unless_busy _ _ (takes (with_processes b.state (map ticked b.state.processes)) _ (event_alike t b.counts ticked_wait script.ticked (λ i e. refl)
      (λ j i w v z. tick_waits t.cells t.pool (end_of t.heads j) (a.fits.sound j).own.inside i w v z) 0 b.state.processes qs w.alike))

  pub reading_answers : (r : Reading) → Answers t (calls.called table_right t (reading r) b) (script.called s (reading r) bx)
  unfolding calls.called script.called reading_event
  reading_answers r =
      unless_busy _ _ (by_test (reading_right r) _ _ _ _
      (takes (record { processes = map (reading_taken r) b.state.processes; reading = r; levels = b.state.levels; paused = b.state.paused }) _
      (event_alike t b.counts (reading_wait r) (script.read r) (λ i e. refl)
      (λ j i w v z. reading_waits t.cells t.pool (end_of t.heads j) (a.fits.sound j).own.inside r i w v z) 0 b.state.processes qs w.alike))
      (stays BadReading))

  pub level_answers : (n : ℕ) (on : Bool) → Answers t (calls.called table_right t (calls.level n on) b) (script.called s (calls.level n on) bx)
  unfolding calls.called script.called level_event
  level_answers n on =
      unless_busy _ _ (by_test (ltb n 5) _ _ _ _
      (takes (record { processes = map (level_taken (level n on)) b.state.processes; reading = b.state.reading; levels = set b.state.levels n on; paused = b.state.paused }) _
      (event_alike t b.counts (level_wait (level n on)) (script.levelled n on) (λ i e. refl)
      (λ j i w v z. level_waits t.cells t.pool (end_of t.heads j) (a.fits.sound j).own.inside n on i w v z) 0 b.state.processes qs w.alike))
      (stays NoSuchSignal))

  pub ranges_right_lem : ranges_right t.heads b.state ≡ true
  unfolding ranges_right
  ranges_right_lem =
      both (leb t.heads.omits omit_limit) _ (le-leb t.heads.omits omit_limit a.fits.omitted)
      (every_right b.state.processes (λ i l. (w.bounded.every i (omega (arith, w.bounded.eight))).right))

  settings_same : settings_of t.heads ≡ s.settings
  unfolding script_of
  settings_same = ap (λ (x : Script). x.settings) a.script

  pub byte_answers : (x : ℕ) → Answers t (calls.called table_right t (calls.byte x) b) (script.called s (calls.byte x) bx)
  unfolding calls.called script.called byte_event
  byte_answers x = rw (ranges_right_lem, busy_same) (go (script.busy bx))
    where
      took_byte_lem : Answers t (received_by b.counts (answered_with (with_processes b.state (map (byte_taken t.pool x) b.state.processes)) (Ok (record { count = times_recorded t.heads b.state.paused x }))))
          (record { box = script.having (script.all_waiting (script.gets x) bx) bx; reply = calls.received (Ok (record { count = script.times_recorded s.settings b.state.paused x })) })
      took_byte_lem = record {
        reply = ap (λ (n : ℕ). calls.received (Ok (record { count = n }))) (recorded_same t.heads b.state.paused x ∙ ap (λ (g : Settings). script.times_recorded g b.state.paused x) settings_same);
        after = map (script.waiting (script.gets x)) qs;
        box = refl;
        alike = event_alike t b.counts (byte_wait t.pool x) (script.gets x) (λ i e. refl)
            (λ j i w v z. byte_waits t.cells t.pool (end_of t.heads j) (a.fits.sound j).own.inside x i w v z) 0 b.state.processes qs w.alike;
        long = w.long;
      }

      go : (u : Bool) → Answers t
          (received_by b.counts (cond u (answered_with b.state (Err Busy))
          (answered_with (with_processes b.state (map (byte_taken t.pool x) b.state.processes)) (Ok (record { count = times_recorded t.heads b.state.paused x })))))
          (record {
            box = cond u bx (script.having (script.all_waiting (script.gets x) bx) bx);
            reply = calls.received (cond u (Err Busy) (Ok (record { count = script.times_recorded s.settings b.state.paused x })));
          })
      go true = record { reply = refl; after = qs; box = refl; alike = w.alike; long = w.long }
      go false = took_byte_lem
