-- A gulp is answered alike by the runner and by the script, and leaves boxes that are alike: each single event of it is, and does. Assumes nothing.
use mathlib.Core.Path.{◌≡◌, refl, ap, ap₂, subst, ◌∙◌}
use mathlib.Core.Bool.{Bool, true, false, cond}
use mathlib.Core.List.{List, []}
use Prim.Native.Nat.{ℕ}
use lib.ListN.{length}
use Rattle.std.specs.Prelude.{Ok}
use Rattle.reader.proofs.Tests.{by_cases}
use Rattle.language.specs.declared.Table.{Table}
use Rattle.language.specs.Script.{Script}
use Rattle.accepted.specs.Accepted.{table_right}
use Rattle.process.specs.declared.State.{State}
use Rattle.process.specs.declared.RunRefusal.TheVariants.{Busy}
use Rattle.process.specs.State.{busy}
use Rattle.events.specs.Events.{refused, tick_event}
use Rattle.events.specs.Receiving.{byte_event}
use Rattle.events.specs.Gulps.{Gulping, ticks_gulp, bytes_gulp, gulp_took, ticks_event, bytes_event, bytes_records}
use Rattle.events.proofs.Gulps.{Alike, ticks_alike, bytes_alike}
use Rattle.runner.specs.Calls as calls
use Rattle.runner.specs.Calls.{Box, tick, byte, ticks, bytes, gulp, boxed, gulped_by}
use Rattle.bounded.proofs.Calling.{call_keeps}
use Rattle.events.proofs.Gulping.{ticks_by}
use Rattle.running.specs.Running as script
use Rattle.running.specs.Running.{tick_box, byte_box, byte_answer}
use Rattle.running.proofs.Starts.{Bears}
use Rattle.running.proofs.Gulps.{refuses_gulp, takes_gulp}
use Rattle.running.proofs.EventsAgree.{box_of, InStep, Answers, after_in_step, busy_same, ranges_right_lem, tick_answers, byte_answers}

-- a tick alone leaves the box of the call
tick_is : (s : Script) (c : script.Box) → tick_box c ≡ (script.called s tick c).box
unfolding script.called
tick_is s c = go (script.busy c)
  where
    go : (u : Bool) → cond u c (script.having (script.all_waiting script.ticked c) c) ≡ (cond u (script.refuses c Busy) (script.takes_event (script.having (script.all_waiting script.ticked c) c))).box
    go true = refl
    go false = refl

-- ticks record nothing
pub none_recorded : (z : State) (n : ℕ) → busy z ≡ false → (ticks_gulp z n).records ≡ []
none_recorded = ticks_by busy (λ z. (tick_event z).state) (λ z n g. g.records ≡ []) (λ z. refl) (λ z n e. refl) (λ z n g i h. h)

module _ (t : Table) (s : Script) (k : ℕ) (a : Bears t s k) (counts : List ℕ) where
  -- ---- a state with these counts stands for a box of the script

  record Stands (z : State) (c : script.Box) : Type 0 where
    processes : List script.Process
    done : ℕ → ℕ
    in_step : InStep t k (boxed z counts) processes done
    box : c ≡ box_of z processes

  ready_alike : (z : State) (c : script.Box) → Stands z c → busy z ≡ script.busy c
  ready_alike z c w = rw w.box (busy_same t s k a (boxed z counts) w.processes w.done w.in_step)

  tick_stands : (z : State) (c : script.Box) → Stands z c → busy z ≡ false → Stands (tick_event z).state (tick_box c)
  unfolding calls.called
  tick_stands z c w i =
      let x = tick_answers t s k a (boxed z counts) w.processes w.done w.in_step in
      record {
        processes = x.after;
        done = _;
        in_step = after_in_step x (call_keeps t k a.fits (boxed z counts) w.done w.in_step.bounded tick).all;
        box = ap tick_box w.box ∙ tick_is s (box_of z w.processes) ∙ x.box;
      }

  module _ (x : ℕ) (z : State) (c : script.Box) (w : Stands z c) where
    answered : Answers t (calls.called table_right t (byte x) (boxed z counts)) (script.called s (byte x) (box_of z w.processes))
    answered = byte_answers t s k a (boxed z counts) w.processes w.done w.in_step x

    byte_same : busy z ≡ false → (byte_event t.pool t.heads z x).answer ≡ byte_answer s x c
    unfolding calls.called script.called
    byte_same i = let e = answered.reply in let d = w.box in rw d (cc)

    byte_stands : busy z ≡ false → Stands (byte_event t.pool t.heads z x).state (byte_box x c)
    unfolding calls.called script.called
    byte_stands i = record {
      processes = answered.after;
      done = _;
      in_step = after_in_step answered (call_keeps t k a.fits (boxed z counts) w.done w.in_step.bounded (byte x)).all;
      box = ap (byte_box x) w.box ∙ answered.box;
    }

-- ---- the calls

module _ (t : Table) (s : Script) (k : ℕ) (a : Bears t s k) (b : Box) (qs : List script.Process) (f : ℕ → ℕ) (w : InStep t k b qs f) where
  abbrev bx : script.Box
  bx = box_of b.state qs

  stands : Stands t s k a b.counts b.state bx
  stands = record { processes = qs; done = f; in_step = w; box = refl }

  abbrev Gulps : Gulping State → Gulping script.Box → Type 0
  Gulps = Alike busy script.busy (Stands t s k a b.counts) (ready_alike t s k a b.counts)

  gulp_takes : (e : Gulping State) (g : Gulping script.Box) → Gulps e g → Answers t (gulped_by b.counts (gulp_took e) e.records) (takes_gulp g)
  gulp_takes e g x = record {
    reply = ap₂ (λ (n : ℕ) (l : List ℕ). gulp (Ok (record { taken = n; recorded = length l })) l) x.taken x.records;
    after = x.box.processes;
    box = x.box.box;
    alike = x.box.in_step.alike;
    long = x.box.in_step.long;
  }

  -- 21, or what came of the single events
  gulp_answers : (e : Gulping State) (g : Gulping script.Box) → (busy b.state ≡ false → Gulps e g) →
      Answers t (gulped_by b.counts (cond (busy b.state) (refused b.state Busy) (gulp_took e)) (cond (busy b.state) [] e.records)) (script.gulps bx g)
  gulp_answers e g x = rw (← busy_same t s k a b qs f w) (go (busy b.state) refl)
    where
      go : (u : Bool) → busy b.state ≡ u →
          Answers t (gulped_by b.counts (cond u (refused b.state Busy) (gulp_took e)) (cond u [] e.records)) (cond u (refuses_gulp bx) (takes_gulp g))
      go true i = record { reply = refl; after = qs; box = refl; alike = w.alike; long = w.long }
      go false i = gulp_takes e g (x i)

  pub ticks_answers : (n : ℕ) → Answers t (calls.called table_right t (ticks n) b) (script.called s (ticks n) bx)
  unfolding calls.called script.called ticks_event
  ticks_answers n =
      subst (λ (l : List ℕ). Answers t (gulped_by b.counts (ticks_event b.state n) l) (script.called s (ticks n) bx)) none
      (gulp_answers (ticks_gulp b.state n) _
      (ticks_alike busy script.busy (Stands t s k a b.counts) (ready_alike t s k a b.counts) _ tick_box (tick_stands t s k a b.counts) n b.state bx stands))
    where
      none : cond (busy b.state) [] (ticks_gulp b.state n).records ≡ []
      none = by_cases (λ (l : List ℕ). l ≡ []) (busy b.state) [] (ticks_gulp b.state n).records (λ i. refl) (none_recorded b.state n)

  pub bytes_answers : (run : List ℕ) (room : ℕ) → Answers t (calls.called table_right t (bytes run room) b) (script.called s (bytes run room) bx)
  unfolding calls.called script.called bytes_event bytes_records
  bytes_answers run room =
      rw (ranges_right_lem t s k a b qs f w) (gulp_answers (bytes_gulp t.pool t.heads b.state run room) _
      (bytes_alike busy script.busy (Stands t s k a b.counts) (ready_alike t s k a b.counts) _ (byte_answer s) _ byte_box (byte_same t s k a b.counts)
      (byte_stands t s k a b.counts) run room b.state bx stands))
