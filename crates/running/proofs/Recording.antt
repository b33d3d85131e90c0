-- Recording is paused as the outcomes up to now said, and a byte that is taken, one of a gulp too, is recorded as often as document 01 says. Assumes nothing.
use mathlib.Core.Path.{◌≡◌, refl, ap, ◌∙◌}
use mathlib.Core.Bool.{Bool, true, false, cond}
use mathlib.Core.List.{List, [], ◌∷◌}
use Prim.Native.Nat.{ℕ}
use lib.Dec.{ltb}
use lib.ListN.{take}
use Rattle.std.specs.Prelude.{Ok, Err}
use Rattle.reader.proofs.Tests.{true_is_false, by_cases}
use Rattle.language.specs.Script.{Script}
use Rattle.process.specs.declared.Copies.{Copies}
use Rattle.process.specs.declared.RunRefusal.TheVariants.{Busy, SmallBuffer}
use Rattle.process.specs.Answers.{Received}
use Rattle.process.specs.declared.Gulp.{Gulp}
use Rattle.events.specs.Events.{reading_right}
use Rattle.statement.specs.declared.outcome.Outcome.TheVariants.{Refused}
use Rattle.runner.specs.Calls as calls
use Rattle.runner.specs.Calls.{Call, start, tick, byte, reading, level, ticks, bytes, drain, gulp, outcome}
use Rattle.running.specs.Running as script
use Rattle.running.specs.Running.{Process, Box, Next, idle, statement, next, busy, Turn, none, later, takes, turn, Called, drained, times_recorded, started, called}
use Rattle.running.specs.Called.{box_after, paused_since, paused_after, paused_then, records_of, RecordedRight}
use Rattle.running.proofs.Gulps.{refuses_gulp, takes_gulp, came, ticks_gulped, bytes_gulped, bytes_recorded}
use Rattle.running.proofs.Drains.{says_so}

-- a turn tells what it did to recording
abbrev TurnPauses : Box → Turn → Type 0
TurnPauses b none = Unit {0}
TurnPauses b (script.did ps paused o bs) = paused ≡ paused_since o b.paused

turn_pauses : (b : Box) (ps : List Process) → TurnPauses b (turn b ps)
unfolding turn takes later
turn_pauses b [] = tt
turn_pauses b (p ∷ ps) = go (next p) (turn b ps) (turn_pauses b ps)
  where
    go : (n : Next) (t : Turn) → TurnPauses b t → TurnPauses b (takes b p ps n t)
    go idle none h = tt
    go idle (script.did qs paused o bs) h = h
    go (statement x ss) t h = (says_so b p ss x).1

module _ (s : Script) (b : Box) where
  abbrev Keeps : Called → Type 0
  Keeps r = r.box.paused ≡ b.paused

  drain_pauses : (t : Turn) → TurnPauses b t → (drained b t).box.paused ≡ paused_after (drain 128) (drained b t).reply b.paused
  unfolding drained paused_after
  drain_pauses none h = refl
  drain_pauses (script.did ps paused o bs) h = h

  paused_once : (q : Call) → (called s q b).box.paused ≡ paused_after q (called s q b).reply b.paused
  unfolding called started paused_after
  paused_once start = refl
  paused_once tick = by_cases Keeps (busy b) _ _ (λ u. refl) (λ u. refl)
  paused_once (byte x) = by_cases (λ (c : Box). c.paused ≡ b.paused) (busy b) _ _ (λ u. refl) (λ u. refl)
  paused_once (reading r) = by_cases Keeps (busy b) _ _ (λ u. refl) (λ u. by_cases Keeps (reading_right r) _ _ (λ v. refl) (λ v. refl))
  paused_once (level n is) = by_cases Keeps (busy b) _ _ (λ u. refl) (λ u. by_cases Keeps (ltb n 5) _ _ (λ v. refl) (λ v. refl))
  paused_once (ticks n) = by_cases Keeps (busy b) _ _ (λ u. refl) (λ u. (ticks_gulped b n u).paused)
  paused_once (bytes run room) = by_cases Keeps (busy b) _ _ (λ u. refl) (λ u. (bytes_gulped s b run room u).paused)
  paused_once (drain room) =
      by_cases (λ (r : Called). r.box.paused ≡ paused_after (drain room) r.reply b.paused) (ltb 127 room) _ (record { box = b; reply = outcome (Refused SmallBuffer) [] })
      (λ u. drain_pauses (turn b b.processes) (turn_pauses b b.processes)) (λ u. refl)

  copied_once : (x : ℕ) (c : Copies) → (called s (byte x) b).reply ≡ calls.received (Ok c) → c.count ≡ times_recorded s.settings b.paused x
  unfolding called
  copied_once x c = go (busy b)
    where
      go : (u : Bool) → calls.received (cond {A = Received} u (Err Busy) (Ok (record { count = times_recorded s.settings b.paused x })))
          ≡ calls.received (Ok c) → c.count ≡ times_recorded s.settings b.paused x
      go true e = true_is_false (cc)
      go false e = cc

  gulped_once : (run : List ℕ) (room : ℕ) (g : Gulp) (bs : List ℕ) → (called s (bytes run room) b).reply ≡ gulp (Ok g) bs → bs ≡ records_of s b.paused (take g.taken run)
  unfolding called
  gulped_once run room g bs = go (busy b) refl
    where
      go : (u : Bool) → busy b ≡ u → (cond u (refuses_gulp b) (takes_gulp (came s b run room))).reply ≡ gulp (Ok g) bs →
          bs ≡ records_of s b.paused (take g.taken run)
      go true i e = true_is_false (cc)
      go false i e =
          let written : bs ≡ (came s b run room).records = cc in
          let many : (came s b run room).taken ≡ g.taken = cc in
          written ∙ bytes_recorded s b run room i ∙ ap (λ (n : ℕ). records_of s b.paused (take n run)) many

paused_then_lem : (s : Script) (qs : List Call) (b : Box) → (box_after s b qs).paused ≡ paused_then s b qs b.paused
unfolding box_after paused_then
paused_then_lem s [] b = refl
paused_then_lem s (q ∷ qs) b = paused_then_lem s qs (called s q b).box ∙ ap (paused_then s (called s q b).box qs) (paused_once s b q)

pub recorded_right : (s : Script) (b : Box) (qs : List Call) → RecordedRight s b qs
recorded_right s b qs = record {
  paused = paused_then_lem s qs b;
  copied = λ x c e. copied_once s (box_after s b qs) x c e ∙ ap (λ (p : Bool). times_recorded s.settings p x) (paused_then_lem s qs b);
  gulped = λ run room g bs e. gulped_once s (box_after s b qs) run room g bs e ∙ ap (λ (p : Bool). records_of s p (take g.taken run)) (paused_then_lem s qs b);
}
