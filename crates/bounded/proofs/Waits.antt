-- What each event does to a process leaves it within its bounds, and its count starts afresh. Assumes nothing.
use mathlib.Core.Path.{◌≡◌, refl}
use mathlib.Core.Bool.{Bool, true, false, cond}
use mathlib.Core.List.{List}
use Prim.Native.Nat.{ℕ, ◌-◌}
use native.Mathlib.Omega.{arith}
use lib.Dec.{eqb, leb}
use Rattle.reader.proofs.Tests.{by_cases}
use Rattle.figures.specs.Flat.{Mark}
use Rattle.language.specs.declared.Level.{Level}
use Rattle.process.specs.declared.Reading.{Reading}
use Rattle.process.specs.declared.Wait.{Wait}
use Rattle.process.specs.declared.Wait.TheVariants.{Ready, Over, Ticks, Bytes, Data, ClockValue, Signal}
use Rattle.process.specs.declared.Process.{Process}
use Rattle.process.specs.Matching.{advance}
use Rattle.process.specs.Waiting.{awake, ticked_wait, ticked, awaited, matched_to, matched_wait, byte_wait, byte_taken, wait_right, matches, reading_wait, reading_taken, sets_level, level_wait, level_taken}
use Rattle.events.proofs.Ranges.{awake_right, data_right_lem}
use Rattle.bounded.proofs.Ahead.{opens_of}
use Rattle.bounded.proofs.Held.{resting, Held}
use Rattle.bounded.proofs.Ways.{awake_fine, rest_fine}

module _ (ms : List Mark) (first k n i e d : ℕ) (ls bs : List ℕ) where
  -- a process with a wait
  abbrev at : Wait → Process
  at w = record { place = i; end = e; depth = d; left = ls; back = bs; wait = w }

  -- ---- the wait stays, it ends, or another rest follows it

  stays : (w : Wait) → Held ms first k n (at w) → Held ms first k 0 (at w)
  stays w h =
      let f = h.fine in
      record {
        fine = record { sits = f.sits; live = f.live; rested = f.rested; brief = omega arith; afresh = f.afresh; going = λ r. f.afresh };
        left = h.left;
        back = h.back;
        ends = h.ends;
        right = h.right;
      }

  wakes : (w : Wait) → Held ms first k n (at w) → Held ms first k 0 (at (awake i e))
  wakes w h = record {
    fine = awake_fine ms first k 0 i e (opens_of d ls bs) h.ends (omega arith) h.fine.sits h.fine.afresh;
    left = h.left;
    back = h.back;
    ends = h.ends;
    right = awake_right i e;
  }

  rests_on : (w v : Wait) → resting w ≡ true → resting v ≡ true → wait_right v ≡ true → Held ms first k n (at w) → Held ms first k 0 (at v)
  rests_on w v a b q h = record {
    fine = rest_fine ms first k 0 i (opens_of d ls bs) v b (omega arith) (h.fine.rested a) h.fine.sits h.fine.afresh;
    left = h.left;
    back = h.back;
    ends = h.ends;
    right = q;
  }

  wakes_if : (t : Bool) (w v : Wait) → resting w ≡ true → resting v ≡ true → (t ≡ false → wait_right v ≡ true) → Held ms first k n (at w) →
      Held ms first k 0 (at (cond t (awake i e) v))
  wakes_if t w v a b q h = by_cases (λ (u : Wait). Held ms first k 0 (at u)) t (awake i e) v (λ r. wakes w h) (λ r. rests_on w v a b (q r) h)

  -- ---- the four events

  tick_held : (w : Wait) → Held ms first k n (at w) → Held ms first k 0 (at (ticked_wait i e w))
  tick_held Ready h = stays Ready h
  tick_held Over h = stays Over h
  tick_held (Ticks m) h = wakes_if (leb m 1) (Ticks m) (Ticks (m - 1)) refl refl (λ r. refl) h
  tick_held (Bytes m) h = stays (Bytes m) h
  tick_held (Data m) h = stays (Data m) h
  tick_held (ClockValue c) h = stays (ClockValue c) h
  tick_held (Signal l) h = stays (Signal l) h

  byte_held : (pool : List ℕ) (b : ℕ) (w : Wait) → Held ms first k n (at w) → Held ms first k 0 (at (byte_wait pool b i e w))
  unfolding matched_wait
  byte_held pool b Ready h = stays Ready h
  byte_held pool b Over h = stays Over h
  byte_held pool b (Ticks m) h = stays (Ticks m) h
  byte_held pool b (Bytes m) h = wakes_if (leb m 1) (Bytes m) (Bytes (m - 1)) refl refl (λ r. refl) h
  byte_held pool b (Data m) h =
      let a : ℕ = advance (awaited pool m) m.matched b in
      wakes_if (eqb a m.count) (Data m) (Data (matched_to m a)) refl refl (data_right_lem pool b m h.right) h
  byte_held pool b (ClockValue c) h = stays (ClockValue c) h
  byte_held pool b (Signal l) h = stays (Signal l) h

  reading_held : (r : Reading) (w : Wait) → Held ms first k n (at w) → Held ms first k 0 (at (reading_wait r i e w))
  reading_held r Ready h = stays Ready h
  reading_held r Over h = stays Over h
  reading_held r (Ticks m) h = stays (Ticks m) h
  reading_held r (Bytes m) h = stays (Bytes m) h
  reading_held r (Data m) h = stays (Data m) h
  reading_held r (ClockValue c) h = wakes_if (matches c r) (ClockValue c) (ClockValue c) refl refl (λ r. refl) h
  reading_held r (Signal l) h = stays (Signal l) h

  level_held : (l : Level) (w : Wait) → Held ms first k n (at w) → Held ms first k 0 (at (level_wait l i e w))
  level_held l Ready h = stays Ready h
  level_held l Over h = stays Over h
  level_held l (Ticks m) h = stays (Ticks m) h
  level_held l (Bytes m) h = stays (Bytes m) h
  level_held l (Data m) h = stays (Data m) h
  level_held l (ClockValue c) h = stays (ClockValue c) h
  level_held l (Signal s) h = wakes_if (sets_level s l) (Signal s) (Signal s) refl refl (λ r. refl) h

-- the same of a process as a whole
module _ (ms : List Mark) (first k n : ℕ) (p : Process) (h : Held ms first k n p) where
  pub tick_good : Held ms first k 0 (ticked p)
  tick_good = tick_held ms first k n p.place p.end p.depth p.left p.back p.wait h

  pub byte_good : (pool : List ℕ) (b : ℕ) → Held ms first k 0 (byte_taken pool b p)
  byte_good pool b = byte_held ms first k n p.place p.end p.depth p.left p.back pool b p.wait h

  pub reading_good : (r : Reading) → Held ms first k 0 (reading_taken r p)
  reading_good r = reading_held ms first k n p.place p.end p.depth p.left p.back r p.wait h

  pub level_good : (l : Level) → Held ms first k 0 (level_taken l p)
  level_good l = level_held ms first k n p.place p.end p.depth p.left p.back l p.wait h
