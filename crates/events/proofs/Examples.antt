-- A received byte on damaged heads and states, computed: 25, then 21, and each neighbour that is taken. Assumes nothing.
use Prim.Native.Nat.{ℕ}
use mathlib.Core.Path.{◌≡◌, refl}
use mathlib.Core.Bool.{Bool, true, false}
use mathlib.Core.List.{List, [], ◌∷◌}
use lib.ListN.{replicate}
use Rattle.std.specs.Prelude.{Ok, Err}
use Rattle.language.specs.declared.Heads.{Heads}
use Rattle.reader.specs.Bytes as bytes
use Rattle.process.specs.declared.Wait.{Wait}
use Rattle.process.specs.declared.Wait.TheVariants.{Ready, Over, Ticks, Data}
use Rattle.process.specs.declared.Process.{Process}
use Rattle.process.specs.declared.State.{State}
use Rattle.process.specs.Answers.{Taken, Received}
use Rattle.process.specs.Matching as matching
use Rattle.process.specs.Waiting as waiting
use Rattle.process.specs.State.{run_refusal_number, busy}
use Rattle.events.specs.Events.{reading_right, level_event}
use Rattle.events.specs.Recording.{one_of, times_recorded}
use Rattle.events.specs.Receiving.{ranges_right, byte_event}

-- heads with so many OMIT bytes, all of them A, no ENCODE byte
abbrev pub omits : ℕ → Heads
omits n =
    record {
      processes = 1;
      ends = replicate 8 0;
      used = 0;
      encodes = false;
      encode = 0;
      two_stop_bits = false;
      omits = n;
      omit = replicate 10 65;
      extension = replicate 3 0;
    }

-- the first process waits, and the seven others are over; recording is not paused
abbrev pub awaits : Wait → State
awaits w =
    let p : Wait → Process = λ v. record { place = 0; end = 1; depth = 0; left = replicate 8 0; back = replicate 8 0; wait = v } in
    record {
      processes = p w ∷ replicate 7 (p Over);
      reading = record { year = 0; month = 1; day = 1; hour = 0; minute = 0; second = 0 };
      levels = replicate 5 false;
      paused = false;
    }

-- a wait for so many bytes from a place of the pool on, of which some are matched
abbrev pub range : ℕ → ℕ → ℕ → Wait
range from count matched = Data (record { from = from; count = count; matched = matched })

-- the number that a byte is refused by, or none and how often it is recorded
pub data Said : Type 0 where
  number recorded : ℕ → Said

abbrev said : Received → Said
said (Ok c) = recorded c.count
said (Err r) = number (run_refusal_number r)

-- how many OMIT bytes, what is waited for, the byte, and what it is answered; the pool is of zeros
abbrev Bytes : List (ℕ × (Wait × (ℕ × Said))) → Type 0
Bytes [] = Unit {0}
Bytes (c ∷ cs) = (said (byte_event (replicate 1024 0) (omits c.0) (awaits c.1.0) c.1.1.0).answer ≡ c.1.1.1) × Bytes cs

abbrev cases : List (ℕ × (Wait × (ℕ × Said)))
cases =
    -- 10 OMIT bytes, 11, and as many as a byte can say
    (10, (Ticks 1, (65, recorded 0)))
    ∷ (10, (Ticks 1, (66, recorded 1)))
    ∷ (11, (Ticks 1, (66, number 25)))
    ∷ (255, (Ticks 1, (66, number 25)))
    -- fewer: the places that are left stand for no byte
    ∷ (0, (Ticks 1, (65, recorded 1)))
    ∷ (1, (Ticks 1, (65, recorded 0)))
    -- data up to the pool's end and past it; matched as many as there are and more
    ∷ (0, (range 1000 24 0, (65, recorded 1)))
    ∷ (0, (range 1000 25 0, (65, number 25)))
    ∷ (0, (range 0 3 2, (65, recorded 1)))
    ∷ (0, (range 0 3 3, (65, number 25)))
    ∷ (0, (range 0 3 4, (65, number 25)))
    -- "25, then .. 21"
    ∷ (10, (Ready, (66, number 21)))
    ∷ (11, (Ready, (66, number 25)))
    ∷ []

cases_hold : Bytes cases
unfolding byte_event ranges_right times_recorded one_of busy run_refusal_number waiting.progress_right waiting.matched_wait waiting.awake matching.advance matching.progress bytes.same
cases_hold = (refl, (refl, (refl, (refl, (refl, (refl, (refl, (refl, (refl, (refl, (refl, (refl, (refl, tt)))))))))))))

-- ---- a level and a reading: 21 while a process is ready, then 23 and 22

abbrev number_of : Taken → ℕ
number_of (Ok u) = 0
number_of (Err r) = run_refusal_number r

-- a wait, a signal, and the number that its level is refused by; 0 where it is taken
abbrev Levels : List (Wait × (ℕ × ℕ)) → Type 0
Levels [] = Unit {0}
Levels (c ∷ cs) = (number_of (level_event (awaits c.0) c.1.0 true).answer ≡ c.1.1) × Levels cs

abbrev levels : List (Wait × (ℕ × ℕ))
levels = (Ready, (4, 21)) ∷ (Ready, (5, 21)) ∷ (Ticks 1, (0, 0)) ∷ (Ticks 1, (4, 0)) ∷ (Ticks 1, (5, 23)) ∷ (Over, (255, 23)) ∷ []

levels_hold : Levels levels
unfolding level_event busy run_refusal_number waiting.sets_level
levels_hold = (refl, (refl, (refl, (refl, (refl, (refl, tt))))))

-- year, month, day, hour, minute, second, and whether a reading may have them
abbrev Readings : List (ℕ × (ℕ × (ℕ × (ℕ × (ℕ × (ℕ × Bool)))))) → Type 0
Readings [] = Unit {0}
Readings ((y, (mo, (d, (h, (mi, (s, is)))))) ∷ cs) =
    (reading_right (record { year = y; month = mo; day = d; hour = h; minute = mi; second = s }) ≡ is) × Readings cs

-- "year 0 to 99, month 1 to 12, day 1 to 31, hour to 23, minute and second to 59"
abbrev readings : List (ℕ × (ℕ × (ℕ × (ℕ × (ℕ × (ℕ × Bool))))))
readings =
    (0, (1, (1, (0, (0, (0, true))))))
    ∷ (99, (12, (31, (23, (59, (59, true))))))
    ∷ (100, (12, (31, (23, (59, (59, false))))))
    ∷ (99, (13, (31, (23, (59, (59, false))))))
    ∷ (99, (0, (31, (23, (59, (59, false))))))
    ∷ (99, (12, (32, (23, (59, (59, false))))))
    ∷ (99, (12, (0, (23, (59, (59, false))))))
    ∷ (99, (12, (31, (24, (59, (59, false))))))
    ∷ (99, (12, (31, (23, (60, (59, false))))))
    ∷ (99, (12, (31, (23, (59, (60, false))))))
    ∷ []

readings_hold : Readings readings
unfolding reading_right
readings_hold = (refl, (refl, (refl, (refl, (refl, (refl, (refl, (refl, (refl, (refl, tt))))))))))
