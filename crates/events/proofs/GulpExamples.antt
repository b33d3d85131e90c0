-- Gulps, computed: 25, then 21, whatever the run and the room; each place where one stops; waits for nothing. Assumes nothing.
use Prim.Native.Nat.{ℕ}
use mathlib.Core.Path.{◌≡◌, refl}
use mathlib.Core.List.{List, [], ◌∷◌}
use lib.ListN.{replicate}
use Rattle.std.specs.Prelude.{Ok, Err}
use Rattle.reader.specs.Bytes as bytes
use Rattle.process.specs.declared.Wait.{Wait}
use Rattle.process.specs.declared.Wait.TheVariants.{Ready, Over, Ticks, Bytes}
use Rattle.process.specs.Answers.{Gulped}
use Rattle.process.specs.Matching as matching
use Rattle.process.specs.Waiting as waiting
use Rattle.process.specs.State.{run_refusal_number, busy}
use Rattle.events.specs.Events.{tick_event}
use Rattle.events.specs.Recording.{one_of, times_recorded}
use Rattle.events.specs.Receiving.{ranges_right, byte_event}
use Rattle.events.specs.Gulps.{ticks_from, bytes_from, ticks_event, bytes_event}
use Rattle.events.proofs.Examples.{omits, awaits, range}

-- the number that a gulp is refused by, or how many it took and how many bytes it recorded
pub data Said : Type 0 where
  number : ℕ → Said
  took : ℕ → ℕ → Said

abbrev said : Gulped → Said
said (Ok g) = took g.taken g.recorded
said (Err r) = number (run_refusal_number r)

-- how many OMIT bytes, all of them A; what the first process waits for, the others being over; the run and its room; the answer
pub record Case : Type 0 where
  pub omitted : ℕ
  pub wait : Wait
  pub run : List ℕ
  pub room : ℕ
  pub answer : Said

abbrev case : ℕ → Wait → List ℕ → ℕ → Said → Case
case n w xs room a = record { omitted = n; wait = w; run = xs; room = room; answer = a }

abbrev Bytes-said : List Case → Type 0
Bytes-said [] = Unit {0}
Bytes-said (c ∷ cs) = (said (bytes_event (replicate 1024 0) (omits c.omitted) (awaits c.wait) c.run c.room).answer ≡ c.answer) × Bytes-said cs

abbrev runs : List Case
runs =
    -- "21 for that case, after 25", with no byte and no room too
    case 11 Ready [] 0 (number 25)
    ∷ case 10 Ready [] 0 (number 21)
    ∷ case 0 (range 0 3 3) (65 ∷ []) 9 (number 25)
    -- all are taken; a byte needs two places, though one is recorded, or none
    ∷ case 0 Over (65 ∷ 66 ∷ []) 3 (took 2 2)
    ∷ case 0 Over (65 ∷ 66 ∷ []) 2 (took 1 1)
    ∷ case 0 Over (65 ∷ 66 ∷ []) 1 (took 0 0)
    ∷ case 1 (Ticks 1) (65 ∷ 65 ∷ 66 ∷ 66 ∷ []) 2 (took 3 1)
    ∷ case 1 (Ticks 1) (65 ∷ []) 1 (took 0 0)
    -- the byte that leaves a process ready is taken; a wait for none ends at the first
    ∷ case 0 (Bytes 2) (65 ∷ 66 ∷ 67 ∷ []) 9 (took 2 2)
    ∷ case 0 (Bytes 0) (65 ∷ 66 ∷ []) 9 (took 1 1)
    ∷ case 0 (range 0 3 1) (0 ∷ 7 ∷ 0 ∷ 0 ∷ 0 ∷ 9 ∷ []) 20 (took 5 5)
    ∷ []

runs_hold : Bytes-said runs
unfolding bytes_event bytes_from byte_event ranges_right times_recorded one_of busy run_refusal_number waiting.progress_right waiting.matched_wait waiting.awake matching.advance matching.progress bytes.same
runs_hold = (refl, (refl, (refl, (refl, (refl, (refl, (refl, (refl, (refl, (refl, (refl, tt)))))))))))

-- ---- ticks

-- what the first process waits for, how many ticks, and the answer
abbrev Ticks-said : List (Wait × (ℕ × Said)) → Type 0
Ticks-said [] = Unit {0}
Ticks-said (c ∷ cs) = (said (ticks_event (awaits c.0) c.1.0).answer ≡ c.1.1) × Ticks-said cs

abbrev numbers : List (Wait × (ℕ × Said))
numbers =
    (Ready, (0, number 21))
    ∷ (Ticks 3, (0, took 0 0))
    ∷ (Ticks 3, (2, took 2 0))
    ∷ (Ticks 3, (3, took 3 0))
    ∷ (Ticks 3, (9, took 3 0))
    ∷ (Ticks 0, (9, took 1 0))
    ∷ (Over, (9, took 9 0))
    ∷ []

numbers_hold : Ticks-said numbers
unfolding ticks_event ticks_from tick_event busy run_refusal_number waiting.awake
numbers_hold = (refl, (refl, (refl, (refl, (refl, (refl, (refl, tt)))))))
