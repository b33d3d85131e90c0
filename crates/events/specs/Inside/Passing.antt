-- How far a run of single events goes: wait by wait, process by process, and of all processes at once. As the code goes through it: nothing here has to be
-- believed.
use Rattle.std.specs.Prelude.{ℕ, zero, suc, ◌+◌, ◌-◌, ◌≤◌, ◌<◌, ◌≡◌, Bool, true, false, cond, List, [], ◌∷◌, ◌++◌, map, length, get_or, take, replicate, ltb, eqb}
use Rattle.language.specs.declared.Heads.{Heads}
use Rattle.process.specs.declared.Wait.{Wait}
use Rattle.process.specs.declared.Wait.TheVariants.{Ready, Over}
use Rattle.process.specs.declared.Process.{Process}
use Rattle.process.specs.Matching.{advance}
use Rattle.process.specs.Waiting.{ready_wait, ready, ticked_wait, ticked, byte_wait, byte_taken}
use Rattle.process.specs.State.{any}
use Rattle.events.specs.declared.matching.Matched.{Matched}
use Rattle.events.specs.declared.passing.Passed.{Passed}
use Rattle.events.specs.declared.passing.Pass.{Pass}
use Rattle.events.specs.Recording.{times_recorded}
use Rattle.events.specs.Inside.Links.{link}

-- events x, each of which does `g x`
module _ {X A : Type 0} (g : X → A → A) where
  -- one after the other
  unfoldable pub through : List X → A → A
  through [] a = a
  through (x ∷ xs) a = through xs (g x a)

  -- how many are taken: up to the first after which the test holds, or all
  unfoldable pub reach : (A → Bool) → List X → A → ℕ
  reach test [] a = 0
  reach test (x ∷ xs) a = suc (cond (test (g x a)) 0 (reach test xs (g x a)))

  -- each of some is changed alike
  abbrev pub each : X → List A → List A
  each x ys = map (g x) ys

-- so many ticks as a list of events
abbrev pub ticks_of : ℕ → List ℕ
ticks_of n = replicate n 0

-- the tick, or the byte, that a wait for n of them ends at
unfoldable pub at_least1 : ℕ → ℕ
at_least1 zero = 1
at_least1 (suc n) = suc n

-- what a tick does to a wait
abbrev pub tick_on : ℕ → ℕ → ℕ → Wait → Wait
tick_on place end x w = ticked_wait place end w

-- and to a process
abbrev pub tick_taken : ℕ → Process → Process
tick_taken x p = ticked p

-- what a byte does to a wait
abbrev pub byte_on : List ℕ → ℕ → ℕ → ℕ → Wait → Wait
byte_on pool place end x w = byte_wait pool x place end w

-- how far bytes go with a wait, and the wait after those that are taken
unfoldable pub passed_by : List ℕ → ℕ → ℕ → List ℕ → Wait → Passed
passed_by pool place end xs w =
    record {
      wait = through (byte_on pool place end) (take (reach (byte_on pool place end) ready_wait xs w) xs) w;
      count = reach (byte_on pool place end) ready_wait xs w;
    }

-- a wait that ends at the n-th of so many bytes: they stop there where its process is ready, and go on where it is over
unfoldable pub ended_at : ℕ → ℕ → ℕ → ℕ → Passed
ended_at n all place end = cond (ltb place end) (record { wait = Ready; count = n }) (record { wait = Over; count = all })

-- of all processes
abbrev pub reach_all : List ℕ → List ℕ → List Process → ℕ
reach_all pool xs ps = reach (each (byte_taken pool)) (any ready) xs ps

-- some bytes, one after the other, on a process
abbrev pub bytes_on : List ℕ → List ℕ → Process → Process
bytes_on pool xs p = through (byte_taken pool) xs p

-- one process after the other, each no farther than those before it: where one went less far than one before it, all have to go again
pub record Passes (pool run : List ℕ) (ps : List Process) (r : Pass) : Type 0 where
  pub count : r.count ≡ reach_all pool run ps
  pub whole : r.again ≡ false → r.processes ≡ map (bytes_on pool (take r.count run)) ps
  pub less : r.again ≡ true → r.count < length run

-- so many ticks, one after the other, on a process
abbrev pub ticks_on : ℕ → Process → Process
ticks_on n p = through tick_taken (ticks_of n) p

-- of all processes
abbrev pub ticks_reach : ℕ → List Process → ℕ
ticks_reach n ps = reach (each tick_taken) (any ready) (ticks_of n) ps

-- ---- WAIT DATA

-- so many bytes more before it
abbrev pub farther : ℕ → Matched → Matched
farther n m = record { matched = m.matched; count = n + m.count }

-- how many bytes of d are matched after some bytes, k being matched before them, and after how many: up to the first that matches all of d
unfoldable pub matched_on : List ℕ → ℕ → List ℕ → Matched
matched_on d k [] = record { matched = k; count = 0 }
matched_on d k (x ∷ xs) = cond (eqb k (length d)) (record { matched = k; count = 0 }) (farther 1 (matched_on d (advance d k x) xs))

-- the table ls has the link of each count below all of d that n bytes can lead to from k
pub record LinkedFor (d ls : List ℕ) (k n : ℕ) : Type 0 where
  pub at : (j : ℕ) → 0 < j → j < length d → j ≤ k + n → get_or ls j 0 ≡ link d j

-- ---- recording

-- the records of some bytes
unfoldable pub records_of : Heads → Bool → List ℕ → List ℕ
records_of h paused [] = []
records_of h paused (x ∷ xs) = replicate (times_recorded h paused x) x ++ records_of h paused xs

-- how many bytes are taken until fewer than two places remain
unfoldable pub room_for : Heads → Bool → List ℕ → ℕ → ℕ
room_for h paused [] room = 0
room_for h paused (x ∷ xs) room = cond (ltb room 2) 0 (suc (room_for h paused xs (room - times_recorded h paused x)))
