-- What holds of a process whenever it is run. Assumes nothing: these are definitions.
use mathlib.Core.Path.{◌≡◌}
use mathlib.Core.Bool.{Bool, true, false}
use mathlib.Core.List.{List, [], ◌∷◌}
use Prim.Native.Nat.{ℕ, suc, ◌≤◌, ◌<◌}
use lib.ListN.{length, drop}
use Rattle.figures.specs.Fragment.{Fragment}
use Rattle.figures.specs.Flat.{Mark, beyond, deepest, marks_nest}
use Rattle.figures.specs.Inside.Scan.{read_at}
use Rattle.figures.specs.Written.{run}
use Rattle.language.specs.Limits.{loop_limit}
use Rattle.process.specs.declared.Wait.{Wait}
use Rattle.process.specs.declared.Wait.TheVariants.{Ready, Over, Ticks, Bytes, Data, ClockValue, Signal}
use Rattle.process.specs.declared.Process.{Process}
use Rattle.statement.specs.Ways.{Moved}
use Rattle.process.specs.Waiting.{ready_wait, wait_right}
use Rattle.bounded.proofs.Ahead.{Open, opens_of, ahead}

-- An open loop whose body begins at b, with d loops around it: after its body the same is read as after the fragment that the place stands in,
-- and from b on the marks close d + 1 loops.
pub record Back (ms : List Mark) (first : ℕ) (bs : List Fragment) (d b : ℕ) : Type 0 where
  pub behind : beyond (read_at ms b) ≡ bs
  pub nested : marks_nest (suc d) (drop b ms) ≡ true
  pub low : first ≤ b
  pub high : b ≤ length ms

abbrev pub Kept : List Mark → ℕ → List Fragment → List Open → Type 0
Kept ms first bs [] = Unit {0}
Kept ms first bs (o ∷ os) = Back ms first bs (length os) o.back × Kept ms first (beyond bs) os

-- The place i with the open loops os: they are those that the marks close from there on.
pub record Sits (ms : List Mark) (first i : ℕ) (os : List Open) : Type 0 where
  pub nested : marks_nest (length os) (drop i ms) ≡ true
  pub few : length os ≤ deepest
  pub low : first ≤ i
  pub high : i ≤ length ms
  pub kept : Kept ms first (beyond (read_at ms i)) os

-- a process that waits for an event
abbrev pub resting : Wait → Bool
resting Ready = false
resting Over = false
resting (Ticks n) = true
resting (Bytes n) = true
resting (Data m) = true
resting (ClockValue c) = true
resting (Signal l) = true

-- A process that has done n statements since the last start or accepted event, the marks up to its end being ms and its stretch at most k:
-- n statements and the first run ahead are at most k while it is ready, and in any case no run ahead is longer.
pub record Fine (ms : List Mark) (first k n i : ℕ) (os : List Open) (w : Wait) : Type 0 where
  pub sits : Sits ms first i os
  pub live : ready_wait w ≡ true → i < length ms
  pub rested : resting w ≡ true → first < i
  pub brief : n ≤ suc k
  pub afresh : (m : ℕ) → run 0 (ahead ms m (read_at ms i) os) ≤ k
  pub going : ready_wait w ≡ true → (m : ℕ) → run n (ahead ms m (read_at ms i) os) ≤ k

-- The same of the process's fields: its arrays have eight elements, and its wait is for data within the pool.
pub record Held (ms : List Mark) (first k n : ℕ) (p : Process) : Type 0 where
  pub fine : Fine ms first k n p.place (opens_of p.depth p.left p.back) p.wait
  pub left : length p.left ≡ loop_limit
  pub back : length p.back ≡ loop_limit
  pub ends : p.end ≡ length ms
  pub right : wait_right p.wait ≡ true

-- a statement has been done, is not answered 25, and leaves the process so
pub record Good (ms : List Mark) (first k n : ℕ) (m : Moved) : Type 0 where
  pub found : m.found ≡ true
  pub held : Held ms first k n m.process
