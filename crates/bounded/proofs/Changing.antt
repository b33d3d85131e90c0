-- What an accepted event, or a gulp of them, leaves of the processes of an accepted script's table: they stay within their bounds. Assumes nothing.
use mathlib.Core.Path.{◌≡◌, refl, ◌∙◌}
use mathlib.Core.Bool.{Bool, true, false, cond}
use mathlib.Core.List.{List, [], map}
use Prim.Native.Nat.{ℕ, suc}
use native.Mathlib.Omega.{arith}
use lib.Dec.{ltb, leb}
use lib.ListN.{get_or, length-map}
use borrow.Author.Tests.{le-leb, lt-ltb}
use Rattle.reader.proofs.Tests.{both}
use Rattle.figures.specs.Flat.{Mark}
use Rattle.language.specs.declared.Table.{Table}
use Rattle.language.specs.Limits.{omit_limit}
use Rattle.stretch.specs.Marks.{marks_to}
use Rattle.process.specs.declared.Reading.{Reading}
use Rattle.process.specs.declared.Process.{Process}
use Rattle.process.specs.declared.State.{State}
use Rattle.process.specs.Waiting.{ticked, byte_taken}
use Rattle.process.specs.State.{busy, with_processes}
use Rattle.events.specs.Events.{tick_event}
use Rattle.events.specs.Receiving.{ranges_right, byte_event}
use Rattle.events.specs.Gulps.{Gulping, more, ticks_gulp, bytes_gulp}
use Rattle.runner.specs.Draining.{nobody}
use Rattle.bounded.specs.Demand3.{first_of, end_of}
use Rattle.bounded.proofs.Held.{Held}
use Rattle.bounded.proofs.Waits.{tick_good, byte_good}
use Rattle.bounded.proofs.Accepting.{Fitting}
use Rattle.bounded.proofs.Several.{map_at, every_right}
use Rattle.bounded.proofs.Keeping.{All}
use Rattle.events.proofs.Gulping.{ticks_by, bytes_by}

-- the same of a gulp: where it takes at least one the counts start anew
abbrev pub AllAfter : Table → ℕ → Gulping State → (ℕ → ℕ) → Type 0
AllAfter t k g f = All t k g.box (λ i. cond (ltb 0 g.taken) 0 (f i))

module _ (t : Table) (k : ℕ) (a : Fitting t k) where
  -- ---- single events

  module _ (s : State) (f : ℕ → ℕ) (h : All t k s f) where
    -- all processes changed alike
    pub changed_all : (g : Process → Process) → g nobody ≡ nobody → ((ms : List Mark) (first n : ℕ) (p : Process) → Held ms first k n p → Held ms first k 0 (g p)) →
        (r : Reading) (ls : List Bool) (paused : Bool) →
        All t k (record { processes = map g s.processes; reading = r; levels = ls; paused = paused }) (λ i. 0)
    changed_all g e keeps r ls paused = record {
      eight = length-map s.processes g ∙ h.eight;
      every = λ i l.
          rw (map_at g e s.processes i)
          (keeps (marks_to t.cells (end_of t.heads i)) (first_of t.heads i) (f i) (get_or s.processes i nobody) (h.every i l));
    }

    pub ranges_right_lem : ranges_right t.heads s ≡ true
    unfolding ranges_right
    ranges_right_lem =
        both (leb t.heads.omits omit_limit) _ (le-leb t.heads.omits omit_limit a.omitted)
        (every_right s.processes (λ i l. (h.every i (omega (arith, h.eight))).right))

    pub tick_all : All t k (with_processes s (map ticked s.processes)) (λ i. 0)
    tick_all = changed_all ticked refl (λ ms first n p c. tick_good ms first k n p c) s.reading s.levels s.paused

    pub byte_all : (x : ℕ) → All t k (with_processes s (map (byte_taken t.pool x) s.processes)) (λ i. 0)
    byte_all x = changed_all (byte_taken t.pool x) refl (λ ms first n p c. byte_good ms first k n p c t.pool x) s.reading s.levels s.paused

    -- as calls, where no process is ready
    module _ (q : busy s ≡ false) where
      tick_after : All t k (tick_event s).state (λ i. 0)
      unfolding tick_event
      tick_after = rw q tick_all

      byte_after : (x : ℕ) → All t k (byte_event t.pool t.heads s x).state (λ i. 0)
      unfolding byte_event
      byte_after x = rw (ranges_right_lem, q) (byte_all x)

  -- ---- gulps

  none_left : (u : Bool) (s : State) → All t k s (λ i. cond u 0 0) → All t k s (λ i. 0)
  none_left true s h = h
  none_left false s h = h

  -- whatever is recorded
  more_all : (f : ℕ → ℕ) (rest : Gulping State) → AllAfter t k rest (λ i. 0) → AllAfter t k (more [] rest) f
  more_all f rest h = rw (lt-ltb 0 (suc rest.taken) (omega arith)) (none_left (ltb 0 rest.taken) rest.box h)

  pub ticks_all : (s : State) (f : ℕ → ℕ) → All t k s f → (n : ℕ) → busy s ≡ false → AllAfter t k (ticks_gulp s n) f
  ticks_all s f h n q =
      ticks_by busy (λ z. (tick_event z).state) (λ z n g. (f : ℕ → ℕ) → All t k z f → AllAfter t k g f) (λ z f h. h) (λ z n u f h. h)
      (λ z n rest u ih f h. more_all f rest (ih (λ i. 0) (tick_after z f h u))) s n q f h

  pub bytes_all : (s : State) (f : ℕ → ℕ) → All t k s f → (run : List ℕ) (room : ℕ) → busy s ≡ false → AllAfter t k (bytes_gulp t.pool t.heads s run room) f
  bytes_all s f h run room q =
      bytes_by busy (λ x z. (byte_event t.pool t.heads z x).answer) (λ x z. (byte_event t.pool t.heads z x).state)
      (λ z xs room g. (f : ℕ → ℕ) → All t k z f → AllAfter t k g f) (λ z room f h. h) (λ z xs room u f h. h) (λ z xs room l f h. h) (λ z x xs room r u e f h. h)
      (λ z x xs room c rest u l e ih f h. more_all f rest (ih (λ i. 0) (byte_after z f h u x))) s run room q f h
