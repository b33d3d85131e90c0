-- Each LOG statement has its own count, over whole runs. Assumes nothing.
use mathlib.Core.Path.{◌≡◌, refl, ap, ◌∙◌}
use mathlib.Core.Bool.{Bool, true, false, cond, ◌&&◌}
use mathlib.Core.List.{List, [], ◌∷◌, map}
use Prim.Native.Nat.{ℕ, zero, suc, ◌+◌, ◌%◌, ◌<◌}
use native.Mathlib.Omega.{arith}
use lib.Dec.{eqb, ltb}
use lib.ListN.{length}
use Rattle.reader.proofs.Tests.{true_is_false, by_cases}
use Rattle.language.specs.Script.{Statement, send, loop, end, wait_time, wait_data, wait_byte, wait_clock, wait_signal, rts, log, fchange, pause, resume, nop, Script}
use Rattle.running.specs.Joined.{done}
use Rattle.process.specs.declared.RunRefusal.TheVariants.{SmallBuffer}
use Rattle.process.specs.State.{any}
use Rattle.statement.specs.declared.outcome.Outcome.TheVariants.{Refused}
use Rattle.record.specs.Logging.{next_count}
use Rattle.runner.specs.Calls.{Call, start, tick, byte, reading, level, ticks, bytes, drain, outcome}
use Rattle.bounded.specs.Replies.{was_taken, is_event}
use Rattle.running.specs.Running.{Loop, Wait, Process, Box, Next, idle, statement, is_statement, next, closed, logged, does, Turn, none, did, later, takes, turn, drained, waiting, at_first, started, called}
use Rattle.running.specs.Called.{box_after, is_log, logs_next, logs_in, logs, logged_in, is_start, process, CountsOwn}
use Rattle.running.proofs.Events.{event_taken}
use Rattle.running.proofs.Drains.{neither, of, after, drained_is}

-- ---- an event counts nothing

event_counts : (f : Wait → Wait) (ps : List Process) (k n : ℕ) → (of k (map (waiting f) ps)).counts n ≡ (of k ps).counts n
event_counts f [] k n = refl
event_counts f (p ∷ ps) zero n = refl
event_counts f (p ∷ ps) (suc k) n = event_counts f ps k n

-- ---- a statement counts one on for itself, if it is a LOG

closed_counts : (p : Process) (ss : List Statement) (ls : List Loop) (n : ℕ) → (closed p ss ls).counts n ≡ p.counts n
unfolding closed
closed_counts p ss [] n = refl
closed_counts p ss (l ∷ ls) n =
    by_cases (λ (q : Process). q.counts n ≡ p.counts n) (eqb l.left 0) _ _ (λ u. refl)
    (λ u. by_cases (λ (q : Process). q.counts n ≡ p.counts n) (eqb l.left 1) _ _ (λ v. refl) (λ v. refl))

log_counts : (p : Process) (ss : List Statement) (n : ℕ) → p.counts n < 4294967296 → (logged p ss).counts n ≡ (p.counts n + cond (eqb n (length ss)) 1 0) % 4294967296
unfolding logged next_count
log_counts p ss n h = go (eqb n (length ss))
  where
    go : (u : Bool) → cond u ((p.counts n + 1) % 4294967296) (p.counts n) ≡ (p.counts n + cond u 1 0) % 4294967296
    go true = refl
    go false = omega arith

does_counts : (b : Box) (p : Process) (ss : List Statement) (x : Statement) (n : ℕ) → p.counts n < 4294967296 →
    (does b p ss x).process.counts n ≡ (p.counts n + cond (is_log x && eqb n (length ss)) 1 0) % 4294967296
unfolding does
does_counts b p ss (send bs) n h = omega arith
does_counts b p ss (loop m) n h = omega arith
does_counts b p ss end n h = closed_counts p ss p.loops n ∙ omega arith
does_counts b p ss (wait_time m) n h = omega arith
does_counts b p ss (wait_data bs) n h = omega arith
does_counts b p ss (wait_byte m) n h = omega arith
does_counts b p ss (wait_clock vs) n h = omega arith
does_counts b p ss (wait_signal m on) n h = omega arith
does_counts b p ss (rts on) n h = omega arith
does_counts b p ss (log text) n h = log_counts p ss n h
does_counts b p ss fchange n h = omega arith
does_counts b p ss pause n h = omega arith
does_counts b p ss resume n h = omega arith
does_counts b p ss nop n h = omega arith

-- ---- a turn

-- process k of them, from what it was before
abbrev Counts : ℕ → ℕ → List Process → List Process → Bool → Type 0
Counts k n before qs u = (of k before).counts n < 4294967296 → (of k qs).counts n ≡ ((of k before).counts n + cond u 1 0) % 4294967296

turn_counts : (b : Box) (ps : List Process) (k n : ℕ) → Counts k n ps (after ps (turn b ps)) (logs_in k n ps)
unfolding turn takes later logs_in logs_next is_statement
turn_counts b [] k n h = omega arith
turn_counts b (p ∷ ps) zero n h = go (next p) (turn b ps)
  where
    go : (m : Next) (t : Turn) → (of 0 (after (p ∷ ps) (takes b p ps m t))).counts n ≡ (p.counts n + cond (logs_next n m) 1 0) % 4294967296
    go idle none = omega arith
    go idle (did qs paused o bs) = omega arith
    go (statement x ss) t = does_counts b p ss x n h
turn_counts b (p ∷ ps) (suc k) n h = go (next p) (turn b ps) (turn_counts b ps k n h)
  where
    go : (m : Next) (t : Turn) → (of k (after ps t)).counts n ≡ ((of k ps).counts n + cond (logs_in k n ps) 1 0) % 4294967296 →
        (of (suc k) (after (p ∷ ps) (takes b p ps m t))).counts n ≡ ((of k ps).counts n + cond (cond (is_statement m) false (logs_in k n ps)) 1 0) % 4294967296
    go idle none e = e
    go idle (did qs paused o bs) e = e
    go (statement x ss) t e = omega arith

-- ---- a call that is no start

module _ (s : Script) (b : Box) (k n : ℕ) (h : (process k b).counts n < 4294967296) where
  -- where nothing is counted
  none_counted : (m : ℕ) → m ≡ (process k b).counts n → m ≡ ((process k b).counts n + 0) % 4294967296
  none_counted m e = omega arith

  event_keeps : (q : Call) → is_event q ≡ true → (process k (called s q b).box).counts n ≡ ((process k b).counts n + 0) % 4294967296
  event_keeps q e = none_counted _ (go (was_taken (called s q b).reply) refl)
    where
      go : (u : Bool) → was_taken (called s q b).reply ≡ u → (process k (called s q b).box).counts n ≡ (process k b).counts n
      go true t = ap (λ (ps : List Process). (of k ps).counts n) ((event_taken s b q e).acts t) ∙ event_counts _ b.processes k n
      go false t = ap (λ (c : Box). (process k c).counts n) ((event_taken s b q e).unaltered t)

  drain_counts : (u : Bool) → (process k (cond u (drained b (turn b b.processes)) (record { box = b; reply = outcome (Refused SmallBuffer) [] })).box).counts n
      ≡ ((process k b).counts n + cond (u && logs_in k n b.processes) 1 0) % 4294967296
  drain_counts true = ap (λ (ps : List Process). (of k ps).counts n) (drained_is b (turn b b.processes)) ∙ turn_counts b b.processes k n h
  drain_counts false = omega arith

  once : (q : Call) → is_start q ≡ false → (process k (called s q b).box).counts n ≡ ((process k b).counts n + cond (logs k n q b) 1 0) % 4294967296
  unfolding logs
  once start e = true_is_false e
  once tick e = event_keeps tick refl
  once (byte x) e = event_keeps (byte x) refl
  once (reading r) e = event_keeps (reading r) refl
  once (level m is) e = event_keeps (level m is) refl
  once (ticks m) e = event_keeps (ticks m) refl
  once (bytes run room) e = event_keeps (bytes run room) refl
  once (drain room) e = unfold called in drain_counts (ltb 127 room)

-- ---- all of them

counted_through : (s : Script) (k n : ℕ) (qs : List Call) (b : Box) → any is_start qs ≡ false → (process k b).counts n < 4294967296 →
    (process k (box_after s b qs)).counts n ≡ ((process k b).counts n + logged_in s k n b qs) % 4294967296
unfolding box_after logged_in
counted_through s k n [] b e h = omega arith
counted_through s k n (q ∷ qs) b e h =
    let d = neither (is_start q) (any is_start qs) e in
    let o = once s b k n h q d.0 in
    let r = counted_through s k n qs (called s q b).box d.1 (omega (arith, o)) in
    omega (arith, o, r)

-- a start counts from 0
begun : (ps : List (List Statement)) (k n : ℕ) → (of k (map at_first ps)).counts n ≡ 0
begun [] k n = refl
begun (p ∷ ps) zero n = refl
begun (p ∷ ps) (suc k) n = begun ps k n

from_zero_lem : (s : Script) (b : Box) (k n : ℕ) → (process k (called s start b).box).counts n ≡ 0
unfolding called started
from_zero_lem s b k n = begun (done s.body) k n

-- THE THEOREM
pub counts_own : (s : Script) (b : Box) (qs : List Call) → CountsOwn s b qs
counts_own s b qs = record { counted = λ e k n h. counted_through s k n qs b e h; from_zero = from_zero_lem s b }
