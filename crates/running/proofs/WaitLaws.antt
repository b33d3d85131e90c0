-- When the waits of a script begin and end: those of a number by one law, those of a test by one law. Assumes nothing.
use mathlib.Core.Path.{◌≡◌, refl, sym, ap, ◌∙◌}
use mathlib.Core.Bool.{Bool, true, false, cond, ◌||◌}
use mathlib.Core.List.{List, [], ◌∷◌}
use Prim.Native.Nat.{ℕ, ◌+◌, ◌-◌, ◌≤◌, ◌<◌}
use native.Mathlib.Omega.{arith}
use lib.Dec.{leb}
use lib.ListN.{get_or}
use borrow.Author.Tests.{leb-false, lt-leb, ne_eqb}
use Rattle.reader.proofs.Tests.{true_is_false, by_cases}
use Rattle.language.specs.Script.{Statement}
use Rattle.process.specs.Waiting.{same_level}
use Rattle.process.specs.State.{any}
use Rattle.runner.specs.Calls.{Call, start, tick, byte, reading, level, ticks, bytes, drain}
use Rattle.running.specs.Running.{Wait, for_nothing, for_ticks, for_bytes, for_clock, for_signal, ticked, gets, read, levelled, unless_zero, unless_holds, Process, Box, does}
use Rattle.running.specs.Waits.{event_on, since, count, is_tick, is_received, reading_matches, sets_level, EndsAtLast, EndsAtFirst, WaitsEnd, WaitsBegin}
use Rattle.running.proofs.DataWaits.{stays_over, data_wait}

-- ---- waits of a number

module _ (kind : Call → Bool) (wait : ℕ → Wait) (less : (e : Call) (n : ℕ) → event_on e (wait n) ≡ cond (kind e) (cond (leb n 1) for_nothing (wait (n - 1))) (wait n)) where
  waits_on_lem : (n : ℕ) (es : List Call) → count kind es < n → since es (wait n) ≡ wait (n - count kind es)
  unfolding since count
  waits_on_lem n [] h = ap wait (omega arith)
  waits_on_lem n (e ∷ es) h = rw (less e n) (go (kind e) h (λ m l. waits_on_lem m es l))
    where
      go : (k : Bool) → cond k 1 0 + count kind es < n → ((m : ℕ) → count kind es < m → since es (wait m) ≡ wait (m - count kind es)) →
          since es (cond k (cond (leb n 1) for_nothing (wait (n - 1))) (wait n)) ≡ wait (n - (cond k 1 0 + count kind es))
      go true l rest =
          let left : n - 1 - count kind es ≡ n - (1 + count kind es) = omega arith in
          rw (lt-leb n 1 (omega arith)) (rest (n - 1) (omega arith) ∙ ap wait left)
      go false l rest = rest n (omega arith) ∙ ap wait (omega arith)

  ends_at : (n : ℕ) (es : List Call) → 0 < n → n ≤ count kind es → since es (wait n) ≡ for_nothing
  unfolding since count
  ends_at n [] p h = absurd (omega arith)
  ends_at n (e ∷ es) p h = rw (less e n) (go (kind e) h (λ m l k. ends_at m es l k))
    where
      go : (k : Bool) → n ≤ cond k 1 0 + count kind es → ((m : ℕ) → 0 < m → m ≤ count kind es → since es (wait m) ≡ for_nothing) →
          since es (cond k (cond (leb n 1) for_nothing (wait (n - 1))) (wait n)) ≡ for_nothing
      go true l rest =
          by_cases (λ (w : Wait). since es w ≡ for_nothing) (leb n 1) for_nothing (wait (n - 1)) (λ q. stays_over es)
          (λ q. rest (n - 1) (omega (arith, leb-false n 1 q)) (omega arith))
      go false l rest = rest n p (omega arith)

  ends_at_last : EndsAtLast kind wait
  ends_at_last = record { waits = waits_on_lem; ends = ends_at }

time_less : (e : Call) (n : ℕ) → event_on e (for_ticks n) ≡ cond (is_tick e) (cond (leb n 1) for_nothing (for_ticks (n - 1))) (for_ticks n)
unfolding ticked gets read levelled
time_less start n = refl
time_less tick n = refl
time_less (byte x) n = refl
time_less (reading r) n = refl
time_less (level m is) n = refl
time_less (ticks m) n = refl
time_less (bytes run room) n = refl
time_less (drain room) n = refl

bytes_less : (e : Call) (n : ℕ) → event_on e (for_bytes n) ≡ cond (is_received e) (cond (leb n 1) for_nothing (for_bytes (n - 1))) (for_bytes n)
unfolding ticked gets read levelled
bytes_less start n = refl
bytes_less tick n = refl
bytes_less (byte x) n = refl
bytes_less (reading r) n = refl
bytes_less (level m is) n = refl
bytes_less (ticks m) n = refl
bytes_less (bytes run room) n = refl
bytes_less (drain room) n = refl

-- ---- waits of a test

module _ (test : Call → Bool) (wait : Wait) (first : (e : Call) → event_on e wait ≡ cond (test e) for_nothing wait) where
  none_yet : (es : List Call) → any test es ≡ false → since es wait ≡ wait
  unfolding since
  none_yet [] h = refl
  none_yet (e ∷ es) h = rw (first e) (go (test e) h (none_yet es))
    where
      go : (t : Bool) → (t || any test es) ≡ false → (any test es ≡ false → since es wait ≡ wait) → since es (cond t for_nothing wait) ≡ wait
      go true l rest = true_is_false l
      go false l rest = rest l

  some_did : (es : List Call) → any test es ≡ true → since es wait ≡ for_nothing
  unfolding since
  some_did [] h = true_is_false (sym h)
  some_did (e ∷ es) h = rw (first e) (go (test e) h (some_did es))
    where
      go : (t : Bool) → (t || any test es) ≡ true → (any test es ≡ true → since es wait ≡ for_nothing) → since es (cond t for_nothing wait) ≡ for_nothing
      go true l rest = stays_over es
      go false l rest = rest l

  ends_at_first : EndsAtFirst test wait
  ends_at_first = record { waits = none_yet; ends = some_did }

clock_first : (vs : List ℕ) (e : Call) → event_on e (for_clock vs) ≡ cond (reading_matches vs e) for_nothing (for_clock vs)
unfolding ticked gets read levelled
clock_first vs start = refl
clock_first vs tick = refl
clock_first vs (byte x) = refl
clock_first vs (reading r) = refl
clock_first vs (level m is) = refl
clock_first vs (ticks m) = refl
clock_first vs (bytes run room) = refl
clock_first vs (drain room) = refl

signal_first : (n : ℕ) (on : Bool) (e : Call) → event_on e (for_signal n on) ≡ cond (sets_level n on e) for_nothing (for_signal n on)
unfolding ticked gets read levelled
signal_first n on start = refl
signal_first n on tick = refl
signal_first n on (byte x) = refl
signal_first n on (reading r) = refl
signal_first n on (level m is) = refl
signal_first n on (ticks m) = refl
signal_first n on (bytes run room) = refl
signal_first n on (drain room) = refl

-- THE THEOREM
pub waits_end : WaitsEnd
waits_end = record {
  of_time = ends_at_last is_tick for_ticks time_less;
  of_bytes = ends_at_last is_received for_bytes bytes_less;
  of_data = data_wait;
  of_clock = λ vs. ends_at_first (reading_matches vs) (for_clock vs) (clock_first vs);
  of_signal = λ n on. ends_at_first (sets_level n on) (for_signal n on) (signal_first n on);
}

-- ---- how they begin

same_level_lem : (on : Bool) → same_level on on ≡ true
same_level_lem true = refl
same_level_lem false = refl

other_level : (on is : Bool) → (is ≡ on → ⊥) → same_level on is ≡ false
other_level true true n = absurd (n refl)
other_level true false n = refl
other_level false true n = refl
other_level false false n = absurd (n refl)

pub waits_begin : (b : Box) (p : Process) (ss : List Statement) → WaitsBegin b p ss
unfolding does unless_zero unless_holds
waits_begin b p ss = record {
  of_time = λ n l. rw (ne_eqb n 0 (λ e. omega arith));
  of_no_time = refl;
  of_bytes = λ n l. rw (ne_eqb n 0 (λ e. omega arith));
  of_no_bytes = refl;
  of_data = λ d. refl;
  of_clock = λ vs. refl;
  of_holding = λ n on e. rw (e, same_level_lem on);
  of_signal = λ n on d. rw (other_level on (get_or b.levels n false) d);
}
