-- What is right for a received byte stays right under it, so that 25 need be tested once only, however many bytes come. Assumes nothing.
use mathlib.Core.Path.{◌≡◌, refl}
use mathlib.Core.Bool.{true, false}
use mathlib.Core.List.{List, [], ◌∷◌, map}
use Prim.Native.Nat.{ℕ, ◌+◌, ◌-◌, ◌≤◌}
use native.Mathlib.Omega.{arith}
use lib.Dec.{eqb, ltb, leb}
use lib.ListN.{take, length-append, length-take}
use borrow.Author.Tests.{lt-ltb, eqb-false}
use Rattle.reader.specs.Bytes.{all}
use Rattle.reader.proofs.Tests.{both_left, both_right, both, by_cases}
use Rattle.language.specs.declared.Heads.{Heads}
use Rattle.language.specs.Limits.{data_limit, omit_limit}
use Rattle.process.specs.declared.Progress.{Progress}
use Rattle.process.specs.declared.Wait.{Wait}
use Rattle.process.specs.declared.Wait.TheVariants.{Ready, Over, Ticks, Bytes, Data, ClockValue, Signal}
use Rattle.process.specs.declared.Process.{Process}
use Rattle.process.specs.declared.State.{State}
use Rattle.process.specs.declared.Copies.{Copies}
use Rattle.process.specs.declared.Event.{Event}
use Rattle.process.specs.Matching.{recent, advance}
use Rattle.process.specs.Waiting.{awake, awaited, matched_to, matched_wait, byte_wait, byte_taken, progress_right, wait_right, range_right}
use Rattle.process.specs.State.{busy, with_processes}
use Rattle.process.proofs.Matches.{fits}
use Rattle.events.specs.Receiving.{ranges_right, byte_event}
use Rattle.events.proofs.DataCases.{within_data}

-- a process that waits for nothing awaits no data
pub awake_right : (place end : ℕ) → wait_right (awake place end) ≡ true
unfolding awake
awake_right place end = by_cases (λ (w : Wait). wait_right w ≡ true) (ltb place end) Ready Over (λ e. refl) (λ e. refl)

-- one more byte matches at most one more
advance_few : (d : List ℕ) (k b : ℕ) → advance d k b ≤ k + 1
unfolding advance
advance_few d k b = omega (arith, (fits d (recent d k b)).within, length-append (take k d) (b ∷ []), length-take k d)

module _ (pool : List ℕ) (b : ℕ) where
  -- WAIT DATA: what is matched stays below what is awaited
  pub data_right_lem : (m : Progress) → progress_right m ≡ true →
      let a = advance (awaited pool m) m.matched b in eqb a m.count ≡ false → progress_right (matched_to m a) ≡ true
  unfolding progress_right
  data_right_lem m q r =
      let a : ℕ = advance (awaited pool m) m.matched b in
      let within = leb (m.from + m.count) data_limit in
      let other = eqb-false a m.count r in
      both within _ (both_left within _ q) (lt-ltb a m.count (omega (arith, within_data m q, advance_few (awaited pool m) m.matched b)))

  wait_right_lem : (place end : ℕ) (w : Wait) → wait_right w ≡ true → wait_right (byte_wait pool b place end w) ≡ true
  unfolding matched_wait
  wait_right_lem place end Ready r = r
  wait_right_lem place end Over r = r
  wait_right_lem place end (Ticks n) r = r
  wait_right_lem place end (Bytes n) r =
      by_cases (λ (w : Wait). wait_right w ≡ true) (leb n 1) (awake place end) (Bytes (n - 1)) (λ e. awake_right place end) (λ e. refl)
  wait_right_lem place end (Data m) r =
      let a : ℕ = advance (awaited pool m) m.matched b in
      by_cases (λ (w : Wait). wait_right w ≡ true) (eqb a m.count) (awake place end) (Data (matched_to m a)) (λ e. awake_right place end) (data_right_lem m r)
  wait_right_lem place end (ClockValue c) r = r
  wait_right_lem place end (Signal l) r = r

  all_right_lem : (ps : List Process) → all range_right ps ≡ true → all range_right (map (byte_taken pool b) ps) ≡ true
  all_right_lem [] r = r
  all_right_lem (p ∷ ps) r =
      both (range_right (byte_taken pool b p)) _ (wait_right_lem p.place p.end p.wait (both_left (range_right p) _ r))
      (all_right_lem ps (both_right (range_right p) _ r))

-- taken or refused
module _ (pool : List ℕ) (h : Heads) (s : State) (x : ℕ) where
  taken_right : ranges_right h s ≡ true → ranges_right h (with_processes s (map (byte_taken pool x) s.processes)) ≡ true
  unfolding ranges_right
  taken_right r =
      let few = leb h.omits omit_limit in
      both few _ (both_left few _ r) (all_right_lem pool x s.processes (both_right few _ r))

  pub ranges_stay : ranges_right h s ≡ true → ranges_right h (byte_event pool h s x).state ≡ true
  unfolding byte_event
  ranges_stay r =
      let Right : Event Copies → Type 0 = λ e. ranges_right h e.state ≡ true in
      by_cases Right (ranges_right h s) _ _ (λ e. by_cases Right (busy s) _ _ (λ u. r) (λ u. taken_right r)) (λ e. r)
