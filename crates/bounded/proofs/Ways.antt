-- The ways on of a process, each of which leaves it within its bounds: to a place, to a rest, into a pass of a loop. Assumes nothing.
use mathlib.Core.Path.{◌≡◌, refl, sym, ◌∙◌}
use mathlib.Core.Bool.{Bool, true, false, cond}
use mathlib.Core.List.{List, ◌∷◌, ◌++◌}
use Prim.Native.Nat.{ℕ, suc, ◌≤◌, ◌<◌}
use native.Mathlib.Nat.{le_trans}
use native.Mathlib.Decide.{dec_lt}
use native.Mathlib.Omega.{arith}
use lib.Dec.{ltb}
use lib.ListN.{length, drop, drop_of_length-le}
use borrow.Author.Tests.{ltb-true, lt-ltb}
use Rattle.reader.proofs.Tests.{true_is_false}
use Rattle.figures.specs.Fragment.{Fragment}
use Rattle.figures.specs.Flat.{Mark, beyond, marks_nest}
use Rattle.figures.specs.Inside.Scan.{read_at, fragment_at}
use Rattle.figures.specs.Written.{repeated, run}
use Rattle.language.specs.Limits.{loop_limit}
use Rattle.process.specs.declared.Wait.{Wait}
use Rattle.process.specs.declared.Wait.TheVariants.{Ready, Over, Ticks, Bytes, Data, ClockValue, Signal}
use Rattle.process.specs.declared.Process.{Process}
use Rattle.process.specs.Waiting.{ready_wait, wait_right, awake}
use Rattle.events.proofs.Ranges.{awake_right}
use Rattle.statement.specs.Ways.{goes}
use Rattle.statement.specs.Loops.{back_to}
use Rattle.statement.specs.Moving.{rests_at}
use Rattle.bounded.proofs.Ahead.{Open, opens_of, whole, onward, ahead, run_less, enter}
use Rattle.bounded.proofs.Held.{Back, Kept, Sits, resting, Fine, Good}

-- ---- ready at a place, or over

module _ (i end : ℕ) where
  awake_live : ready_wait (awake i end) ≡ true → i < end
  unfolding awake
  awake_live e = go (ltb i end) refl e
    where
      go : (t : Bool) → ltb i end ≡ t → ready_wait (cond t Ready Over) ≡ true → i < end
      go true u e = ltb-true i end u
      go false u e = true_is_false (sym e)

  awake_up : resting (awake i end) ≡ true → ⊥
  unfolding awake
  awake_up e = go (ltb i end) e
    where
      go : (t : Bool) → resting (cond t Ready Over) ≡ true → ⊥
      go true e = true_is_false (sym e)
      go false e = true_is_false (sym e)

resting_still : (w : Wait) → resting w ≡ true → ready_wait w ≡ false
resting_still Ready e = sym e
resting_still Over e = refl
resting_still (Ticks n) e = refl
resting_still (Bytes n) e = refl
resting_still (Data m) e = refl
resting_still (ClockValue c) e = refl
resting_still (Signal l) e = refl

-- a place from which on a loop is closed is no end: so is the first statement of an open loop's body
pub inside : (d i : ℕ) (ms : List Mark) → marks_nest (suc d) (drop i ms) ≡ true → i < length ms
unfolding marks_nest
inside d i ms e = go (dec_lt i (length ms))
  where
    go : Dec (i < length ms) → i < length ms
    go (yes h) = h
    go (no h) = true_is_false (sym (rw (drop_of_length-le ms {i = i} (omega arith)) at e))

module _ (ms : List Mark) (first k : ℕ) where
  -- ready at a place, or over
  pub awake_fine : (n i end : ℕ) (os : List Open) → end ≡ length ms → n ≤ suc k → Sits ms first i os →
      ((m : ℕ) → run n (ahead ms m (read_at ms i) os) ≤ k) → Fine ms first k n i os (awake i end)
  awake_fine n i end os e d s h = record {
    sits = s;
    live = λ r. omega (arith, awake_live i end r);
    rested = λ r. absurd (awake_up i end r);
    brief = d;
    afresh = λ m. le_trans (run_less (ahead ms m (read_at ms i) os) (omega arith)) (h m);
    going = λ r. h;
  }

  -- at rest
  pub rest_fine : (n i : ℕ) (os : List Open) (w : Wait) → resting w ≡ true → n ≤ suc k → first < i → Sits ms first i os →
      ((m : ℕ) → run 0 (ahead ms m (read_at ms i) os) ≤ k) → Fine ms first k n i os w
  rest_fine n i os w r d f s h = record {
    sits = s;
    live = λ e. true_is_false (sym e ∙ resting_still w r);
    rested = λ e. f;
    brief = d;
    afresh = h;
    going = λ e. true_is_false (sym e ∙ resting_still w r);
  }

  module _ (p : Process) (e : p.end ≡ length ms) where
    pub goes_good : (n i d : ℕ) (ls bs : List ℕ) (os : List Open) → opens_of d ls bs ≡ os → length ls ≡ loop_limit → length bs ≡ loop_limit → n ≤ suc k →
        Sits ms first i os → ((m : ℕ) → run n (ahead ms m (read_at ms i) os) ≤ k) → Good ms first k n (goes p i d ls bs)
    goes_good n i d ls bs os o l b c s h = record {
      found = refl;
      held = record { fine = rw o (awake_fine n i p.end os e c s h); left = l; back = b; ends = e; right = awake_right i p.end };
    }

    pub rests_good : (n i : ℕ) (w : Wait) → resting w ≡ true → wait_right w ≡ true → length p.left ≡ loop_limit → length p.back ≡ loop_limit → n ≤ suc k →
        first < i → Sits ms first i (opens_of p.depth p.left p.back) →
        ((m : ℕ) → run 0 (ahead ms m (read_at ms i) (opens_of p.depth p.left p.back)) ≤ k) → Good ms first k n (rests_at p i w)
    rests_good n i w r q l b c f s h = record {
      found = refl;
      held = record { fine = rest_fine n i (opens_of p.depth p.left p.back) w r c f s h; left = l; back = b; ends = e; right = q };
    }

  -- into a pass of a loop whose body begins at b, l passes being ahead: st is read after its END
  module _ (n b l : ℕ) (st : List Fragment) (os : List Open) (f : length os < loop_limit) (bk : Back ms first st (length os) b) (kp : Kept ms first (beyond st) os)
      (h : (m : ℕ) → run n (repeated m l (whole m (fragment_at ms b)) ++ ahead ms m st os) ≤ k) where
    abbrev pub inner : List Open
    inner = record { back = b; left = l } ∷ os

    pub enter_sits : Sits ms first b inner
    enter_sits = record { nested = bk.nested; few = f; low = bk.low; high = bk.high; kept = rw bk.behind (bk, kp) }

    pub enter_ahead : (m : ℕ) → run n (ahead ms m (read_at ms b) inner) ≤ k
    unfolding onward
    enter_ahead m = rw bk.behind (enter k n l (fragment_at ms b) (λ j. ahead ms j st os) h m)

    -- with the arrays that stand for it
    pub enter_good : (p : Process) → p.end ≡ length ms → n ≤ suc k → (d : ℕ) (ls bs : List ℕ) → opens_of d ls bs ≡ inner →
        length ls ≡ loop_limit → length bs ≡ loop_limit → Good ms first k n (goes p b d ls bs)
    enter_good p e c d ls bs o l b' = goes_good p e n b d ls bs inner o l b' c enter_sits enter_ahead

    -- back to it from its END
    pub again_good : (p : Process) → p.end ≡ length ms → n ≤ suc k → (ls : List ℕ) → opens_of p.depth ls p.back ≡ inner →
        length ls ≡ loop_limit → length p.back ≡ loop_limit → Good ms first k n (back_to p b ls)
    unfolding back_to
    again_good p e c ls o l b' =
        let lt : b < p.end = omega (arith, inside (length os) b ms bk.nested) in
        rw (lt-ltb b p.end lt) (enter_good p e c p.depth ls p.back o l b')
