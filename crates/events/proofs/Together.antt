-- All processes of a state go through a run together: one after the other, each no farther than those before it. Assumes nothing.
use mathlib.Core.Path.{◌≡◌, refl, sym, ap, ◌∙◌}
use mathlib.Core.Bool.{Bool, true, false}
use mathlib.Core.List.{List, [], ◌∷◌, map}
use Prim.Native.Nat.{ℕ, zero, suc, ◌+◌, ◌≤◌, ◌<◌}
use native.Mathlib.Numerals.{add-one}
use native.Mathlib.Omega.{arith}
use lib.Dec.{ltb}
use lib.ListN.{length, get_or, take, set, length-set, length-replicate}
use lib.Seq.{take-suc, take-take, take_all, length-take-le}
use borrow.Author.Tests.{ltb-false}
use Rattle.reader.proofs.Tests.{true_is_false}
use Rattle.process.specs.declared.Wait.{Wait}
use Rattle.process.specs.declared.Process.{Process}
use Rattle.process.specs.Waiting.{ready_wait, ready, with_wait, byte_taken}
use Rattle.process.specs.State.{any}
use Rattle.process.proofs.Loops.{done, done_at, done_more, done_all}
use Rattle.events.specs.declared.passing.Passed.{Passed}
use Rattle.events.specs.declared.passing.Pass.{Pass}
use Rattle.events.specs.Inside.Passing.{through, reach, each, ticks_of, tick_on, tick_taken, ticks_on, ticks_reach, byte_on, bytes_on, reach_all, passed_by, Passes}
use Rattle.events.proofs.Reach.{reach_le, reach_within, reach_none, reach_one_more, process_through, process_reach}

-- ---- ticks

take_ticks : (n most : ℕ) → n ≤ most → take n (ticks_of most) ≡ ticks_of n
take_ticks zero most h = refl
take_ticks (suc n) zero h = absurd (omega arith)
take_ticks (suc n) (suc most) h = ap (λ (l : List ℕ). 0 ∷ l) (take_ticks n most (omega arith))

pub ticks_none : (most : ℕ) → most ≡ ticks_reach most []
ticks_none most = sym (reach_none tick_taken ready (ticks_of most) ∙ length-replicate {A = ℕ} most 0)

pub ticks_more : (most i : ℕ) (ps : List Process) (d : Process) {n m : ℕ} → i < length ps → n ≡ ticks_reach most (take i ps) →
    (let p = get_or ps i d in m ≡ reach (tick_on p.place p.end) ready_wait (ticks_of n) p.wait) → m ≡ ticks_reach most (take (i + 1) ps)
ticks_more most i ps d {n} {m} h e f =
    let p = get_or ps i d in
    let few : n ≤ most = omega (arith, e, reach_le (each tick_taken) (any ready) (ticks_of most) (take i ps), length-replicate {A = ℕ} most 0) in
    f ∙ sym (process_reach tick_on (ticks_of n) p)
    ∙ ap (λ (l : List ℕ). reach tick_taken ready l p) (sym (take_ticks n most few) ∙ ap (λ (k : ℕ). take k (ticks_of most)) e)
    ∙ reach_one_more tick_taken ready (ticks_of most) (take i ps) p
    ∙ ap (ticks_reach most) (sym (rw (add-one i) (take-suc ps i d h)))

pub ticks_stored : (n i : ℕ) (ps : List Process) (d : Process) {next : List Process} {v : Wait} {y : Process} → i < length ps → next ≡ done (ticks_on n) i ps →
    (let p = get_or next i d in v ≡ through (tick_on p.place p.end) (ticks_of n) p.wait) → y ≡ with_wait (get_or next i d) v → set next i y ≡ done (ticks_on n) (i + 1) ps
ticks_stored n i ps d {next} h e f g = done_more (ticks_on n) ps i d h e (g ∙ ap (with_wait (get_or next i d)) f ∙ sym (process_through tick_on (ticks_of n) (get_or next i d)))

-- ---- bytes

module _ (pool run : List ℕ) (ps : List Process) where
  -- i processes have gone through the run, the last of them through n bytes of it; `again`: some before it through more
  pub record Going (i : ℕ) (next : List Process) (n : ℕ) (again : Bool) : Type 0 where
    pub far : n ≡ reach_all pool run (take i ps)
    pub most : n ≤ length run
    pub long : length next ≡ length ps
    pub whole : again ≡ false → next ≡ done (bytes_on pool (take n run)) i ps
    pub less : again ≡ true → n < length run
    pub first : i ≡ 0 → again ≡ false

  pub going_begun : Going 0 ps (length run) false
  going_begun = record {
    far = sym (reach_none (byte_taken pool) ready run);
    most = omega arith;
    long = refl;
    whole = λ e. refl;
    less = λ e. true_is_false (sym e);
    first = λ e. refl;
  }

  module _ (i : ℕ) (next : List Process) (n : ℕ) (again : Bool) (d : Process) (w : Going i next n again) (h : i < length ps) where
    abbrev p : Process
    p = get_or ps i d

    -- the next process, through what those before it went through
    abbrev passed : Passed
    passed = passed_by pool p.place p.end (take n run) p.wait

    far_next : passed.count ≡ reach_all pool run (take (i + 1) ps)
    unfolding passed_by
    far_next =
        sym (process_reach (byte_on pool) (take n run) p)
        ∙ ap (λ (k : ℕ). reach (byte_taken pool) ready (take k run) p) w.far
        ∙ reach_one_more (byte_taken pool) ready run (take i ps) p
        ∙ ap (reach_all pool run) (sym (rw (add-one i) (take-suc ps i d h)))

    count_le : passed.count ≤ n
    unfolding passed_by
    count_le = omega (arith, reach_le (byte_on pool p.place p.end) ready_wait (take n run) p.wait, w.most, length-take-le n run w.most)

    after_is : with_wait p passed.wait ≡ bytes_on pool (take passed.count run) p
    unfolding passed_by
    after_is =
        ap (λ (l : List ℕ). with_wait p (through (byte_on pool p.place p.end) l p.wait)) (take-take passed.count n run count_le)
        ∙ sym (process_through (byte_on pool) (take passed.count run) p)

    next_long : (y : Process) → length (set next i y) ≡ length ps
    next_long y = length-set next i y ∙ w.long

    stored : (y : Process) (m : ℕ) → y ≡ bytes_on pool (take m run) p → next ≡ done (bytes_on pool (take m run)) i ps → set next i y ≡ done (bytes_on pool (take m run)) (i + 1) ps
    stored y m e f = done_more (bytes_on pool (take m run)) ps i d h f (e ∙ ap (bytes_on pool (take m run)) (sym (ap (λ (l : List Process). get_or l i d) f ∙ done_at (bytes_on pool (take m run)) ps i d h)))

    module _ {l : List ℕ} {r : Passed} {y : Process} (g : l ≡ take n run) (went : r ≡ passed_by pool p.place p.end l p.wait) (f : y ≡ with_wait p r.wait) where
      e : r ≡ passed
      e = went ∙ ap (λ (xs : List ℕ). passed_by pool p.place p.end xs p.wait) g

      y_is : y ≡ bytes_on pool (take r.count run) p
      y_is = rw e (f ∙ ap (λ (z : Passed). with_wait p z.wait) e ∙ after_is)

      -- it went as far as they
      pub goes_on_lem : (r.count < n → ⊥) → Going (i + 1) (set next i y) r.count again
      goes_on_lem l =
          let same : r.count ≡ n = omega (arith, ap (λ (z : Passed). z.count) e, count_le) in
          record {
            far = ap (λ (z : Passed). z.count) e ∙ far_next;
            most = omega (arith, w.most);
            long = next_long y;
            whole = λ u. stored y r.count y_is (rw same (w.whole u));
            less = λ u. omega (arith, w.less u);
            first = λ u. absurd (omega arith);
          }

      -- it went less far: those before it are to go again
      pub goes_less : {u : Bool} → u ≡ ltb 0 i → r.count < n → Going (i + 1) (set next i y) r.count u
      goes_less {u} t l = record {
        far = ap (λ (z : Passed). z.count) e ∙ far_next;
        most = omega (arith, w.most);
        long = next_long y;
        whole = λ v.
            let none : i ≡ 0 = omega (arith, ltb-false 0 i (sym t ∙ v)) in
            stored y r.count y_is (w.whole (w.first none) ∙ rw none);
        less = λ v. omega (arith, w.most);
        first = λ v. absurd (omega arith);
      }

  -- all have gone
  pub going_done : {i : ℕ} {next : List Process} {n : ℕ} {again : Bool} → Going i next n again → length ps ≤ i → Passes pool run ps (record { processes = next; count = n; again = again })
  going_done {i} {n = n} w h =
      let all : take i ps ≡ ps = take_all i ps h in
      record { count = w.far ∙ ap (reach_all pool run) all; whole = λ e. w.whole e ∙ done_all (bytes_on pool (take n run)) ps i h; less = w.less }

-- ---- a second time, where some have gone farther than others

module _ (pool run : List ℕ) (ps : List Process) {r : Pass} (w : Passes pool run ps r) where
  pub passes_most : r.count ≤ length run
  passes_most = omega (arith, w.count, reach_le (each (byte_taken pool)) (any ready) run ps)

  -- through no more than the last went, all go through it whole
  pub passes_again : {l : List ℕ} {z : Pass} → l ≡ take r.count run → Passes pool l ps z →
      (z.count ≡ reach_all pool run ps) × (z.processes ≡ map (bytes_on pool (take z.count run)) ps)
  passes_again {l} {z} g v = go z.again refl
    where
      far : z.count ≡ r.count
      far =
          v.count ∙ ap (λ (xs : List ℕ). reach_all pool xs ps) (g ∙ ap (λ (n : ℕ). take n run) w.count)
          ∙ reach_within (each (byte_taken pool)) (any ready) run ps ∙ sym w.count

      go : (u : Bool) → z.again ≡ u → (z.count ≡ reach_all pool run ps) × (z.processes ≡ map (bytes_on pool (take z.count run)) ps)
      go true e = absurd (omega (arith, v.less e, far, ap length g, length-take-le r.count run passes_most))
      go false e = (
        far ∙ w.count,
        v.whole e
            ∙ ap (λ (xs : List ℕ). map (bytes_on pool xs) ps) (ap (take z.count) g ∙ take-take z.count r.count run (omega (arith, far))),
      )
