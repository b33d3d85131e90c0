-- How far a run of single events goes with one wait: where it ends it, and a count that goes down. WAIT TIME. Assumes nothing.
use mathlib.Core.Path.{◌≡◌, refl, sym, ap, ◌∙◌}
use mathlib.Core.Bool.{Bool, true, false, cond}
use mathlib.Core.List.{List, [], ◌∷◌}
use Prim.Native.Nat.{ℕ, zero, suc, ◌-◌, ◌≤◌, ◌<◌, max}
use native.Mathlib.Decide.{dec_lt}
use native.Mathlib.Omega.{arith}
use lib.Dec.{ltb, leb}
use lib.ListN.{length, take, length-replicate}
use borrow.Author.Tests.{le-leb, lt-leb, lt-ltb, le-ltb}
use Rattle.process.specs.declared.Wait.{Wait}
use Rattle.process.specs.declared.Wait.TheVariants.{Ready, Over, Ticks, Bytes, Data, ClockValue, Signal}
use Rattle.process.specs.Waiting.{ready_wait, awake, ticked_wait}
use Rattle.events.specs.Inside.Passing.{through, reach, at_least1, tick_on, ticks_of}
use Rattle.events.proofs.Reach.{stays_reach, stays_through}

pub least_zero : (n : ℕ) → n ≡ 0 → 1 ≡ at_least1 n
unfolding at_least1
least_zero zero e = refl
least_zero (suc n) e = absurd (omega arith)

pub least_other : (n : ℕ) → (n ≡ 0 → ⊥) → n ≡ at_least1 n
unfolding at_least1
least_other zero e = absurd (e refl)
least_other (suc n) e = refl

pub least_max : (n : ℕ) → max n 1 ≡ at_least1 n
unfolding at_least1
least_max zero = refl
least_max (suc n) = omega arith

pub least_over : (n k : ℕ) → k < at_least1 n → k ≤ n
unfolding at_least1
least_over zero k h = omega arith
least_over (suc n) k h = omega arith

least_is : (n : ℕ) → at_least1 (suc n) ≡ suc n
least_is n = sym (least_other (suc n) (λ e. omega arith))

least_some : (n : ℕ) → 1 ≤ at_least1 n
least_some zero = omega (arith, least_zero 0 refl)
least_some (suc n) = omega (arith, least_is n)

-- ---- a run that ends a wait at its n-th event, and what the wait then is

pub record EndsAt {X : Type 0} (g : X → Wait → Wait) (v w : Wait) (xs : List X) (n : ℕ) : Type 0 where
  pub there : through g (take n xs) v ≡ w
  pub after : through g xs v ≡ w
  pub far : reach g ready_wait xs v ≡ cond (ready_wait w) n (length xs)

module _ {X : Type 0} (g : X → Wait → Wait) (w : Wait) (stays : (x : X) → g x w ≡ w) where
  -- at its first
  pub first_ends : (v : Wait) (x : X) (xs : List X) → g x v ≡ w → EndsAt g v w (x ∷ xs) 1
  unfolding through reach
  first_ends v x xs e = record { there = e; after = rw e (stays_through g ready_wait w stays xs); far = rw e (far (ready_wait w) refl) }
    where
      far : (u : Bool) → ready_wait w ≡ u → suc (cond u 0 (reach g ready_wait xs w)) ≡ cond u 1 (suc (length xs))
      far true d = refl
      far false d = ap suc (stays_reach g ready_wait w stays d xs)

  -- or one later than after its first, which leaves it waiting
  pub later_ends : (v u : Wait) (x : X) (xs : List X) (n : ℕ) → g x v ≡ u → ready_wait u ≡ false → EndsAt g u w xs n → EndsAt g v w (x ∷ xs) (suc n)
  unfolding through reach
  later_ends v u x xs n e d h = record { there = ap (through g (take n xs)) e ∙ h.there; after = ap (through g xs) e ∙ h.after; far = rw (e, d) (ap suc h.far ∙ far (ready_wait w)) }
    where
      far : (t : Bool) → suc (cond t n (length xs)) ≡ cond t (suc n) (suc (length xs))
      far true = refl
      far false = refl

  -- ---- a count that goes down

  module _ (C : ℕ → Wait) (step : (x : X) (n : ℕ) → g x (C n) ≡ cond (leb n 1) w (C (n - 1))) (waits : (n : ℕ) → ready_wait (C n) ≡ false) where
    step_ends : (x : X) (n : ℕ) → n ≤ 1 → g x (C n) ≡ w
    step_ends x n h = step x n ∙ rw (le-leb n 1 h)

    step_on : (x : X) (n : ℕ) → g x (C (suc (suc n))) ≡ C (suc n)
    step_on x n = step x (suc (suc n)) ∙ rw (lt-leb (suc (suc n)) 1 (omega arith)) (ap C (omega arith))

    pub down_ends : (n : ℕ) (xs : List X) → at_least1 n ≤ length xs → EndsAt g (C n) w xs (at_least1 n)
    unfolding at_least1
    down_ends n [] h = absurd (omega (arith, least_some n))
    down_ends zero (x ∷ xs) h = first_ends (C 0) x xs (step_ends x 0 (omega arith))
    down_ends (suc zero) (x ∷ xs) h = first_ends (C 1) x xs (step_ends x 1 (omega arith))
    down_ends (suc (suc n)) (x ∷ xs) h = later_ends (C (suc (suc n))) (C (suc n)) x xs (suc n) (step_on x n) (waits (suc n)) (down_ends (suc n) xs (omega (arith, least_is n, least_is (suc n))))

    pub down_stays : (n : ℕ) (xs : List X) → length xs < at_least1 n → through g xs (C n) ≡ C (n - length xs)
    unfolding at_least1 through
    down_stays n [] h = ap C (omega arith)
    down_stays zero (x ∷ xs) h = absurd (omega (arith, least_zero 0 refl))
    down_stays (suc zero) (x ∷ xs) h = absurd (omega (arith, least_is 0))
    down_stays (suc (suc n)) (x ∷ xs) h =
        ap (through g xs) (step_on x n) ∙ down_stays (suc n) xs (omega (arith, least_is n, least_is (suc n))) ∙ ap C (omega arith)

    pub down_far : (n : ℕ) (xs : List X) → length xs < at_least1 n → reach g ready_wait xs (C n) ≡ length xs
    unfolding at_least1 reach
    down_far n [] h = refl
    down_far zero (x ∷ xs) h = absurd (omega (arith, least_zero 0 refl))
    down_far (suc zero) (x ∷ xs) h = absurd (omega (arith, least_is 0))
    down_far (suc (suc n)) (x ∷ xs) h = rw (step_on x n, waits (suc n)) (ap suc (down_far (suc n) xs (omega (arith, least_is n, least_is (suc n)))))

-- ---- WAIT TIME

-- a tick makes nothing of another wait
pub ticks_past : (place end : ℕ) (w : Wait) → ((n : ℕ) → w ≡ Ticks n → ⊥) → tick_on place end 0 w ≡ w
ticks_past place end Ready h = refl
ticks_past place end Over h = refl
ticks_past place end (Ticks n) h = absurd (h n refl)
ticks_past place end (Bytes n) h = refl
ticks_past place end (Data m) h = refl
ticks_past place end (ClockValue c) h = refl
ticks_past place end (Signal l) h = refl

module _ (place end : ℕ) where
  awake_stays : (x : ℕ) → tick_on place end x (awake place end) ≡ awake place end
  unfolding awake
  awake_stays x = go (ltb place end)
    where
      go : (u : Bool) → ticked_wait place end (cond u Ready Over) ≡ cond u Ready Over
      go true = refl
      go false = refl

  long : (n : ℕ) → length (ticks_of n) ≡ n
  long n = length-replicate {A = ℕ} n 0

  ends_at : (n most : ℕ) → at_least1 n ≤ most → EndsAt (tick_on place end) (Ticks n) (awake place end) (ticks_of most) (at_least1 n)
  ends_at n most h = down_ends (tick_on place end) (awake place end) awake_stays Ticks (λ x m. refl) (λ m. refl) n (ticks_of most) (omega (arith, long most))

  pub ticks_stay : (n most : ℕ) → most < at_least1 n → Ticks (n - most) ≡ through (tick_on place end) (ticks_of most) (Ticks n)
  ticks_stay n most h =
      sym (down_stays (tick_on place end) (awake place end) awake_stays Ticks (λ x m. refl) (λ m. refl) n (ticks_of most) (omega (arith, long most))
      ∙ ap (λ (k : ℕ). Ticks (n - k)) (long most))

  pub ticks_over : (n most : ℕ) → at_least1 n ≤ most → awake place end ≡ through (tick_on place end) (ticks_of most) (Ticks n)
  ticks_over n most h = sym (ends_at n most h).after

  pub ticks_all : (n most : ℕ) → most ≤ at_least1 n → most ≡ reach (tick_on place end) ready_wait (ticks_of most) (Ticks n)
  ticks_all n most h = by (dec_lt most (at_least1 n))
    where
      either : (u : Bool) → cond u most most ≡ most
      either true = refl
      either false = refl

      by : Dec (most < at_least1 n) → most ≡ reach (tick_on place end) ready_wait (ticks_of most) (Ticks n)
      by (yes p) =
          sym (down_far (tick_on place end) (awake place end) awake_stays Ticks (λ x m. refl) (λ m. refl) n (ticks_of most) (omega (arith, long most)) ∙ long most)
      by (no p) =
          let e : at_least1 n ≡ most = omega arith in
          sym ((ends_at n most (omega arith)).far ∙ rw (e, long most) (either (ready_wait (awake place end))))

  pub ticks_ready : (n most : ℕ) → at_least1 n ≤ most → place < end → at_least1 n ≡ reach (tick_on place end) ready_wait (ticks_of most) (Ticks n)
  unfolding awake
  ticks_ready n most h l =
      let w : cond (ltb place end) Ready Over ≡ Ready = rw (lt-ltb place end l) in
      sym ((ends_at n most h).far ∙ ap (λ (z : Wait). cond (ready_wait z) (at_least1 n) (length (ticks_of most))) w)

  pub ticks_done : (n most : ℕ) → at_least1 n ≤ most → end ≤ place → most ≡ reach (tick_on place end) ready_wait (ticks_of most) (Ticks n)
  unfolding awake
  ticks_done n most h l =
      let w : cond (ltb place end) Ready Over ≡ Over = rw (le-ltb place end l) in
      sym ((ends_at n most h).far ∙ ap (λ (z : Wait). cond (ready_wait z) (at_least1 n) (length (ticks_of most))) w ∙ long most)
