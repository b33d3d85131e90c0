-- How far a run of single events goes: of all processes no farther than of each, and of a process as far as of its wait. Assumes nothing.
use mathlib.Core.Path.{◌≡◌, refl, ap, ◌∙◌}
use mathlib.Core.Bool.{Bool, true, false, cond, ◌||◌}
use mathlib.Core.List.{List, [], ◌∷◌, ◌++◌, map}
use Prim.Native.Nat.{ℕ, zero, suc, ◌≤◌, ◌<◌}
use native.Mathlib.Omega.{arith}
use lib.ListN.{length, get_or, take}
use Rattle.reader.proofs.Tests.{true_is_false, by_cases}
use Rattle.process.specs.declared.Wait.{Wait}
use Rattle.process.specs.declared.Process.{Process}
use Rattle.process.specs.Waiting.{ready_wait, ready, with_wait}
use Rattle.process.specs.State.{any}
use Rattle.events.specs.Inside.Passing.{through, reach, each}

or_left : (u v : Bool) → (u || v) ≡ false → u ≡ false
or_left true v e = e
or_left false v e = refl

or_right : (u v : Bool) → (u || v) ≡ false → v ≡ false
or_right true v e = true_is_false e
or_right false v e = e

module _ {X A : Type 0} (g : X → A → A) (test : A → Bool) where
  pub reach_le : (xs : List X) (a : A) → reach g test xs a ≤ length xs
  unfolding reach
  reach_le [] a = omega arith
  reach_le (x ∷ xs) a =
      by_cases (λ (n : ℕ). suc n ≤ suc (length xs)) (test (g x a)) 0 _ (λ e. omega arith) (λ e. omega (arith, reach_le xs (g x a)))

  -- what no event alters, and does not pass the test, is reached by all
  pub stays_reach : (a : A) → ((x : X) → g x a ≡ a) → test a ≡ false → (xs : List X) → reach g test xs a ≡ length xs
  unfolding reach
  stays_reach a e n [] = refl
  stays_reach a e n (x ∷ xs) = rw (e x, n) (ap suc (stays_reach a e n xs))

  pub stays_through : (a : A) → ((x : X) → g x a ≡ a) → (xs : List X) → through g xs a ≡ a
  unfolding through
  stays_through a e [] = refl
  stays_through a e (x ∷ xs) = rw (e x) (stays_through a e xs)

  -- no farther than all are reached
  pub reach_within : (xs : List X) (a : A) → reach g test (take (reach g test xs a) xs) a ≡ reach g test xs a
  unfolding reach
  reach_within [] a = refl
  reach_within (x ∷ xs) a = go (test (g x a)) (reach_within xs (g x a))
    where
      go : (u : Bool) → reach g test (take (reach g test xs (g x a)) xs) (g x a) ≡ reach g test xs (g x a) →
          suc (cond u 0 (reach g test (take (cond u 0 (reach g test xs (g x a))) xs) (g x a))) ≡ suc (cond u 0 (reach g test xs (g x a)))
      go true h = refl
      go false h = ap suc h

  -- ---- of some at once

  any_last : (ys : List A) (a : A) → any test (ys ++ (a ∷ [])) ≡ (any test ys || test a)
  any_last [] a = or-false (test a)
    where
      or-false : (u : Bool) → (u || false) ≡ u
      or-false true = refl
      or-false false = refl
  any_last (y ∷ ys) a = rw (any_last ys a) (or_assoc (test y) (any test ys) (test a))
    where
      or_assoc : (u v w : Bool) → (u || (v || w)) ≡ ((u || v) || w)
      or_assoc true v w = refl
      or_assoc false v w = refl

  each_last : (x : X) (ys : List A) (a : A) → each g x (ys ++ (a ∷ [])) ≡ each g x ys ++ (g x a ∷ [])
  each_last x [] a = refl
  each_last x (y ∷ ys) a = ap (λ (l : List A). g x y ∷ l) (each_last x ys a)

  -- one more of them: it goes as far as they, or less far
  pub reach_one_more : (xs : List X) (ys : List A) (a : A) →
      reach g test (take (reach (each g) (any test) xs ys) xs) a ≡ reach (each g) (any test) xs (ys ++ (a ∷ []))
  unfolding reach
  reach_one_more [] ys a = refl
  reach_one_more (x ∷ xs) ys a = rw (each_last x ys a, any_last (each g x ys) (g x a)) (go (any test (each g x ys)) (test (g x a)) (reach_one_more xs (each g x ys) (g x a)))
    where
      go : (u v : Bool) →
          reach g test (take (reach (each g) (any test) xs (each g x ys)) xs) (g x a) ≡ reach (each g) (any test) xs (each g x ys ++ (g x a ∷ [])) →
          suc (cond v 0 (reach g test (take (cond u 0 (reach (each g) (any test) xs (each g x ys))) xs) (g x a)))
          ≡ suc (cond (u || v) 0 (reach (each g) (any test) xs (each g x ys ++ (g x a ∷ []))))
      go true true h = refl
      go true false h = refl
      go false true h = refl
      go false false h = ap suc h

  -- those of none are all
  pub reach_none : (xs : List X) → reach (each g) (any test) xs [] ≡ length xs
  unfolding reach
  reach_none [] = refl
  reach_none (x ∷ xs) = ap suc (reach_none xs)

  -- where none passes, each does not
  pub none_passes : (ys : List A) (i : ℕ) (d : A) → any test ys ≡ false → i < length ys → test (get_or ys i d) ≡ false
  none_passes [] i d e h = absurd (omega arith)
  none_passes (y ∷ ys) zero d e h = or_left (test y) (any test ys) e
  none_passes (y ∷ ys) (suc i) d e h = none_passes ys i d (or_right (test y) (any test ys) e) (omega arith)

module _ {X A : Type 0} (g : X → A → A) where
  through_cons : (xs : List X) (a : A) (ys : List A) → through (each g) xs (a ∷ ys) ≡ through g xs a ∷ through (each g) xs ys
  unfolding through
  through_cons [] a ys = refl
  through_cons (x ∷ xs) a ys = through_cons xs (g x a) (each g x ys)

  through_nil : (xs : List X) → through (each g) xs [] ≡ []
  unfolding through
  through_nil [] = refl
  through_nil (x ∷ xs) = through_nil xs

  -- events on all are events on each
  pub through_each : (xs : List X) (ys : List A) → through (each g) xs ys ≡ map (through g xs) ys
  through_each xs [] = through_nil xs
  through_each xs (a ∷ ys) = through_cons xs a ys ∙ ap (λ (l : List A). through g xs a ∷ l) (through_each xs ys)

-- ---- a process goes as far as its wait

module _ {X : Type 0} (f : ℕ → ℕ → X → Wait → Wait) where
  -- an event on a process, by what it does to its wait
  abbrev pub on : X → Process → Process
  on x p = with_wait p (f p.place p.end x p.wait)

  pub process_through : (xs : List X) (p : Process) → through on xs p ≡ with_wait p (through (f p.place p.end) xs p.wait)
  unfolding through
  process_through [] p = refl
  process_through (x ∷ xs) p = process_through xs (on x p)

  pub process_reach : (xs : List X) (p : Process) → reach on ready xs p ≡ reach (f p.place p.end) ready_wait xs p.wait
  unfolding reach
  process_reach [] p = refl
  process_reach (x ∷ xs) p = ap (λ (n : ℕ). suc (cond (ready_wait (f p.place p.end x p.wait)) 0 n)) (process_reach xs (on x p))
