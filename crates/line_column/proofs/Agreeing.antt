-- How far a word agrees with a name, and which of two ways takes more. Assumes nothing.
use Prim.Native.Nat.{ℕ, suc, ◌+◌, max, ◌≤◌, ◌<◌}
use mathlib.Core.Path.{◌≡◌, refl, ◌∙◌}
use mathlib.Core.Bool.{Bool, true, false, cond}
use mathlib.Core.List.{List}
use native.Mathlib.Numerals.{add-one}
use native.Mathlib.Omega.{arith}
use lib.Dec.{leb}
use lib.ListN.{length, drop, get_or, drop_of_length-le}
use lib.Seq.{drop-cons}
use borrow.Author.Tests.{eq-eqb, ne_eqb, leb-true, leb-false, le-leb, lt-leb}
use Rattle.language.specs.Column.{alike, further, number_taken, unit_taken, time_taken}

-- the place that is looked for is the same, looked for from `i` on with the name's bytes from `n` on
pub record Agreeing (s name : List ℕ) (at i n : ℕ) : Type 0 where
  pub whole : at + alike name (drop at s) ≡ i + alike (drop n name) (drop i s)

module _ {s name : List ℕ} {at i n : ℕ} (w : Agreeing s name at i n) where
  pub name_ended : length name ≤ n → i ≡ at + alike name (drop at s)
  unfolding alike
  name_ended h =
      let e : alike (drop n name) (drop i s) ≡ 0 = rw (drop_of_length-le name h) in
      omega (arith, w.whole)

  module _ (more : n < length name) where
    pub bytes_ended : length s ≤ i → i ≡ at + alike name (drop at s)
    unfolding alike
    bytes_ended h =
        let e : alike (drop n name) (drop i s) ≡ 0 = rw (drop-cons name n 0, drop_of_length-le s h) in
        omega (arith, w.whole)

    module _ (inside : i < length s) where
      pub differs : (get_or name n 0 ≡ get_or s i 0 → ⊥) → i ≡ at + alike name (drop at s)
      unfolding alike
      differs h =
          let e : alike (drop n name) (drop i s) ≡ 0 = rw (drop-cons name n 0, drop-cons s i 0) (simp (ne_eqb _ _ h)) in
          omega (arith, w.whole)

      pub agrees : get_or name n 0 ≡ get_or s i 0 → Agreeing s name at (i + 1) (n + 1)
      unfolding alike
      agrees h =
          let e : alike (drop n name) (drop i s) ≡ suc (alike (drop (suc n) name) (drop (suc i) s)) = rw (drop-cons name n 0, drop-cons s i 0) (simp (eq-eqb _ _ h)) in
          record { whole = rw (add-one n, add-one i) (omega (arith, w.whole)) }

-- ---- of two ways the one that takes more

further_moved : (at m n : ℕ) → further (at + m) (at + n) ≡ at + further m n
unfolding further
further_moved at m n = go (leb m n) refl
  where
    go : (t : Bool) → leb m n ≡ t → cond (leb (at + m) (at + n)) (at + n) (at + m) ≡ at + cond t n m
    go true e = let h = leb-true m n e in rw (le-leb (at + m) (at + n) (omega arith))
    go false e = let h = leb-false m n e in rw (lt-leb (at + m) (at + n) (omega arith))

-- as the library has it
pub max_is : (m n : ℕ) → max m n ≡ further m n
unfolding further
max_is m n = go (leb m n) refl
  where
    go : (t : Bool) → leb m n ≡ t → max m n ≡ cond t n m
    go true e = let h = leb-true m n e in omega arith
    go false e = let h = leb-false m n e in omega arith

-- both from one place on
pub of_two : (at m n : ℕ) {x y : ℕ} → x ≡ at + m → y ≡ at + n → max x y ≡ at + further m n
of_two at m n p q = rw (p, q) (max_is (at + m) (at + n) ∙ further_moved at m n)

-- from the front
pub at_front : {x n : ℕ} → x ≡ 0 + n → x ≡ n
at_front e = omega arith

-- "Number and unit touch"
pub unit_behind : (w : List ℕ) {at : ℕ} → at ≡ number_taken w → at + unit_taken (drop at w) ≡ time_taken w
unfolding time_taken
unit_behind w e = rw e
