-- What the tests of recording decide: a byte that is one of some, and how often it is recorded. Assumes nothing.
use Prim.Native.Nat.{ℕ, ◌+◌, ◌≤◌, ◌<◌}
use mathlib.Core.Path.{◌≡◌, sym, ◌∙◌}
use mathlib.Core.Bool.{Bool, true, false, ◌||◌}
use mathlib.Core.List.{List}
use native.Mathlib.Numerals.{add-one}
use native.Mathlib.Omega.{arith}
use lib.Dec.{eqb}
use lib.ListN.{length, take, drop, get_or, length-take, drop_of_length-le}
use lib.Seq.{drop-cons, get_or-take}
use borrow.Author.Tests.{eq-eqb, ne_eqb}
use Rattle.reader.proofs.Tests.{by_cases}
use Rattle.language.specs.declared.Heads.{Heads}
use Rattle.events.specs.Recording.{one_of, times_recorded}

-- i of the first n bytes are passed: those from i on decide
pub record Seeking (bytes : List ℕ) (n b i : ℕ) : Type 0 where
  pub whole : one_of (take n bytes) b ≡ one_of (drop i (take n bytes)) b

module _ {bytes : List ℕ} {n b i : ℕ} (w : Seeking bytes n b i) where
  past : length (take n bytes) ≤ i → false ≡ one_of (take n bytes) b
  unfolding one_of
  past h = sym (w.whole ∙ rw (drop_of_length-le (take n bytes) h))

  pub seek_enough : n ≤ i → false ≡ one_of (take n bytes) b
  seek_enough h = past (simp length-take (omega arith))

  pub seek_past : length bytes ≤ i → false ≡ one_of (take n bytes) b
  seek_past h = past (simp length-take (omega arith))

  module _ (inside : i < length bytes) (more : i < n) where
    here : i < length (take n bytes)
    here = simp length-take (omega arith)

    pub seek_found : get_or bytes i 0 ≡ b → true ≡ one_of (take n bytes) b
    unfolding one_of
    seek_found e = sym (w.whole ∙ rw (drop-cons (take n bytes) i 0 here, get_or-take n bytes i 0 more, eq-eqb (get_or bytes i 0) b e))

    pub seek_on : (get_or bytes i 0 ≡ b → ⊥) → Seeking bytes n b (i + 1)
    unfolding one_of
    seek_on e = record { whole = w.whole ∙ rw (drop-cons (take n bytes) i 0 here, get_or-take n bytes i 0 more, ne_eqb (get_or bytes i 0) b e, add-one i) }

module _ (h : Heads) (b : ℕ) where
  -- twice at the most
  pub times_few : (paused : Bool) → times_recorded h paused b ≤ 2
  unfolding times_recorded
  times_few paused =
      let Few : ℕ → Type 0 = λ n. n ≤ 2 in
      by_cases Few (paused || one_of (take h.omits h.omit) b) _ _ (λ u. omega arith)
      (λ u. by_cases Few h.encodes _ _ (λ v. by_cases Few (eqb h.encode b) 2 1 (λ w. omega arith) (λ w. omega arith)) (λ v. omega arith))
