-- The letters of LFEXT, up to the first zero. Assumes nothing.
use Rattle.std.specs.Prelude.{Option, Some, None, unwrap_or}
use Rattle.std.specs.List.{list_all, position_or_len}
use Prim.Native.Nat.{ℕ, ◌+◌, ◌-◌, ◌≤◌, ◌<◌}
use mathlib.Core.Path.{◌≡◌, refl, sym, ap, ◌∙◌}
use mathlib.Core.Bool.{Bool, true, false, cond, not, ◌&&◌}
use mathlib.Core.List.{List, [], ◌∷◌}
use native.Mathlib.Omega.{arith}
use lib.Dec.{eqb, ltb}
use lib.ListN.{length, take, drop, length-take}
use borrow.Author.Tests.{lt-ltb, le-ltb, le-leb, lt-leb, ltb-false}
use Rattle.reader.specs.Ascii.{ascii}
use Rattle.reader.specs.Bytes.{all, same}
use Rattle.words.specs.Words.{is_named}
use Rattle.language.specs.Meaning.{extension, is_capital}
use Rattle.language.specs.Table.{letters_of}
use Rattle.accepted.specs.Inside.Heads.{all_zero, extension_fits}

-- the letters are the first bytes
pub letters_first : (e : List ℕ) → take (length (letters_of e)) e ≡ letters_of e
unfolding letters_of
letters_first [] = refl
letters_first (b ∷ l) = go (eqb b 0) (letters_first l)
  where
    go : (t : Bool) → take (length (letters_of l)) l ≡ letters_of l → take (length (cond t [] (b ∷ letters_of l))) (b ∷ l) ≡ cond t [] (b ∷ letters_of l)
    go true e = refl
    go false e = ap (λ (m : List ℕ). b ∷ m) e

-- they stand before the first zero
letters_before : (e : List ℕ) → position_or_len (λ (b : ℕ). eqb b 0) e ≡ length (letters_of e)
unfolding letters_of
letters_before [] = refl
letters_before (b ∷ l) = go (eqb b 0) (letters_before l)
  where
    go : (t : Bool) → position_or_len (λ (b : ℕ). eqb b 0) l ≡ length (letters_of l)
        → cond (not t) (1 + position_or_len (λ (b : ℕ). eqb b 0) l) 0 ≡ length (cond t [] (b ∷ letters_of l))
    go true e = refl
    go false e = omega (arith, e)

-- the first place of a zero tells how many they are; where there is none, all are
pub letters_position : (e : List ℕ) {p : Option ℕ} → p ≡ cond (ltb (position_or_len (λ (b : ℕ). eqb b 0) e) (length e)) (Some (position_or_len (λ (b : ℕ). eqb b 0) e)) None
    → unwrap_or p (length e) ≡ length (letters_of e)
letters_position e h = rw h (go (ltb (position_or_len (λ (b : ℕ). eqb b 0) e) (length e)) refl)
  where
    few : length (letters_of e) ≤ length e
    few = omega (arith, length-take (length (letters_of e)) e, ap length (letters_first e))

    go : (t : Bool) → ltb (position_or_len (λ (b : ℕ). eqb b 0) e) (length e) ≡ t
        → unwrap_or (cond t (Some (position_or_len (λ (b : ℕ). eqb b 0) e)) None) (length e) ≡ length (letters_of e)
    go true q = letters_before e
    go false q = omega (arith, ltb-false (position_or_len (λ (b : ℕ). eqb b 0) e) (length e) q, letters_before e, few)

-- every one, in the words of std
pub all_is : (p : ℕ → Bool) (l : List ℕ) → list_all p l ≡ all p l
all_is p [] = refl
all_is p (b ∷ l) = ap (λ (t : Bool). p b && t) (all_is p l)

module _ (e : List ℕ) {n : ℕ} (is : n ≡ length (letters_of e)) where
  first : take n e ≡ letters_of e
  first = rw is (letters_first e)

  pub letters_count : n ≡ length (take n e)
  letters_count = is ∙ sym (ap length first)

  pub no_letters : n ≡ 0 → false ≡ extension_fits e
  unfolding extension
  no_letters z = let h : length (letters_of e) ≤ 0 = omega arith in rw (le-ltb 0 (length (letters_of e)) h)

  module _ (some : n ≡ 0 → ⊥) where
    more : 0 < length (letters_of e)
    more = omega arith

    pub many_letters : 3 < n → false ≡ extension_fits e
    unfolding extension
    many_letters h = let k : 3 < length (letters_of e) = omega arith in rw (lt-ltb 0 (length (letters_of e)) more, lt-leb (length (letters_of e)) 3 k)

    module _ (h : n ≤ 3) {t : Bool} (told : t ≡ all is_capital (take n e)) where
      few : length (letters_of e) ≤ 3
      few = omega arith

      pub small_letters : t ≡ false → false ≡ extension_fits e
      unfolding extension
      small_letters f = rw (lt-ltb 0 (length (letters_of e)) more, le-leb (length (letters_of e)) 3 few, sym (ap (all is_capital) first), sym told ∙ f)

      pub right_letters : t ≡ true → {r : Bool} → r ≡ all_zero (drop n e) → r ≡ extension_fits e
      unfolding extension
      right_letters f z =
          z ∙ rw (lt-ltb 0 (length (letters_of e)) more, le-leb (length (letters_of e)) 3 few, sym (ap (all is_capital) first), sym told ∙ f, is)

  module _ {t : Bool} (told : t ≡ is_named e 0 n (ascii "LOG")) where
    pub named : t ≡ same (letters_of e) (ascii "LOG")
    unfolding is_named
    named = let z : n - 0 ≡ n = omega arith in told ∙ rw (z, first)
