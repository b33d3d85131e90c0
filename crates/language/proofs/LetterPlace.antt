-- THE FIRST BYTE THAT LFEXT'S LETTERS CANNOT TAKE. Assumes nothing.
use Prim.Native.Nat.{ℕ, zero, suc}
use mathlib.Core.Path.{◌≡◌, refl, sym, ◌∙◌}
use mathlib.Core.Bool.{Bool, true, false, cond, ◌&&◌}
use mathlib.Core.List.{List, [], ◌∷◌, ◌++◌}
use native.Mathlib.Omega.{arith}
use lib.Dec.{ltb, leb}
use lib.ListN.{length}
use borrow.Author.Tests.{leb-true, leb-false, lt-ltb, le-leb, lt-leb}
use Rattle.reader.specs.Bytes.{all, is_blank, is_byte, in_line}
use Rattle.reader.specs.FirstBad.{CanEnd, FirstBad}
use Rattle.reader.proofs.Digits.{of_blank}
use Rattle.reader.proofs.FirstBad.{bad_end, bad_here, bad_next, bad_as, bad_from}
use Rattle.reader.proofs.Tests.{and_false}
use Rattle.language.specs.Script.{set_lfext}
use Rattle.language.specs.Meaning.{is_capital, raised, raise, extension, lfext_of}
use Rattle.language.specs.Limits.{letter_limit}
use Rattle.language.specs.Column.{faultless, letters_taken, lfext_taken}
use Rattle.language.proofs.WordPlace.{OneWord, right_checked}

-- letters or digits, so many at most
letters : ℕ → List ℕ → Bool
letters most a = leb (length (raise a)) most && all is_capital (raise a)

letters_bad : (most : ℕ) (w : List ℕ) → FirstBad (letters most) w (letters_taken most w)
unfolding letters letters_taken raise
letters_bad most [] = bad_end (record { ending = []; holds = refl; makes = rw (le-leb 0 most (omega arith)) })
letters_bad zero (b ∷ w) = bad_here b w (record { ending = []; holds = refl; makes = refl }) (λ e. rw (lt-leb (suc (length (raise e))) 0 (omega arith)))
letters_bad (suc most) (b ∷ w) = by_byte (letters_bad most w) (is_capital (raised b)) refl
  where
    more : (m n : ℕ) → leb (suc m) (suc n) ≡ leb m n
    more m n = go (leb m n) refl
      where
        go : (t : Bool) → leb m n ≡ t → leb (suc m) (suc n) ≡ t
        go true e = le-leb (suc m) (suc n) (omega (arith, leb-true m n e))
        go false e = lt-leb (suc m) (suc n) (omega (arith, leb-false m n e))

    by_byte : FirstBad (letters most) w (letters_taken most w) → (t : Bool) → is_capital (raised b) ≡ t
        → FirstBad (letters (suc most)) (b ∷ w) (cond (is_capital (raised b)) (suc (letters_taken most w)) 0)
    by_byte f true q = rw q (bad_next b w (bad_as (λ a. rw (q, more (length (raise a)) most)) f))
    by_byte f false q =
        rw q (bad_here b w (record { ending = []; holds = refl; makes = rw (le-leb 0 (suc most) (omega arith)) }) (λ e. rw q (and_false (leb (suc (length (raise e))) (suc most)))))

blank_letter : (b : ℕ) → is_blank b ≡ true → is_capital (raised b) ≡ false
unfolding is_capital raised
blank_letter b h = of_blank (λ c. is_capital (raised c) ≡ false) refl refl b h

letters_solid : (x y : List ℕ) (b : ℕ) → is_blank b ≡ true → all is_capital (raise (x ++ b ∷ y)) ≡ false
unfolding raise
letters_solid [] y b h = rw (blank_letter b h)
letters_solid (c ∷ x) y b h = rw (letters_solid x y b h) (and_false (is_capital (raised c)))

right_lfext : (a : List ℕ) → faultless (lfext_of a) ≡ extension (raise a)
unfolding lfext_of faultless
right_lfext a = right_checked (extension (raise a)) (set_lfext (raise a)) refl

lfext_ends : CanEnd (λ a. faultless (lfext_of a)) []
unfolding lfext_of extension raise raised is_capital faultless in_line is_byte
lfext_ends = record { ending = 65 ∷ []; holds = refl; makes = refl }

lfext_bad : (w : List ℕ) → FirstBad (λ a. faultless (lfext_of a)) w (lfext_taken w)
unfolding lfext_taken letters_taken
lfext_bad [] = bad_end lfext_ends
lfext_bad (b ∷ w) = bad_from b w (letters_taken letter_limit (b ∷ w)) lfext_ends (λ a. sym (right_lfext (b ∷ a) ∙ some a)) (letters_bad letter_limit (b ∷ w))
  where
    some : (a : List ℕ) → extension (raise (b ∷ a)) ≡ letters letter_limit (b ∷ a)
    some a = unfold extension raise letters in rw (lt-ltb 0 (suc (length (raise a))) (omega arith))

pub lfext_word : OneWord lfext_of lfext_taken
lfext_word = record { first = lfext_bad; solid = λ x y b h. right_lfext (x ++ b ∷ y) ∙ solid x y b h }
  where
    solid : (x y : List ℕ) (b : ℕ) → is_blank b ≡ true → extension (raise (x ++ b ∷ y)) ≡ false
    solid x y b h = unfold extension in rw (letters_solid x y b h) (none (ltb 0 (length (raise (x ++ b ∷ y)))) (leb (length (raise (x ++ b ∷ y))) letter_limit))
      where
        none : (t u : Bool) → (t && u && false) ≡ false
        none true u = and_false u
        none false u = refl
