-- Words at a place of some bytes: the place that a reader finds, against the bytes that are left. Assumes nothing.
use Prim.Native.Nat.{ℕ, suc, ◌+◌, ◌-◌, ◌≤◌}
use mathlib.Core.Path.{◌≡◌, refl, sym, ap, ◌∙◌}
use mathlib.Core.Bool.{Bool, true, false, cond}
use mathlib.Core.List.{List, [], ◌∷◌}
use native.Mathlib.Omega.{arith}
use lib.ListN.{length, take, drop, length-drop}
use lib.Seq.{drop-drop}
use Rattle.reader.specs.Bytes.{is_blank}
use Rattle.words.specs.Words.{skip, blanks, word_of, word_length, after_word, before_end, trim_end, after_blanks, word_end, trimmed_end}
use Rattle.reader.proofs.Tests.{by_cases}

-- ---- what is counted off the front of some bytes

module _ (b : ℕ) (l : List ℕ) where
  skip_case : (t : Bool) → skip l ≡ drop (blanks l) l → cond t (skip l) (b ∷ l) ≡ drop (cond t (suc (blanks l)) 0) (b ∷ l)
  skip_case true e = e
  skip_case false e = refl

  after_case : (t : Bool) → after_word l ≡ drop (word_length l) l → cond t (b ∷ l) (after_word l) ≡ drop (cond t 0 (suc (word_length l))) (b ∷ l)
  after_case true e = refl
  after_case false e = e

  word_case : (t : Bool) → word_of l ≡ take (word_length l) l → cond t [] (b ∷ word_of l) ≡ take (cond t 0 (suc (word_length l))) (b ∷ l)
  word_case true e = refl
  word_case false e = ap (λ (w : List ℕ). b ∷ w) e

skip_drops : (l : List ℕ) → skip l ≡ drop (blanks l) l
unfolding skip blanks
skip_drops [] = refl
skip_drops (b ∷ l) = skip_case b l (is_blank b) (skip_drops l)

after_drops : (l : List ℕ) → after_word l ≡ drop (word_length l) l
unfolding after_word word_length
after_drops [] = refl
after_drops (b ∷ l) = after_case b l (is_blank b) (after_drops l)

word_takes : (l : List ℕ) → word_of l ≡ take (word_length l) l
unfolding word_of word_length
word_takes [] = refl
word_takes (b ∷ l) = word_case b l (is_blank b) (word_takes l)

blanks_few : (l : List ℕ) → blanks l ≤ length l
unfolding blanks
blanks_few [] = omega arith
blanks_few (b ∷ l) =
    let h = blanks_few l in
    by_cases (λ (n : ℕ). n ≤ suc (length l)) (is_blank b) (suc (blanks l)) 0 (λ e. omega arith) (λ e. omega arith)

word_few : (l : List ℕ) → word_length l ≤ length l
unfolding word_length
word_few [] = omega arith
word_few (b ∷ l) =
    let h = word_few l in
    by_cases (λ (n : ℕ). n ≤ suc (length l)) (is_blank b) 0 (suc (word_length l)) (λ e. omega arith) (λ e. omega arith)

-- ---- at a place

pub blanks_drop : (s : List ℕ) (at : ℕ) → drop (after_blanks s at) s ≡ skip (drop at s)
unfolding after_blanks
blanks_drop s at = sym (skip_drops (drop at s) ∙ drop-drop _ at s)

pub word_drop : (s : List ℕ) (at : ℕ) → drop (word_end s at) s ≡ after_word (drop at s)
unfolding word_end
word_drop s at = sym (after_drops (drop at s) ∙ drop-drop _ at s)

pub word_take : (s : List ℕ) (at : ℕ) → take (word_end s at - at) (drop at s) ≡ word_of (drop at s)
unfolding word_end
word_take s at =
    let e : at + word_length (drop at s) - at ≡ word_length (drop at s) = omega arith in
    rw e (sym (word_takes (drop at s)))

-- neither place lies before `at`, nor past the end, unless `at` does and is the place itself
pub record Within (s : List ℕ) (at place : ℕ) : Type 0 where
  pub from : at ≤ place
  pub to : at ≤ length s → place ≤ length s
  pub past : length s ≤ at → place ≡ at

within : (s : List ℕ) (at n : ℕ) → n ≤ length (drop at s) → Within s at (at + n)
within s at n h =
    let l = length-drop at s in
    record { from = omega arith; to = λ k. omega arith; past = λ k. omega arith }

pub blanks_within : (s : List ℕ) (at : ℕ) → Within s at (after_blanks s at)
unfolding after_blanks
blanks_within s at = within s at (blanks (drop at s)) (blanks_few (drop at s))

pub word_within : (s : List ℕ) (at : ℕ) → Within s at (word_end s at)
unfolding word_end
word_within s at = within s at (word_length (drop at s)) (word_few (drop at s))

-- ---- the end of a line

-- a byte is kept in front of what is kept of the rest, or nothing is kept
before_takes : (b : ℕ) (l k : List ℕ) → take (length k) l ≡ k → take (length (before_end b k)) (b ∷ l) ≡ before_end b k
unfolding before_end
before_takes b l [] e = by_cases (λ (w : List ℕ). take (length w) (b ∷ l) ≡ w) (is_blank b) [] (b ∷ []) (λ t. refl) (λ t. refl)
before_takes b l (c ∷ k) e = ap (λ (w : List ℕ). b ∷ w) e

pub trim_take : (s : List ℕ) → take (trimmed_end s) s ≡ trim_end s
unfolding trimmed_end trim_end
trim_take [] = refl
trim_take (b ∷ l) = before_takes b l (trim_end l) (trim_take l)

before_few : (b n : ℕ) (k : List ℕ) → length k ≤ n → length (before_end b k) ≤ suc n
unfolding before_end
before_few b n [] h = by_cases (λ (w : List ℕ). length w ≤ suc n) (is_blank b) [] (b ∷ []) (λ t. omega arith) (λ t. omega arith)
before_few b n (c ∷ k) h = omega arith

pub trimmed_within : (s : List ℕ) → trimmed_end s ≤ length s
unfolding trimmed_end trim_end
trimmed_within [] = omega arith
trimmed_within (b ∷ l) = before_few b (length l) (trim_end l) (trimmed_within l)
