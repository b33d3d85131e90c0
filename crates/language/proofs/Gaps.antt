-- Words of a line: what follows a word is no longer than the line, and spaces and tabs part the two. Assumes nothing.
use Prim.Native.Nat.{ℕ, suc, ◌+◌, ◌≤◌, ◌<◌}
use mathlib.Core.Path.{◌≡◌, refl, ap}
use mathlib.Core.Bool.{Bool, true, false, cond}
use mathlib.Core.List.{List, [], ◌∷◌}
use native.Mathlib.Omega.{arith}
use lib.ListN.{length}
use Rattle.reader.specs.Bytes.{is_blank, all}
use Rattle.words.specs.Words.{skip, before_end, trim_end, argument, word_of, after_word}
use Rattle.reader.proofs.Tests.{both, both_left, both_right, by_cases}

-- ---- what holds of every byte of a line holds of every byte of its parts

pub all_skip : (p : ℕ → Bool) (l : List ℕ) → all p l ≡ true → all p (skip l) ≡ true
unfolding skip
all_skip p [] h = refl
all_skip p (b ∷ l) h =
    by_cases (λ (x : List ℕ). all p x ≡ true) (is_blank b) (skip l) (b ∷ l) (λ e. all_skip p l (both_right (p b) (all p l) h)) (λ e. h)

pub all_after : (p : ℕ → Bool) (l : List ℕ) → all p l ≡ true → all p (after_word l) ≡ true
unfolding after_word
all_after p [] h = refl
all_after p (b ∷ l) h =
    by_cases (λ (x : List ℕ). all p x ≡ true) (is_blank b) (b ∷ l) (after_word l) (λ e. h) (λ e. all_after p l (both_right (p b) (all p l) h))

all_trim : (p : ℕ → Bool) (l : List ℕ) → all p l ≡ true → all p (trim_end l) ≡ true
unfolding trim_end
all_trim p [] h = refl
all_trim p (b ∷ l) h = go (trim_end l) (both_left (p b) (all p l) h) (all_trim p l (both_right (p b) (all p l) h))
  where
    go : (x : List ℕ) → p b ≡ true → all p x ≡ true → all p (before_end b x) ≡ true
    go [] e k = unfold before_end in by_cases (λ (y : List ℕ). all p y ≡ true) (is_blank b) [] (b ∷ []) (λ q. refl) (λ q. both (p b) true e refl)
    go (c ∷ x) e k = unfold before_end in both (p b) (all p (c ∷ x)) e k

pub all_argument : (p : ℕ → Bool) (l : List ℕ) → all p l ≡ true → all p (argument l) ≡ true
unfolding argument
all_argument p l h = all_trim p (skip l) (all_skip p l h)

-- ---- lengths

skip_le : (l : List ℕ) → length (skip l) ≤ length l
unfolding skip
skip_le [] = omega arith
skip_le (b ∷ l) =
    by_cases (λ (x : List ℕ). length x ≤ suc (length l)) (is_blank b) (skip l) (b ∷ l) (λ e. omega (arith, skip_le l)) (λ e. omega arith)

pub word_length_lem : (l : List ℕ) → length (word_of l) + length (after_word l) ≡ length l
unfolding word_of after_word
word_length_lem [] = refl
word_length_lem (b ∷ l) = go (is_blank b) (word_length_lem l)
  where
    go : (t : Bool) → length (word_of l) + length (after_word l) ≡ length l
        → length (cond t [] (b ∷ word_of l)) + length (cond t (b ∷ l) (after_word l)) ≡ suc (length l)
    go true h = omega arith
    go false h = omega arith

skip_blank : (b : ℕ) (l : List ℕ) → is_blank b ≡ true → skip (b ∷ l) ≡ skip l
unfolding skip
skip_blank b l h = rw h

-- if more than spaces and tabs follow a word, one of them comes first
pub word_gap : (l : List ℕ) → 0 < length (skip (after_word l)) → length (skip (after_word l)) < length (after_word l)
unfolding after_word
word_gap [] h = absurd (unfold skip in omega arith)
word_gap (b ∷ l) h = go (is_blank b) refl (word_gap l) h
  where
    go : (t : Bool) → is_blank b ≡ t → (0 < length (skip (after_word l)) → length (skip (after_word l)) < length (after_word l))
        → 0 < length (skip (cond t (b ∷ l) (after_word l))) → length (skip (cond t (b ∷ l) (after_word l))) < length (cond t (b ∷ l) (after_word l))
    go true e f k = omega (arith, ap length (skip_blank b l e), skip_le l)
    go false e f k = f k
