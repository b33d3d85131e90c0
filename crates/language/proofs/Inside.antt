-- WHAT CAN BE TAKEN OF A LINE LIES INSIDE IT, whatever the line says: so a column is at most the line's length plus one. Assumes nothing.
use Prim.Native.Nat.{ℕ, suc, ◌+◌, ◌≤◌}
use mathlib.Core.Path.{◌≡◌, refl}
use mathlib.Core.Bool.{Bool, true, false, cond}
use mathlib.Core.List.{List, [], ◌∷◌}
use native.Mathlib.Omega.{arith}
use lib.Dec.{ltb, eqb}
use lib.ListN.{length}
use borrow.Author.Tests.{ltb-true}
use Rattle.reader.specs.Bytes.{same, is_blank}
use Rattle.reader.proofs.Tests.{by_cases}
use Rattle.words.specs.Words.{skip, blanks, word_of, word_length, after_word}
use Rattle.hex_data.proofs.HexPlace.{byte_first_bad}
use Rattle.language.specs.Script.{Meaning}
use Rattle.language.specs.Column.{faultless, in_word, marked_taken, encode_taken, log_taken, Behind, behind_blanks, taken_by, named_taken, waits_behind, names_behind, line_taken}
use Rattle.language.proofs.RestPlace.{blanks_bad}
use Rattle.language.proofs.DataPlace.{hex_bad, log_bad}

-- no more is taken than there is
abbrev Inside : (List ℕ → ℕ) → Type 0
Inside taken = (l : List ℕ) → taken l ≤ length l

-- ---- blanks and words

blanks_skip : (l : List ℕ) → blanks l + length (skip l) ≡ length l
unfolding blanks skip
blanks_skip [] = refl
blanks_skip (b ∷ l) =
    let h = blanks_skip l in
    go (is_blank b) h
  where
    go : (t : Bool) → blanks l + length (skip l) ≡ length l → cond t (suc (blanks l)) 0 + length (cond t (skip l) (b ∷ l)) ≡ suc (length l)
    go true h = omega arith
    go false h = omega arith

word_after : (l : List ℕ) → word_length l + length (after_word l) ≡ length l
unfolding word_length after_word
word_after [] = refl
word_after (b ∷ l) = go (is_blank b) (word_after l)
  where
    go : (t : Bool) → word_length l + length (after_word l) ≡ length l → cond t 0 (suc (word_length l)) + length (cond t (b ∷ l) (after_word l)) ≡ suc (length l)
    go true h = omega arith
    go false h = omega arith

behind_inside : (taken : List ℕ → ℕ) → Inside taken → Inside (behind_blanks taken)
unfolding behind_blanks
behind_inside taken h l = omega (arith, blanks_skip l, h (skip l))

-- whatever is taken of the word
word_inside : (reader : List ℕ → Meaning) (taken : List ℕ → ℕ) → Inside (in_word reader taken)
unfolding in_word
word_inside reader taken l =
    let w : word_length l + length (after_word l) ≡ length l = word_after l in
    let k : blanks (after_word l) ≤ length (after_word l) = (blanks_bad (after_word l)).inside in
    by_cases (λ n. n ≤ length l) (ltb (taken (word_of l)) (word_length l)) _ _ (λ e. omega (arith, ltb-true (taken (word_of l)) (word_length l) e))
    (λ e. by_cases (λ n. n ≤ length l) (faultless (reader (word_of l))) _ _ (λ e₁. omega arith) (λ e₁. omega arith))

-- ---- data and text

marked_inside : Inside marked_taken
unfolding marked_taken
marked_inside [] = omega arith
marked_inside (b ∷ l) =
    let h = (hex_bad l).inside in
    by_cases (λ n. n ≤ suc (length l)) (eqb b 47) _ _ (λ e. omega arith)
    (λ e. by_cases (λ n. n ≤ suc (length l)) (eqb b 58) _ 0 (λ e₁. omega arith) (λ e₁. omega arith))

encode_inside : Inside encode_taken
unfolding encode_taken
encode_inside [] = omega arith
encode_inside (b ∷ l) =
    let h = (byte_first_bad l).inside in
    by_cases (λ n. n ≤ suc (length l)) (eqb b 58) _ _ (λ e. omega arith) (λ e. omega arith)

log_inside : Inside log_taken
log_inside l = (log_bad l).inside

-- ---- names

data AllInside : List Behind → Type 0 where
  none : AllInside []
  also : {n : Behind} {ns : List Behind} → Inside n.taken → AllInside ns → AllInside (n ∷ ns)

by_inside : (ns : List Behind) → AllInside ns → (w rest : List ℕ) → taken_by ns w rest ≤ length rest
unfolding taken_by
by_inside [] none w rest = (blanks_bad rest).inside
by_inside (n ∷ ns) (also h a) w rest = by_cases (λ k. k ≤ length rest) (same n.word w) _ _ (λ e. h rest) (λ e. by_inside ns a w rest)

named_inside : (ns : List Behind) → AllInside ns → Inside (named_taken ns)
unfolding named_taken
named_inside ns a l = omega (arith, word_after l, by_inside ns a (word_of l) (after_word l))

waits_inside : AllInside waits_behind
unfolding waits_behind
waits_inside =
    also (behind_inside _ (word_inside _ _))
    (also (behind_inside _ marked_inside) (also (behind_inside _ (word_inside _ _)) (also (behind_inside _ (word_inside _ _)) none)))

names_inside : AllInside names_behind
unfolding names_behind
names_inside =
    also (behind_inside _ (word_inside _ _))
    (also (behind_inside _ (named_inside waits_behind waits_inside))
    (also (behind_inside _ (word_inside _ _))
    (also log_inside
    (also (behind_inside _ encode_inside)
    (also (behind_inside _ (word_inside _ _))
    (also (behind_inside _ (word_inside _ _))
    (also (behind_inside _ (word_inside _ _))
    (also (behind_inside _ (word_inside _ _))
    (also (behind_inside _ marked_inside) (also (behind_inside _ (word_inside _ _)) none))))))))))

-- ---- the line

pub line_inside : (l : List ℕ) → line_taken l ≤ length l
unfolding line_taken
line_inside [] = omega arith
line_inside (b ∷ l) =
    let h = (hex_bad l).inside in
    by_cases (λ n. n ≤ suc (length l)) (eqb b 58) _ _ (λ e. omega arith) (λ e. named_inside names_behind names_inside (b ∷ l))
