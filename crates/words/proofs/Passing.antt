-- The loops over words: the state of each as a record, and one law for each way on. Assumes nothing.
use Prim.Native.Nat.{ℕ, suc, ◌+◌, ◌-◌, ◌≤◌, ◌<◌}
use mathlib.Core.Path.{◌≡◌, refl, sym, ap, ◌∙◌}
use mathlib.Core.Bool.{Bool, true, false, cond, not, ◌&&◌}
use Rattle.std.specs.Prelude.{take_while}
use Rattle.std.specs.List.{prefix_len}
use Rattle.std.proofs.Common.{one-add, reverse, min}
use Rattle.std.proofs.lemmas.Grind.{reverse_onto}
use Rattle.std.proofs.lemmas.List.{reverse-reverse, length-reverse}
use mathlib.Core.List.{List, [], ◌∷◌, ◌++◌}
use native.Mathlib.Omega.{arith}
use lib.Dec.{eqb}
use lib.ListN.{length, take, drop, drop_of_length-le, length-drop, length-append, length-take}
use lib.Seq.{take-nil, take_all}
use borrow.Author.Tests.{ne_eqb}
use lib.Pointwise.{pointwise}
use native.Mathlib.Decide.{dec_le}
use Rattle.reader.specs.Bytes.{is_blank, same}
use Rattle.words.specs.Words.{blanks, word_length, after_blanks, word_end, before_end, trim_end, trimmed_end, is_named}

-- ---- what is counted off the front, up to the first byte that does not pass

pub blanks_taken : (l : List ℕ) → length (take_while is_blank l) ≡ blanks l
unfolding blanks
blanks_taken [] = refl
blanks_taken (b ∷ l) = go (is_blank b) (blanks_taken l)
  where
    go : (t : Bool) → length (take_while is_blank l) ≡ blanks l → length (take (cond t (1 + prefix_len is_blank l) 0) (b ∷ l)) ≡ cond t (suc (blanks l)) 0
    go true e = rw one-add (ap suc e)
    go false e = refl

pub word_taken : (l : List ℕ) → length (take_while (λ b. not (is_blank b)) l) ≡ word_length l
unfolding word_length
word_taken [] = refl
word_taken (b ∷ l) = go (is_blank b) (word_taken l)
  where
    go : (t : Bool) → length (take_while (λ c. not (is_blank c)) l) ≡ word_length l
        → length (take (cond (not t) (1 + prefix_len (λ c. not (is_blank c)) l) 0) (b ∷ l)) ≡ cond t 0 (suc (word_length l))
    go true e = refl
    go false e = rw one-add (ap suc e)

-- no more is counted than there is
pub counted_few : (p : ℕ → Bool) (l : List ℕ) → length (take_while p l) ≤ length l
counted_few p l = omega (arith, length-take (prefix_len p l) l)

-- at a place: `l` is the bytes from there on, and `n` what the code has counted off them
module _ (s : List ℕ) (at : ℕ) {l : List ℕ} {n : ℕ} (rest : l ≡ drop at s) where
  pub blanks_at : n ≡ length (take_while is_blank l) → at + n ≡ after_blanks s at
  unfolding after_blanks
  blanks_at e = ap (λ (k : ℕ). at + k) (e ∙ blanks_taken l ∙ ap blanks rest)

  pub word_at : n ≡ length (take_while (λ b. not (is_blank b)) l) → at + n ≡ word_end s at
  unfolding word_end
  word_at e = ap (λ (k : ℕ). at + k) (e ∙ word_taken l ∙ ap word_length rest)

-- ---- blanks at the end

before_last : (x b : ℕ) (l : List ℕ) → before_end x (l ++ b ∷ []) ≡ x ∷ l ++ b ∷ []
unfolding before_end
before_last x b [] = refl
before_last x b (y ∷ l) = refl

trim_last : (l : List ℕ) (b : ℕ) → is_blank b ≡ true → trim_end (l ++ b ∷ []) ≡ trim_end l
unfolding trim_end before_end
trim_last [] b e = rw e
trim_last (x ∷ l) b e = rw (trim_last l b e)

keep_last : (l : List ℕ) (b : ℕ) → is_blank b ≡ false → trim_end (l ++ b ∷ []) ≡ l ++ b ∷ []
unfolding trim_end
keep_last [] b e = unfold before_end in rw e
keep_last (x ∷ l) b e = rw (keep_last l b e) (before_last x b l)

-- the bytes read from the end: what is kept, and the blanks
from_end : (r : List ℕ) → length (trim_end (reverse r)) + blanks r ≡ length r
unfolding blanks trim_end
from_end [] = refl
from_end (b ∷ r) = rw (reverse_onto r b []) (go (is_blank b) refl (from_end r))
  where
    go : (t : Bool) → is_blank b ≡ t → length (trim_end (reverse r)) + blanks r ≡ length r
        → length (trim_end (reverse r ++ b ∷ [])) + cond t (suc (blanks r)) 0 ≡ suc (length r)
    go true e h = rw (trim_last (reverse r) b e) (omega (arith, h))
    go false e h = rw (keep_last (reverse r) b e) (omega (arith, length-append (reverse r) (b ∷ []), length-reverse r))

pub blanks_last : (s : List ℕ) → trimmed_end s + blanks (reverse s) ≡ length s
unfolding trimmed_end
blanks_last s =
    let e : length (trim_end (reverse (reverse s))) ≡ length (trim_end s) = ap (λ (l : List ℕ). length (trim_end l)) (reverse-reverse s) in
    omega (arith, e, from_end (reverse s), length-reverse s)

-- ---- a name

-- two slices are held against each other as `same` does
pub held_same : (a b : List ℕ) → pointwise eqb a b ≡ same a b
unfolding same
held_same [] [] = refl
held_same [] (c ∷ w) = refl
held_same (b ∷ l) [] = refl
held_same (b ∷ l) (c ∷ w) = ap (λ (t : Bool). eqb b c && t) (held_same l w)

-- no bytes are the name of no bytes
no_name : (name : List ℕ) → eqb (length name) 0 ≡ same [] name
unfolding same
no_name [] = refl
no_name (c ∷ name) = let p : suc (length name) ≡ 0 → ⊥ = omega arith in ne_eqb _ _ p

module _ (s : List ℕ) (from to : ℕ) (name : List ℕ) {end : ℕ} (is : end ≡ min to (length s)) where
  -- the bytes as far as there are any
  pub to_the_end : take (end - from) (drop from s) ≡ take (to - from) (drop from s)
  to_the_end = go (dec_le to (length s))
    where
      all_of : (n : ℕ) → length s - from ≤ n → take n (drop from s) ≡ drop from s
      all_of n k = take_all n (drop from s) (simp length-drop (omega arith))

      go : Dec (to ≤ length s) → take (end - from) (drop from s) ≡ take (to - from) (drop from s)
      go (yes h) = let e : end ≡ to = omega arith in rw e
      go (no p) = all_of (end - from) (omega arith) ∙ sym (all_of (to - from) (omega arith))

  pub nothing_there : end < from → eqb (length name) 0 ≡ is_named s from to name
  unfolding is_named
  nothing_there h = go (dec_le to from)
    where
      go : Dec (to ≤ from) → eqb (length name) 0 ≡ same (take (to - from) (drop from s)) name
      go (yes k) = let e : to - from ≡ 0 = omega arith in no_name name ∙ rw e
      go (no p) =
          let o : length s ≤ from = omega arith in
          no_name name ∙ rw (drop_of_length-le s o, take-nil {A = ℕ} (to - from))
