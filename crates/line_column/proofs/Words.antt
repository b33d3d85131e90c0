-- An argument of one word at a place of the line: where it stands, and what each way on has found of it. Assumes nothing.
use Prim.Native.Nat.{ℕ, ◌+◌, ◌-◌, ◌≤◌, ◌<◌}
use mathlib.Core.Path.{◌≡◌, sym, ap, ◌∙◌}
use mathlib.Core.Bool.{Bool, true, false}
use mathlib.Core.List.{List}
use native.Mathlib.Omega.{arith}
use lib.ListN.{length, take, drop}
use borrow.Author.Tests.{lt-ltb, le-ltb}
use Rattle.words.specs.Words.{skip, blanks, word_of, word_length, after_word, after_blanks, word_end}
use Rattle.words.proofs.Places.{blanks_drop, blanks_within, word_drop, word_take, word_within}
use Rattle.language.specs.Script.{Meaning}
use Rattle.language.specs.Column.{faultless, in_word, behind_blanks}

-- `from` is the place behind the blanks that the code has found
module _ (s : List ℕ) (at : ℕ) {from : ℕ} (told : from ≡ after_blanks s at) where
  pub from_within : at ≤ length s → from ≤ length s
  from_within h = let w = (blanks_within s at).to h in omega arith

  pub behind_blanks_lem : (taken : List ℕ → ℕ) → from + taken (drop from s) ≡ at + behind_blanks taken (drop at s)
  unfolding behind_blanks after_blanks
  behind_blanks_lem taken =
      let e : drop from s ≡ skip (drop at s) = ap (λ (n : ℕ). drop n s) told ∙ blanks_drop s at in
      omega (arith, told, ap taken e)

-- `end` is the place behind the word that the code has found
module _ (s : List ℕ) (from : ℕ) {end : ℕ} (told : end ≡ word_end s from) where
  pub end_behind : from ≤ end
  end_behind = let w = (word_within s from).from in omega arith

  pub end_within : from ≤ length s → end ≤ length s
  end_within h = let w = (word_within s from).to h in omega arith

  word_is : take (end - from) (drop from s) ≡ word_of (drop from s)
  word_is = rw told (word_take s from)

  long : end ≡ from + word_length (drop from s)
  unfolding word_end
  long = told

  -- `count` is what the code has been told of the word
  module _ (reader : List ℕ → Meaning) (taken : List ℕ → ℕ) {count : ℕ} (is : count ≡ taken (take (end - from) (drop from s))) where
    count_is : count ≡ taken (word_of (drop from s))
    count_is = is ∙ ap taken word_is

    pub bad_byte : count < end - from → from + count ≡ from + in_word reader taken (drop from s)
    unfolding in_word
    bad_byte h =
        let few : taken (word_of (drop from s)) < word_length (drop from s) = omega (arith, count_is, long) in
        ap (λ (n : ℕ). from + n) (count_is ∙ rw (lt-ltb _ _ few))

    module _ {t : Bool} (all : end - from ≤ count) (right : t ≡ faultless (reader (take (end - from) (drop from s)))) where
      many : word_length (drop from s) ≤ taken (word_of (drop from s))
      many = omega (arith, count_is, long)

      right_is : t ≡ faultless (reader (word_of (drop from s)))
      right_is = right ∙ ap (λ (w : List ℕ). faultless (reader w)) word_is

      pub not_right : t ≡ false → end ≡ from + in_word reader taken (drop from s)
      unfolding in_word
      not_right e = long ∙ rw (le-ltb _ _ many, sym right_is ∙ e)

      pub next_word : t ≡ true → after_blanks s end ≡ from + in_word reader taken (drop from s)
      unfolding in_word after_blanks
      next_word e =
          let b : blanks (drop end s) ≡ blanks (after_word (drop from s)) = ap blanks (ap (λ (n : ℕ). drop n s) told ∙ word_drop s from) in
          rw (le-ltb _ _ many, sym right_is ∙ e) (omega (arith, long, b))
