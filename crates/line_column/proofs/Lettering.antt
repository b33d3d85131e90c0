-- LFEXT's letters: the state of the loop, and one law for each way on. Assumes nothing.
use Prim.Native.Nat.{ℕ, suc, ◌+◌, ◌-◌, ◌≤◌, ◌<◌}
use mathlib.Core.Path.{◌≡◌, refl, sym, ap, ◌∙◌}
use mathlib.Core.Bool.{Bool, true, false}
use mathlib.Core.List.{List, []}
use native.Mathlib.Numerals.{add-one}
use native.Mathlib.Omega.{arith}
use lib.ListN.{length, drop, get_or, drop_of_length-le}
use lib.Seq.{drop-cons}
use Rattle.std.specs.Char.{to_ascii_uppercase}
use Rattle.language.specs.Meaning.{is_capital, raised}
use Rattle.line_values.proofs.Extension.{raised_is}
use Rattle.language.specs.Column.{letters_taken}

-- what is counted of the whole is what is passed and what is counted from `i` on
pub record Lettering (most : ℕ) (w : List ℕ) (i : ℕ) : Type 0 where
  pub whole : letters_taken most w ≡ i + letters_taken (most - i) (drop i w)

pub begun : {most : ℕ} {w : List ℕ} → Lettering most w 0
begun {most} {w} =
    let e : most - 0 ≡ most = omega arith in
    let z : 0 + letters_taken most w ≡ letters_taken most w = omega arith in
    record { whole = sym (rw e z) }

none : (most : ℕ) → letters_taken most [] ≡ 0
unfolding letters_taken
none most = refl

module _ {most : ℕ} {w : List ℕ} {i : ℕ} (k : Lettering most w i) where
  pub word_ended : length w ≤ i → i ≡ letters_taken most w
  word_ended h = omega (arith, k.whole, ap (letters_taken (most - i)) (drop_of_length-le w h) ∙ none (most - i))

  module _ (inside : i < length w) where
    pub enough : most ≤ i → i ≡ letters_taken most w
    unfolding letters_taken
    enough h =
        let z : most - i ≡ 0 = omega arith in
        let e : letters_taken (most - i) (drop i w) ≡ 0 = rw (drop-cons w i 0, z) in
        omega (arith, k.whole)

    -- `x` is what the code has made of the byte, `t` what it has been told of that
    module _ {x : ℕ} {t : Bool} (few : i < most) (made : x ≡ to_ascii_uppercase (get_or w i 0)) (told : t ≡ is_capital x) where
      one_more : most - i ≡ suc (most - (i + 1))
      one_more = omega arith

      told_is : is_capital (raised (get_or w i 0)) ≡ t
      told_is = ap is_capital (sym (made ∙ raised_is (get_or w i 0))) ∙ sym told

      pub no_letter : t ≡ false → i ≡ letters_taken most w
      unfolding letters_taken
      no_letter f =
          let e : letters_taken (most - i) (drop i w) ≡ 0 = rw (drop-cons w i 0, one_more) (simp (told_is ∙ f)) in
          omega (arith, k.whole)

      pub letter : t ≡ true → Lettering most w (i + 1)
      unfolding letters_taken
      letter f =
          let e : letters_taken (most - i) (drop i w) ≡ suc (letters_taken (most - (i + 1)) (drop (suc i) w)) = rw (drop-cons w i 0, one_more) (simp (told_is ∙ f)) in
          let d : drop (suc i) w ≡ drop (i + 1) w = rw (add-one i) in
          record { whole = omega (arith, k.whole, ap (letters_taken (most - (i + 1))) d) }
