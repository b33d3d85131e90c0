-- Parts of a slice and the places at which they are cut. Assumes nothing.
use Prim.Native.Nat.{ℕ, suc, ◌+◌, ◌-◌, ◌≤◌, ◌<◌}
use mathlib.Core.Path.{◌≡◌, refl, sym, ap, ◌∙◌}
use mathlib.Core.Bool.{Bool, true, false, cond, ◌&&◌}
use mathlib.Core.List.{List, [], ◌∷◌}
use native.Mathlib.Omega.{arith}
use lib.Dec.{eqb, eqb-zero-suc, eqb-suc-suc}
use lib.ListN.{length, take, drop, get_or, length-drop, drop_of_length-le}
use lib.Seq.{take_all, length-take-le, drop-cons}
use native.Mathlib.Numerals.{add-one}
use borrow.Author.Tests.{eq-eqb, ne_eqb}
use Rattle.reader.specs.Bytes.{is_blank, all, same}
use Rattle.words.specs.Words.{skip, blanks, argument, word_of, after_word, after_blanks, word_end, trimmed_end}
use Rattle.words.proofs.Places.{blanks_drop, blanks_within, word_drop, word_take, word_within, trim_take, trimmed_within}

-- the part from a place to the end
pub to_end : (s : List ℕ) (n : ℕ) → take (length s - n) (drop n s) ≡ drop n s
to_end s n = take_all (length s - n) (drop n s) (simp length-drop (omega arith))

-- ---- a name that is the whole word

pub longer : (w name : List ℕ) → (length w ≡ length name → ⊥) → false ≡ same w name
unfolding same
longer [] [] h = absurd (h refl)
longer [] (c ∷ l) h = refl
longer (b ∷ w) [] h = refl
longer (b ∷ w) (c ∷ l) h = go (eqb b c) (longer w l (λ e. h (ap suc e)))
  where
    go : (t : Bool) → false ≡ same w l → false ≡ (t && same w l)
    go true e = e
    go false e = refl

-- the state of the loop: the bytes before `i` are the same
pub record Alike (w name : List ℕ) (i : ℕ) : Type 0 where
  pub whole : same w name ≡ same (drop i w) (drop i name)

module _ {w name : List ℕ} {i : ℕ} (long : length w ≡ length name) (a : Alike w name i) where
  module _ (more : i < length name) where
    pub differs : (get_or w i 0 ≡ get_or name i 0 → ⊥) → false ≡ same w name
    unfolding same
    differs h =
        let k : i < length w = omega (arith, long) in
        sym (a.whole ∙ rw (drop-cons w i 0 k, drop-cons name i 0 more, ne_eqb _ _ h))

    pub agrees : get_or w i 0 ≡ get_or name i 0 → Alike w name (i + 1)
    unfolding same
    agrees h =
        let k : i < length w = omega (arith, long) in
        record { whole = rw (add-one i) (a.whole ∙ rw (drop-cons w i 0 k, drop-cons name i 0 more, eq-eqb _ _ h)) }

  pub compared : length name ≤ i → true ≡ same w name
  unfolding same
  compared h =
      let k : length w ≤ i = omega (arith, long) in
      sym (a.whole ∙ rw (drop_of_length-le w k, drop_of_length-le name h))

-- ---- nothing but blanks

counted_blank : (l : List ℕ) → eqb (blanks l) (length l) ≡ all is_blank l
unfolding blanks
counted_blank [] = refl
counted_blank (b ∷ l) = go (is_blank b) (counted_blank l)
  where
    go : (t : Bool) → eqb (blanks l) (length l) ≡ all is_blank l → eqb (cond t (suc (blanks l)) 0) (suc (length l)) ≡ (t && all is_blank l)
    go true e = eqb-suc-suc (blanks l) (length l) ∙ e
    go false e = eqb-zero-suc (length l)

pub all_blank : (l : List ℕ) → eqb (after_blanks l 0) (length l) ≡ all is_blank l
unfolding after_blanks
all_blank l =
    let e : 0 + blanks l ≡ blanks l = omega arith in
    rw e (counted_blank l)

-- ---- after the blanks at the front: `from` is the place that the code has found

module _ (s : List ℕ) {from : ℕ} (told : from ≡ after_blanks s 0) where
  pub from_within : from ≤ length s
  from_within = omega (arith, told, (blanks_within s 0).to (omega arith))

  pub skipped : take (length s - from) (drop from s) ≡ skip s
  skipped = to_end s from ∙ ap (λ (n : ℕ). drop n s) told ∙ blanks_drop s 0

  -- and before those at the end
  pub argument_is : {end : ℕ} → end ≡ trimmed_end (take (length s - from) (drop from s))
      → take end (take (length s - from) (drop from s)) ≡ argument s
  unfolding argument
  argument_is e = rw (e, skipped) (trim_take (skip s))

pub end_within : (tail : List ℕ) {end : ℕ} → end ≡ trimmed_end tail → end ≡ length (take end tail)
end_within tail {end} e = sym (length-take-le end tail (omega (arith, e, trimmed_within tail)))

-- ---- the first word and what follows it: `end` is the place that the code has found

module _ (s : List ℕ) {end : ℕ} (told : end ≡ word_end s 0) where
  pub word_inside : end ≤ length s
  word_inside = omega (arith, told, (word_within s 0).to (omega arith))

  pub word_length_lem : end ≡ length (take end s)
  word_length_lem = sym (length-take-le end s word_inside)

  pub first_word : take end s ≡ word_of s
  first_word =
      let e : word_end s 0 - 0 ≡ word_end s 0 = omega arith in
      ap (λ (n : ℕ). take n s) (told ∙ sym e) ∙ word_take s 0

  pub behind_word : take (length s - end) (drop end s) ≡ after_word s
  behind_word = to_end s end ∙ ap (λ (n : ℕ). drop n s) told ∙ word_drop s 0
