-- Names, and what follows them at a place of the line. Assumes nothing.
use Prim.Native.Nat.{ℕ, zero, suc, ◌+◌, ◌-◌}
use mathlib.Core.Path.{◌≡◌, refl, sym, ap, ◌∙◌}
use mathlib.Core.Bool.{Bool, true, false}
use mathlib.Core.List.{List, [], ◌∷◌}
use native.Mathlib.Omega.{arith}
use lib.ListN.{take, drop}
use Rattle.reader.specs.Bytes.{same}
use Rattle.reader.proofs.Same.{same_is, flipped}
use Rattle.words.specs.Words.{word_of, after_word, after_blanks, word_end, is_named}
use Rattle.words.proofs.Places.{word_drop, word_take}
use Rattle.language.specs.Column.{Behind, taken_by, named_taken}
use Rattle.line_column.specs.Inside.Behind.{taken_to}

-- ---- a name that a word is not

-- the word is none of these names
abbrev pub Other : List Behind → List ℕ → Type 0
Other [] w = Unit {0}
Other (n ∷ ns) w = (same w n.word ≡ false) × Other ns w

passed : (k : ℕ) (ns : List Behind) (w rest : List ℕ) → Other (take k ns) w → taken_by (drop k ns) w rest ≡ taken_by ns w rest
unfolding taken_by
passed zero ns w rest h = refl
passed (suc k) [] w rest h = refl
passed (suc k) (n ∷ ns) w rest h = rw (flipped w n.word false h.0) (passed k ns w rest h.1)

-- ---- at a place

abbrev pub part : List ℕ → ℕ → ℕ → List ℕ
part s from to = take (to - from) (drop from s)

module _ (s : List ℕ) (from to : ℕ) where
  -- `t` is what the code has been told of a name
  pub it_is : (ns : List Behind) (name : List ℕ) {t : Bool} → t ≡ is_named s from to name → t ≡ true
      → to + taken_by ns name (drop to s) ≡ taken_to ns s from to
  unfolding taken_to is_named
  it_is ns name p e = ap (λ (w : List ℕ). to + taken_by ns w (drop to s)) (sym (same_is (part s from to) name (sym p ∙ e)))

  pub not_named : (name : List ℕ) {t : Bool} → t ≡ is_named s from to name → t ≡ false → same (part s from to) name ≡ false
  unfolding is_named
  not_named name p e = sym p ∙ e

  pub past : (k : ℕ) (ns : List Behind) → Other (take k ns) (part s from to) → taken_to (drop k ns) s from to ≡ taken_to ns s from to
  unfolding taken_to
  past k ns h = ap (λ (n : ℕ). to + n) (passed k ns (part s from to) (drop to s) h)

  pub no_name : after_blanks s to ≡ taken_to [] s from to
  unfolding taken_to taken_by after_blanks
  no_name = refl

-- `to` is the place behind the name that the code has found
pub named_to : (ns : List Behind) (s : List ℕ) (from : ℕ) {to : ℕ} → to ≡ word_end s from → taken_to ns s from to ≡ from + named_taken ns (drop from s)
unfolding taken_to named_taken word_end
named_to ns s from {to} told =
    let l : List ℕ = drop from s in
    let e : taken_by ns (part s from to) (drop to s) ≡ taken_by ns (word_of l) (after_word l) = rw (told, word_take s from, word_drop s from) in
    omega (arith, told, e)
