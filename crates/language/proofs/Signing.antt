-- LOG's signs: whether those of the whole are right is whether those from a place on are, and what one byte more makes of it.
-- Assumes nothing.
use Prim.Native.Nat.{ℕ, ◌+◌, ◌≤◌, ◌<◌}
use mathlib.Core.Path.{◌≡◌, sym, ◌∙◌}
use mathlib.Core.Bool.{Bool, true, false, not}
use mathlib.Core.List.{List}
use native.Mathlib.Numerals.{add-one}
use lib.Dec.{eqb}
use lib.ListN.{length, drop, get_or, drop_of_length-le}
use lib.Seq.{drop-cons}
use Rattle.language.specs.Meaning.{is_sign, signs}

-- `m` is whether `@` stands before the place
abbrev pub Signing : List ℕ → ℕ → Bool → Type 0
Signing text i m = signs text false ≡ signs (drop i text) m

pub none_left : (text : List ℕ) {i : ℕ} (m : Bool) → length text ≤ i → Signing text i m → not m ≡ signs text false
unfolding signs
none_left text m h w = sym (w ∙ rw (drop_of_length-le text h))

module _ (text : List ℕ) {i : ℕ} (m : Bool) (h : i < length text) (w : Signing text i m) where
  pub unmarked : {n : Bool} → m ≡ false → n ≡ eqb (get_or text i 0) 64 → Signing text (i + 1) n
  unfolding signs
  unmarked e n = w ∙ rw (e, n, add-one i, drop-cons text i 0)

  pub good_sign : {n : Bool} → m ≡ true → is_sign (get_or text i 0) ≡ true → n ≡ false → Signing text (i + 1) n
  unfolding signs
  good_sign e s n = w ∙ rw (e, n, add-one i, drop-cons text i 0, s)

  pub bad_sign : m ≡ true → is_sign (get_or text i 0) ≡ false → false ≡ signs text false
  unfolding signs
  bad_sign e s = sym (w ∙ rw (e, drop-cons text i 0, s))
