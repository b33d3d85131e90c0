-- A clock value is read back. Assumes nothing.
use Prim.Native.Nat.{ℕ, suc, ◌+◌, ◌*◌, ◌≤◌, ◌<◌}
use mathlib.Core.Path.{◌≡◌, refl, sym, ap}
use mathlib.Core.Bool.{true}
use mathlib.Core.List.{List, [], ◌∷◌}
use native.Mathlib.Omega.{arith}
use lib.Dec.{leb}
use lib.ListN.{length}
use borrow.Author.Tests.{leb-true}
use Rattle.reader.specs.Bytes.{same}
use Rattle.hex_data.specs.Hex.{good, byte_before}
use Rattle.writer.specs.Put.{two_digits}
use Rattle.reader.proofs.Tests.{both_left, both_right, true_is_false, Every}
use Rattle.reader.proofs.Solid.{Shown, Solid}
use Rattle.writer.proofs.Back.{pair_back}
use Rattle.language.specs.Clock.{Range, within, value_before, fill, from, clock_of, in_twos, clock_letter, clock_text, second_on, minute_on, hour_on, day_on}
use Rattle.language.specs.Right.{in_ranges, clock_right}

-- units that two digits can write, and their values
abbrev Low : List Range → Type 0
Low [] = Unit {0}
Low (r ∷ rs) = (r.high < 100) × Low rs

abbrev Short : List ℕ → Type 0
Short vs = Every (λ v. v < 100) vs

module _ (r : Range) (v : ℕ) (h : within r v ≡ true) where
  from_low : r.low ≤ v
  unfolding within
  from_low = leb-true r.low v (both_left (leb r.low v) (leb v r.high) h)

  to_high : v ≤ r.high
  unfolding within
  to_high = leb-true v r.high (both_right (leb r.low v) (leb v r.high) h)

short : (rs : List Range) (vs : List ℕ) → Low rs → in_ranges rs vs ≡ true → Short vs
unfolding in_ranges
short [] [] l h = tt
short [] (v ∷ vs) l h = true_is_false (sym h)
short (r ∷ rs) [] l h = tt
short (r ∷ rs) (v ∷ vs) l h =
    let w = to_high r v (both_left (within r v) (in_ranges rs vs) h) in
    (omega (arith, l.0), short rs vs l.1 (both_right (within r v) (in_ranges rs vs) h))

-- there are as many values as ranges
pub in_length : (rs : List Range) (vs : List ℕ) → in_ranges rs vs ≡ true → length vs ≡ length rs
unfolding in_ranges
in_length [] [] h = refl
in_length [] (v ∷ vs) h = true_is_false (sym h)
in_length (r ∷ rs) [] h = true_is_false (sym h)
in_length (r ∷ rs) (v ∷ vs) h = ap suc (in_length rs vs (both_right (within r v) (in_ranges rs vs) h))

-- values in their ranges are what fills the ranges
fill_back : (rs : List Range) (vs : List ℕ) → Low rs → in_ranges rs vs ≡ true → (at : ℕ) → fill rs (in_twos vs) at ≡ good vs
unfolding in_ranges fill in_twos two_digits same value_before byte_before
fill_back [] [] l h at = refl
fill_back [] (v ∷ vs) l h at = cc
fill_back (r ∷ rs) [] l h at = cc
fill_back (r ∷ rs) (v ∷ vs) l h at =
    let w : within r v ≡ true = both_left (within r v) (in_ranges rs vs) h in
    let few : v < 100 = omega (arith, l.0, to_high r v w) in
    rw (pair_back r.low r.high v (in_twos vs) at few (from_low r v w) (to_high r v w), fill_back rs vs l.1 (both_right (within r v) (in_ranges rs vs) h) (at + 2))

-- the pairs of digits that follow the letter of the first unit `r`
from_back : (r : Range) (rs : List Range) (v : ℕ) (vs : List ℕ) → Low (r ∷ rs) → in_ranges (r ∷ rs) (v ∷ vs) ≡ true
    → from (r ∷ rs) (in_twos (v ∷ vs)) 1 ≡ good (v ∷ vs)
unfolding from in_twos two_digits
from_back r rs v vs l h = fill_back (r ∷ rs) (v ∷ vs) l h 1

pub clock_back : (vs : List ℕ) → clock_right vs ≡ true → clock_of (clock_text vs) ≡ good vs
unfolding clock_right clock_of clock_text clock_letter
clock_back [] h = unfold from fill same in_twos in refl
clock_back (s ∷ []) h = from_back _ _ s [] (omega arith) h
clock_back (m ∷ s ∷ []) h = from_back _ _ m (s ∷ []) (omega arith) h
clock_back (o ∷ m ∷ s ∷ []) h = from_back _ _ o (m ∷ s ∷ []) (omega arith) h
clock_back (d ∷ o ∷ m ∷ s ∷ more) h = from_back _ _ d (o ∷ m ∷ s ∷ more) (omega arith) h

-- ---- the text of a clock value

twos_solid : (vs : List ℕ) → Short vs → Solid (in_twos vs)
unfolding in_twos two_digits
twos_solid [] h = tt
twos_solid (v ∷ vs) h = let l : v < 100 = h.0 in (omega arith, (omega arith, twos_solid vs h.1))

twos_length : (vs : List ℕ) → length (in_twos vs) ≡ length vs * 2
unfolding in_twos two_digits
twos_length [] = refl
twos_length (v ∷ vs) = omega (arith, twos_length vs)

clock_short : (vs : List ℕ) → clock_right vs ≡ true → Short vs
unfolding clock_right
clock_short [] h = tt
clock_short (s ∷ []) h = short second_on (s ∷ []) (omega arith) h
clock_short (m ∷ s ∷ []) h = short minute_on (m ∷ s ∷ []) (omega arith) h
clock_short (o ∷ m ∷ s ∷ []) h = short hour_on (o ∷ m ∷ s ∷ []) (omega arith) h
clock_short (d ∷ o ∷ m ∷ s ∷ more) h = short day_on (d ∷ o ∷ m ∷ s ∷ more) (omega arith) h

pub clock_few : (vs : List ℕ) → clock_right vs ≡ true → length vs ≤ 4
unfolding clock_right
clock_few [] h = omega arith
clock_few (s ∷ []) h = omega arith
clock_few (m ∷ s ∷ []) h = omega arith
clock_few (o ∷ m ∷ s ∷ []) h = omega arith
clock_few (d ∷ o ∷ m ∷ s ∷ more) h = omega (arith, in_length day_on (d ∷ o ∷ m ∷ s ∷ more) h)

pub clock_length : (vs : List ℕ) → clock_right vs ≡ true → length (clock_text vs) ≤ 9
unfolding clock_text
clock_length vs h = omega (arith, twos_length vs, clock_few vs h)

letter_solid : (vs : List ℕ) → Shown (clock_letter vs)
unfolding clock_letter
letter_solid [] = omega arith
letter_solid (s ∷ []) = omega arith
letter_solid (m ∷ s ∷ []) = omega arith
letter_solid (o ∷ m ∷ s ∷ []) = omega arith
letter_solid (d ∷ o ∷ m ∷ s ∷ more) = omega arith

pub clock_solid : (vs : List ℕ) → clock_right vs ≡ true → Solid (clock_text vs)
unfolding clock_text
clock_solid vs h = (letter_solid vs, twos_solid vs (clock_short vs h))
