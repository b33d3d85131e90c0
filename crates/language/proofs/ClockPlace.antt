-- THE FIRST BYTE THAT A CLOCK VALUE CANNOT TAKE. With it no ending makes a clock value; what stands before it can be ended. No clock value
-- holds a space or a tab. Assumes nothing.
use Rattle.std.specs.Prelude.{Ok, Err}
use Prim.Native.Nat.{ℕ, suc, ◌+◌, ◌*◌, ◌≤◌, ◌<◌}
use mathlib.Core.Path.{◌≡◌, refl, sym, ap, ◌∙◌}
use mathlib.Core.Bool.{Bool, true, false, ◌&&◌}
use mathlib.Core.List.{List, [], ◌∷◌, ◌++◌}
use native.Mathlib.Omega.{arith}
use lib.Dec.{ltb, leb, eqb}
use lib.ListN.{length, take, drop}
use Rattle.reader.specs.Bytes.{digit_of, is_blank, same}
use Rattle.reader.specs.FirstBad.{CanEnd, FirstBad}
use Rattle.reader.proofs.Tests.{by_cases, true_is_false}
use Rattle.reader.proofs.Digits.{of_blank, blank_digit}
use Rattle.reader.proofs.FirstBad.{bad_end, bad_here, bad_next, bad_as, bad_from, told_stays}
use Rattle.numbers.specs.Number.{NumberRead, second_of, pair_of}
use Rattle.numbers.proofs.PairPlace.{Placed, then_right, then_place, pair_then_lem}
use Rattle.hex_data.specs.Hex.{Said, good, bad, byte_before, said_place, is_good}
use Rattle.hex_data.proofs.HexPlace.{before_good}
use Rattle.language.specs.Clock.{Range, value_before, fill, from, clock_of, second_on, minute_on, hour_on, day_on}
use Rattle.language.specs.Column.{clock_taken}

-- a clock value that is read
abbrev pub clock_good : List ℕ → Bool
clock_good a = is_good (clock_of a)

-- ---- what is said, with a value in front

good_place : (end : ℕ) (x : Said) → is_good x ≡ true → said_place end x ≡ end
unfolding said_place
good_place end (good vs) e = refl
good_place end (bad at) e = true_is_false (sym e)

bad_said : (end k : ℕ) (x : Said) → is_good x ≡ false → said_place end x ≡ k → x ≡ bad k
unfolding said_place
bad_said end k (good vs) e p = true_is_false e
bad_said end k (bad at) e p = ap bad p

before_place : (end v : ℕ) (x : Said) → said_place end (byte_before v x) ≡ said_place end x
unfolding byte_before said_place
before_place end v (good vs) = refl
before_place end v (bad at) = refl

value_good : (n : NumberRead) (x : Said) → then_right n (is_good x) ≡ is_good (value_before n x)
unfolding value_before
value_good (Ok n) x = sym (before_good n.value x)
value_good (Err at) x = refl

value_place : (end : ℕ) (n : NumberRead) (x : Said) → said_place end (value_before n x) ≡ then_place n (said_place end x)
unfolding value_before said_place
value_place end (Ok n) x = before_place end n.value x
value_place end (Err at) x = refl

-- ---- the units, from the place `at` on

-- each is written in two digits
abbrev Twos : List Range → Type 0
Twos [] = Unit {0}
Twos (r ∷ rs) = (r.low ≤ r.high) × ((r.high < 100) × Twos rs)

-- all of them may be left out
none_good : (rs : List Range) (at : ℕ) → is_good (fill rs [] at) ≡ true
unfolding fill same
none_good [] at = refl
none_good (r ∷ rs) at = before_good 0 (fill rs [] at) ∙ none_good rs at

ends : (rs : List Range) (at : ℕ) → CanEnd (λ a. is_good (fill rs a at)) []
ends rs at = record { ending = []; holds = refl; makes = none_good rs at }

-- one byte is no pair
lone_place : (low high a at p q : ℕ) → then_place (pair_of low high (a ∷ []) at) p ≡ then_place (pair_of low high (a ∷ []) at) q
unfolding pair_of second_of
lone_place low high a at p q =
    let d : ℕ = digit_of a in
    by_cases (λ n. then_place n p ≡ then_place n q) (ltb d 10 && (leb low (d * 10 + 9) && leb (d * 10) high)) (Err (at + 1)) (Err at) (λ e. refl) (λ e. refl)

-- what the pair at the front tells is what is told of all
front_place : (r : Range) (rs : List Range) (a : ℕ) (l : List ℕ) (at q : ℕ) → said_place (at + 2 + length (drop 1 l)) (fill rs (drop 1 l) (at + 2)) ≡ at + 2 + q
    → said_place (at + suc (length l)) (fill (r ∷ rs) (a ∷ l) at) ≡ then_place (pair_of r.low r.high (a ∷ l) at) (at + suc (suc q))
unfolding fill
front_place r rs a [] at q e = value_place (at + 1) (pair_of r.low r.high (a ∷ []) at) (fill rs [] (at + 2)) ∙ lone_place r.low r.high a at _ _
front_place r rs a (b ∷ l) at q e =
    let n : at + suc (suc (length l)) ≡ at + 2 + length l = omega arith in
    let m : at + 2 + q ≡ at + suc (suc q) = omega arith in
    value_place (at + suc (suc (length l))) (pair_of r.low r.high (a ∷ b ∷ l) at) (fill rs l (at + 2))
    ∙ ap (then_place (pair_of r.low r.high (a ∷ b ∷ l) at)) (rw n (e ∙ m))

fill_told : (rs : List Range) (l : List ℕ) (at : ℕ) → Twos rs → Placed (λ a. is_good (fill rs a at)) l at (said_place (at + length l) (fill rs l at))
unfolding fill same said_place
fill_told [] [] at t = record { place = 0; is = refl; law = bad_end (ends [] at) }
fill_told [] (b ∷ l) at t = record { place = 0; is = omega arith; law = bad_here b l (ends [] at) (λ e. refl) }
fill_told (r ∷ rs) [] at t = record { place = 0; is = good_place (at + 0) (fill (r ∷ rs) [] at) (none_good (r ∷ rs) at); law = bad_end (ends (r ∷ rs) at) }
fill_told (r ∷ rs) (a ∷ l) at t =
    let rest = fill_told rs (drop 1 l) (at + 2) t.1.1 in
    let all = pair_then_lem r.low r.high (λ x. is_good (fill rs x (at + 2))) at t.0 t.1.0 (ends rs (at + 2)) (a ∷ l) rest.law in
    record {
      place = all.place;
      is = front_place r rs a l at rest.place rest.is ∙ all.is;
      law = bad_from a l all.place (ends (r ∷ rs) at) (λ x. value_good (pair_of r.low r.high (a ∷ x) at) (fill rs (drop 1 x) (at + 2))) all.law;
    }

-- ---- the first unit

-- where no digits follow, the unit itself is left out
from_good : (r : Range) (rs : List Range) (at : ℕ) (l : List ℕ) → is_good (fill (r ∷ rs) l at) ≡ is_good (from (r ∷ rs) l at)
unfolding from
from_good r rs at [] = none_good (r ∷ rs) at ∙ sym (none_good rs at)
from_good r rs at (b ∷ l) = refl

from_place : (r : Range) (rs : List Range) (l : List ℕ) (at end : ℕ) → said_place end (from (r ∷ rs) l at) ≡ said_place end (fill (r ∷ rs) l at)
unfolding from
from_place r rs [] at end = good_place end (fill rs [] at) (none_good rs at) ∙ sym (good_place end (fill (r ∷ rs) [] at) (none_good (r ∷ rs) at))
from_place r rs (b ∷ l) at end = refl

from_told : (r : Range) (rs : List Range) (l : List ℕ) (at : ℕ) → Twos (r ∷ rs)
    → Placed (λ a. is_good (from (r ∷ rs) a at)) l at (said_place (at + length l) (from (r ∷ rs) l at))
from_told r rs l at t =
    let all = fill_told (r ∷ rs) l at t in
    record { place = all.place; is = from_place r rs l at (at + length l) ∙ all.is; law = bad_as (from_good r rs at) all.law }

-- ---- the letter

seconds : Twos second_on
seconds = (omega arith, (omega arith, tt))

minutes : Twos minute_on
minutes = (omega arith, (omega arith, seconds))

hours : Twos hour_on
hours = (omega arith, (omega arith, minutes))

days : Twos day_on
days = (omega arith, (omega arith, hours))

-- what a first byte is: the letter of a unit, or, "none is h", the first of the digits
data First (b : ℕ) : Type 0 where
  letter : (r : Range) (rs : List Range) → Twos (r ∷ rs) → ((a : List ℕ) → clock_of (b ∷ a) ≡ from (r ∷ rs) a 1) → First b
  digit : ((a : List ℕ) → clock_of (b ∷ a) ≡ from hour_on (b ∷ a) 0) → First b

first : (b : ℕ) → First b
unfolding clock_of
first b = day (eqb b 68) refl
  where
    second : eqb b 68 ≡ false → eqb b 104 ≡ false → eqb b 109 ≡ false → (t : Bool) → eqb b 115 ≡ t → First b
    second d h m true e = letter _ [] seconds (λ a. rw (d, h, m, e))
    second d h m false e = digit (λ a. rw (d, h, m, e))

    minute : eqb b 68 ≡ false → eqb b 104 ≡ false → (t : Bool) → eqb b 109 ≡ t → First b
    minute d h true e = letter _ second_on minutes (λ a. rw (d, h, e))
    minute d h false e = second d h e (eqb b 115) refl

    hour : eqb b 68 ≡ false → (t : Bool) → eqb b 104 ≡ t → First b
    hour d true e = letter _ minute_on hours (λ a. rw (d, e))
    hour d false e = minute d e (eqb b 109) refl

    day : (t : Bool) → eqb b 68 ≡ t → First b
    day true e = letter _ hour_on days (λ a. rw e)
    day false e = hour e (eqb b 104) refl

clock_ends : CanEnd clock_good []
unfolding clock_of from
clock_ends = record { ending = []; holds = refl; makes = none_good minute_on 0 }

by_first : (b : ℕ) (l : List ℕ) → First b → FirstBad clock_good (b ∷ l) (clock_taken (b ∷ l))
unfolding clock_taken
by_first b l (letter r rs t is) =
    let all = from_told r rs l 1 t in
    let n : suc (length l) ≡ 1 + length l = omega arith in
    let m : 1 + all.place ≡ suc all.place = omega arith in
    let e : said_place (suc (length l)) (from (r ∷ rs) l 1) ≡ suc all.place = rw n (all.is ∙ m) in
    rw (is l, e) (bad_next b l (bad_as (λ a. ap is_good (sym (is a))) all.law))
by_first b l (digit is) =
    let all = from_told _ minute_on (b ∷ l) 0 hours in
    let n : suc (length l) ≡ 0 + suc (length l) = omega arith in
    let m : 0 + all.place ≡ all.place = omega arith in
    let e : said_place (suc (length l)) (from hour_on (b ∷ l) 0) ≡ all.place = rw n (all.is ∙ m) in
    rw (is l, e) (bad_from b l all.place clock_ends (λ a. ap is_good (sym (is a))) all.law)

-- the place that a clock value tells is that of the first byte that it cannot take
pub clock_first_bad : (a : List ℕ) → FirstBad clock_good a (clock_taken a)
unfolding clock_taken clock_of from
clock_first_bad [] = rw (good_place 0 (fill minute_on [] 0) (none_good minute_on 0)) (bad_end clock_ends)
clock_first_bad (b ∷ l) = by_first b l (first b)

-- a refusal at a byte stays there with every ending
pub clock_stays : (a : List ℕ) (k : ℕ) → clock_of a ≡ bad k → k < length a → (e : List ℕ) → clock_of (take (suc k) a ++ e) ≡ bad k
unfolding clock_taken said_place
clock_stays a k is h e =
    let p : clock_taken a ≡ k = rw is in
    let f : clock_good (take (suc k) a ++ e) ≡ false = rw p at ((clock_first_bad a).never (rw p h) e) in
    bad_said (length (take (suc k) a ++ e)) k (clock_of (take (suc k) a ++ e)) f (rw p at (told_stays clock_taken clock_first_bad a e (rw p h)))

-- ---- no blank

value_wrong : (n : NumberRead) (x : Said) → is_good x ≡ false → is_good (value_before n x) ≡ false
unfolding value_before
value_wrong (Ok n) x e = before_good n.value x ∙ e
value_wrong (Err at) x e = refl

module _ (b : ℕ) (other : ltb (digit_of b) 10 ≡ false) (y : List ℕ) where
  fill_other : (rs : List Range) (x : List ℕ) (at : ℕ) → is_good (fill rs (x ++ b ∷ y) at) ≡ false
  unfolding fill same pair_of second_of value_before
  fill_other [] [] at = refl
  fill_other [] (a ∷ x) at = refl
  fill_other (r ∷ rs) [] at = rw other
  fill_other (r ∷ rs) (a ∷ []) at =
      let d : ℕ = digit_of a in
      by_cases (λ n. is_good (value_before n (fill rs y (at + 2))) ≡ false) (ltb d 10 && (leb r.low (d * 10 + 9) && leb (d * 10) r.high)) _ (Err at)
      (λ e. rw other) (λ e. refl)
  fill_other (r ∷ rs) (a ∷ c ∷ x) at =
      value_wrong (pair_of r.low r.high (a ∷ c ∷ x ++ b ∷ y) at) (fill rs (x ++ b ∷ y) (at + 2)) (fill_other rs x (at + 2))

  from_other : (r : Range) (rs : List Range) (x : List ℕ) (at : ℕ) → is_good (from (r ∷ rs) (x ++ b ∷ y) at) ≡ false
  from_other r rs x at = sym (from_good r rs at (x ++ b ∷ y)) ∙ fill_other (r ∷ rs) x at

blank_other : (b : ℕ) → is_blank b ≡ true → ltb (digit_of b) 10 ≡ false
blank_other b h = ap (λ (d : ℕ). ltb d 10) (blank_digit b h)

no_letter : (b : ℕ) → is_blank b ≡ true → (a : List ℕ) → clock_of (b ∷ a) ≡ from hour_on (b ∷ a) 0
unfolding clock_of
no_letter b h a = of_blank (λ n. clock_of (n ∷ a) ≡ from hour_on (n ∷ a) 0) refl refl b h

-- no clock value holds a space or a tab
pub clock_one_word : (x y : List ℕ) (b : ℕ) → is_blank b ≡ true → clock_good (x ++ b ∷ y) ≡ false
clock_one_word [] y b h = ap is_good (no_letter b h y) ∙ from_other b (blank_other b h) y _ minute_on [] 0
clock_one_word (a ∷ x) y b h = go (first a)
  where
    go : First a → clock_good (a ∷ x ++ b ∷ y) ≡ false
    go (letter r rs t is) = ap is_good (is (x ++ b ∷ y)) ∙ from_other b (blank_other b h) y r rs x 1
    go (digit is) = ap is_good (is (x ++ b ∷ y)) ∙ from_other b (blank_other b h) y _ minute_on (a ∷ x) 0
