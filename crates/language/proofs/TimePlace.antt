-- THE FIRST BYTE THAT A TIME CANNOT TAKE: a number, and behind it a unit. Assumes nothing.
use Rattle.std.specs.Prelude.{Ok, Err}
use Prim.Native.Nat.{ℕ, zero, suc, ◌+◌, ◌*◌}
use mathlib.Core.Path.{◌≡◌, refl, sym, ap, ◌∙◌}
use mathlib.Core.Bool.{Bool, true, false, cond, ◌&&◌, ◌||◌}
use mathlib.Core.List.{List, [], ◌∷◌, ◌++◌}
use native.Mathlib.Omega.{arith}
use lib.Dec.{ltb, leb, eqb}
use lib.ListN.{drop}
use borrow.Author.Tests.{eqb-false, ne_eqb, lt-ltb}
use Rattle.reader.specs.Ascii.{ascii}
use Rattle.reader.specs.Bytes.{same, is_blank, digit_of, is_byte, in_line}
use Rattle.reader.specs.FirstBad.{CanEnd, FirstBad}
use Rattle.reader.proofs.Tests.{both_left, true_is_false}
use Rattle.reader.proofs.Same.{same_is}
use Rattle.reader.proofs.Digits.{blank_digit}
use Rattle.reader.proofs.FirstBad.{bad_end, bad_here, bad_next, bad_as, bad_from, bad_also}
use Rattle.numbers.specs.Number.{NumberRead, value_at, digits_ended, number_go, number_at, number_place}
use Rattle.numbers.specs.Inside.Moved.{moved_on}
use Rattle.numbers.proofs.NumberPlace.{Way, ends, refuses, goes, way, place_next}
use Rattle.language.specs.Script.{wait_time, Meaning, says}
use Rattle.language.specs.Meaning.{checked, time_in, time_by, time_of}
use Rattle.language.specs.Column.{faultless, alike, further, unit_taken, number_taken, time_taken}
use Rattle.language.proofs.WordPlace.{OneWord, right_checked, name_solid, none_solid, alike_first_bad, further_first_bad}

-- ---- the unit

abbrev units : List ℕ → Bool
units a = same a (ascii "MS") || same a (ascii "S")

-- what is a unit too, and can go on to one
also : ℕ → List ℕ → Bool
also v a = same a [] || (same a (ascii "M") && leb v 999)

four_ways : (t u v w : Bool) (m n o : Meaning) → faultless m ≡ true → faultless n ≡ true → faultless o ≡ true
    → faultless (cond t m (cond (u || v) n (checked w o))) ≡ ((t || u) || (v || w))
four_ways true u v w m n o p q r = p
four_ways false true v w m n o p q r = q
four_ways false false true w m n o p q r = q
four_ways false false false w m n o p q r = right_checked w o r

right_unit : (v : ℕ) (a : List ℕ) → faultless (time_in a v) ≡ (units a || also v a)
unfolding time_in faultless also
right_unit v a =
    four_ways (same a (ascii "MS")) (same a (ascii "S")) (same a []) (same a (ascii "M") && leb v 999) (says (wait_time v)) (says (wait_time (v * 1000))) (says (wait_time (v * 60000)))
    refl refl refl

also_ends : (v : ℕ) (a : List ℕ) → also v a ≡ true → CanEnd units a
unfolding also same in_line is_byte
also_ends v a h = go (same a []) refl
  where
    go : (t : Bool) → same a [] ≡ t → CanEnd units a
    go true e = rw (same_is a [] e) (record { ending = ascii "S"; holds = refl; makes = refl })
    go false e =
        rw (same_is a (ascii "M") (both_left (same a (ascii "M")) (leb v 999) (rw e at h)))
        (record { ending = ascii "S"; holds = refl; makes = refl })

unit_bad : (v : ℕ) (w : List ℕ) → FirstBad (λ a. faultless (time_in a v)) w (unit_taken w)
unfolding unit_taken in_line is_byte
unit_bad v w =
    bad_as (λ a. sym (right_unit v a))
    (bad_also (also_ends v) (further_first_bad (alike (ascii "MS") w) (alike (ascii "S") w) (alike_first_bad (ascii "MS") refl w) (alike_first_bad (ascii "S") refl w)))

unit_solid : (v : ℕ) (x y : List ℕ) (b : ℕ) → is_blank b ≡ true → faultless (time_in (x ++ b ∷ y) v) ≡ false
unfolding also is_blank
unit_solid v x y b h =
    right_unit v (x ++ b ∷ y)
    ∙ rw (name_solid (ascii "MS") refl x y b h, name_solid (ascii "S") refl x y b h, name_solid (ascii "M") refl x y b h, none_solid x y b)

-- a digit begins no unit
not_letter : (b c : ℕ) → ltb (digit_of c) 10 ≡ false → ltb (digit_of b) 10 ≡ true → eqb b c ≡ false
not_letter b c h d = ne_eqb b c (λ p. let z : true ≡ false = sym d ∙ ap (λ (x : ℕ). ltb (digit_of x) 10) p ∙ h in true_is_false z)

module _ (b : ℕ) (d : ltb (digit_of b) 10 ≡ true) where
  digit_no_unit : (v : ℕ) (a : List ℕ) → faultless (time_in (b ∷ a) v) ≡ false
  unfolding also same digit_of
  digit_no_unit v a = right_unit v (b ∷ a) ∙ rw (not_letter b 77 refl d, not_letter b 83 refl d)

  digit_taken : (w : List ℕ) → unit_taken (b ∷ w) ≡ 0
  unfolding unit_taken alike further digit_of
  digit_taken w = rw (ne_eqb 77 b (λ p. eqb-false b 77 (not_letter b 77 refl d) (sym p)), ne_eqb 83 b (λ p. eqb-false b 83 (not_letter b 83 refl d) (sym p)))

-- ---- the number before it

-- the number and what is behind it, after `n` digits: "no number is 1"
timed : ℕ → List ℕ → NumberRead → Bool
timed n a (Ok d) = faultless (time_in (drop d.next a) d.value)
timed n a (Err zero) = cond (ltb 0 n) false (faultless (time_in a 1))
timed n a (Err (suc at)) = false

right : ℕ → ℕ → List ℕ → Bool
right n v a = timed n a (number_go 5 60000 a n v 0)

-- how much of the bytes can be taken
taken : List ℕ → NumberRead → ℕ
taken l x = number_place x + unit_taken (drop (number_place x) l)

timed_next : (b n : ℕ) (a : List ℕ) (x : NumberRead) → timed n (b ∷ a) (moved_on 1 x) ≡ timed (n + 1) a x
unfolding timed moved_on
timed_next b n a (Ok d) = let e : 1 + d.next ≡ suc d.next = omega arith in rw e
timed_next b n a (Err zero) = rw (lt-ltb 0 (n + 1) (omega arith))
timed_next b n a (Err (suc at)) = let e : 1 + suc at ≡ suc (suc at) = omega arith in rw e

taken_next : (b : ℕ) (l : List ℕ) (x : NumberRead) → taken (b ∷ l) (moved_on 1 x) ≡ suc (taken l x)
unfolding taken
taken_next b l x = rw (place_next x) (omega arith)

-- the value that a unit is for
abbrev value : ℕ → ℕ → ℕ
value n v = cond (ltb 0 n) v 1

timed_ended : (n v : ℕ) (a : List ℕ) → timed n a (digits_ended n v 0) ≡ faultless (time_in a (value n v))
unfolding timed digits_ended
timed_ended n v a = go (ltb 0 n) refl
  where
    go : (t : Bool) → ltb 0 n ≡ t → timed n a (cond t (value_at v 0) (Err 0)) ≡ faultless (time_in a (cond t v 1))
    go true e = refl
    go false e = rw e

ended_taken : (n v : ℕ) (l : List ℕ) → taken l (digits_ended n v 0) ≡ unit_taken l
unfolding taken digits_ended number_place
ended_taken n v l = go (ltb 0 n)
  where
    go : (t : Bool) → taken l (cond t (value_at v 0) (Err 0)) ≡ unit_taken l
    go true = omega arith
    go false = omega arith

can_end : (n v : ℕ) → CanEnd (right n v) []
unfolding right number_go time_in same faultless
can_end n v = record { ending = []; holds = refl; makes = timed_ended n v [] }

module _ (b n v : ℕ) where
  abbrev w : ℕ
  w = v * 10 + digit_of b

  module _ (d : ltb (digit_of b) 10 ≡ true) where
    refused_taken : (rest : List ℕ) → taken (b ∷ rest) (Err 0) ≡ 0
    unfolding taken number_place
    refused_taken rest = omega (arith, digit_taken b d rest)

    refused_right : (a : List ℕ) → timed n (b ∷ a) (Err 0) ≡ false
    unfolding timed
    refused_right a = rw (digit_no_unit b d 1 a) (go (ltb 0 n))
      where
        go : (t : Bool) → cond t false false ≡ false
        go true = refl
        go false = refl

  by_byte : (rest : List ℕ) → FirstBad (right (n + 1) w) rest (taken rest (number_go 5 60000 rest (n + 1) w 0)) → Way 5 60000 b n v
      → FirstBad (right n v) (b ∷ rest) (taken (b ∷ rest) (number_go 5 60000 (b ∷ rest) n v 0))
  unfolding right
  by_byte rest f (ends is) =
      rw (is rest, ended_taken n v (b ∷ rest))
      (bad_from b rest (unit_taken (b ∷ rest)) (can_end n v) (λ a. sym (ap (timed n (b ∷ a)) (is a) ∙ timed_ended n v (b ∷ a))) (unit_bad (value n v) (b ∷ rest)))
  by_byte rest f (refuses d is) = rw (is rest, refused_taken d rest) (bad_here b rest (can_end n v) (λ e. ap (timed n (b ∷ e)) (is e) ∙ refused_right d e))
  by_byte rest f (goes is) =
      rw (is rest, taken_next b rest (number_go 5 60000 rest (n + 1) w 0))
      (bad_next b rest (bad_as (λ a. sym (ap (timed n (b ∷ a)) (is a) ∙ timed_next b n a (number_go 5 60000 a (n + 1) w 0))) f))

  -- no space or tab stands in what is right
  by_solid : (x y : List ℕ) (c : ℕ) → is_blank c ≡ true → right (n + 1) w (x ++ c ∷ y) ≡ false → Way 5 60000 b n v → right n v (b ∷ x ++ c ∷ y) ≡ false
  unfolding right
  by_solid x y c h f (ends is) = ap (timed n (b ∷ x ++ c ∷ y)) (is (x ++ c ∷ y)) ∙ timed_ended n v (b ∷ x ++ c ∷ y) ∙ unit_solid (value n v) (b ∷ x) y c h
  by_solid x y c h f (refuses d is) = ap (timed n (b ∷ x ++ c ∷ y)) (is (x ++ c ∷ y)) ∙ refused_right d (x ++ c ∷ y)
  by_solid x y c h f (goes is) = ap (timed n (b ∷ x ++ c ∷ y)) (is (x ++ c ∷ y)) ∙ timed_next b n (x ++ c ∷ y) (number_go 5 60000 (x ++ c ∷ y) (n + 1) w 0) ∙ f

go_bad : (l : List ℕ) (n v : ℕ) → FirstBad (right n v) l (taken l (number_go 5 60000 l n v 0))
unfolding number_go
go_bad [] n v = rw (ended_taken n v []) (unfold unit_taken alike further in bad_end (can_end n v))
go_bad (b ∷ rest) n v = by_byte b n v rest (go_bad rest (n + 1) (v * 10 + digit_of b)) (way 5 60000 b n v)

go_solid : (y : List ℕ) (c : ℕ) → is_blank c ≡ true → (x : List ℕ) (n v : ℕ) → right n v (x ++ c ∷ y) ≡ false
unfolding right number_go
go_solid y c h [] n v = rw (blank_digit c h) (timed_ended n v (c ∷ y) ∙ unit_solid (value n v) [] y c h)
go_solid y c h (b ∷ x) n v = by_solid b n v x y c h (go_solid y c h x (n + 1) (v * 10 + digit_of b)) (way 5 60000 b n v)

right_time : (a : List ℕ) → right 0 0 a ≡ faultless (time_of a)
unfolding time_of right number_at
right_time a = go (number_go 5 60000 a 0 0 0)
  where
    go : (x : NumberRead) → timed 0 a x ≡ faultless (time_by a x)
    go (Ok n) = unfold timed time_by in refl
    go (Err zero) = unfold timed time_by in refl
    go (Err (suc at)) = unfold timed time_by faultless in refl

pub time_word : OneWord time_of time_taken
unfolding time_taken number_taken number_at taken
time_word =
    record {
      first = λ w. bad_as right_time (go_bad w 0 0);
      solid = λ x y b h. sym (right_time (x ++ b ∷ y)) ∙ go_solid y b h x 0 0;
    }
