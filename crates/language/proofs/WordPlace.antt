-- THE FIRST BYTE THAT A WORD CANNOT TAKE, for each argument that is one word. Assumes nothing.
use Rattle.std.specs.Prelude.{Ok, Err}
use Prim.Native.Nat.{ℕ, suc}
use mathlib.Core.Path.{◌≡◌, refl, sym, ap, subst, ◌∙◌}
use mathlib.Core.Bool.{Bool, true, false, cond, ◌&&◌, ◌||◌, not}
use mathlib.Core.List.{List, [], ◌∷◌, ◌++◌}
use native.Mathlib.Omega.{arith}
use lib.Dec.{ltb, leb, eqb}
use lib.ListN.{length}
use lib.Seq.{take-nil}
use borrow.Author.Tests.{leb-true, leb-false, eqb-true, eqb-false, eq-eqb, ne_eqb}
use Rattle.reader.specs.Ascii.{ascii}
use Rattle.reader.specs.Bytes.{all, same, is_blank, is_byte, in_line}
use Rattle.reader.specs.FirstBad.{CanEnd, FirstBad}
use Rattle.reader.proofs.Tests.{both_left, both_right, true_is_false, and_false}
use Rattle.reader.proofs.Same.{same_is, is_same}
use Rattle.reader.proofs.Digits.{blank_digit}
use Rattle.reader.proofs.FirstBad.{bad_end, bad_here, bad_next, bad_as, bad_also, end_as, one_further, other_further}
use Rattle.numbers.specs.Number.{NumberRead, number_at, is_whole}
use Rattle.numbers.proofs.NumberPlace.{number_first_bad, no_other_byte}
use Rattle.language.specs.Script.{Statement, loop, wait_byte, rts, Meaning, says, set_ex}
use Rattle.language.specs.Meaning.{checked, number_says, number, loop_of, byte_of, rts_of, ex_in}
use Rattle.language.specs.Column.{faultless, alike, further, number_taken, loop_taken, rts_taken, in_taken}

-- what a reader of one word owes: it tells the first bad byte, and no space or tab stands in what it takes
pub record OneWord (reader : List ℕ → Meaning) (taken : List ℕ → ℕ) : Type 0 where
  pub first : (w : List ℕ) → FirstBad (λ a. faultless (reader a)) w (taken w)
  pub solid : (x y : List ℕ) (b : ℕ) → is_blank b ≡ true → faultless (reader (x ++ b ∷ y)) ≡ false

-- ---- tests of a meaning

right_cond : (t : Bool) (m n : Meaning) → faultless (cond t m n) ≡ cond t (faultless m) (faultless n)
right_cond true m n = refl
right_cond false m n = refl

-- a test decides a meaning that is no fault
pub right_checked : (t : Bool) (m : Meaning) → faultless m ≡ true → faultless (checked t m) ≡ t
unfolding faultless
right_checked true m e = e
right_checked false m e = refl

-- ---- a name

-- a byte of a name is none of these
pub name_solid : (name : List ℕ) → all (λ b. not (is_blank b)) name ≡ true → (x y : List ℕ) (b : ℕ) → is_blank b ≡ true → same (x ++ b ∷ y) name ≡ false
unfolding same
name_solid [] h [] y b e = refl
name_solid [] h (c ∷ x) y b e = refl
name_solid (n ∷ ns) h [] y b e = go (eqb b n) refl
  where
    go : (t : Bool) → eqb b n ≡ t → (eqb b n && same y ns) ≡ false
    go true q =
        let k : is_blank n ≡ true = subst (λ (c : ℕ). is_blank c ≡ true) (eqb-true b n q) e in
        true_is_false (sym (both_left (not (is_blank n)) (all (λ b. not (is_blank b)) ns) h) ∙ rw k)
    go false q = rw q
name_solid (n ∷ ns) h (c ∷ x) y b e = rw (name_solid ns (both_right (not (is_blank n)) (all (λ b. not (is_blank b)) ns) h) x y b e) (and_false (eqb c n))

-- nothing can be ended to a name
pub name_ends : (name : List ℕ) → all in_line name ≡ true → CanEnd (λ a. same a name) []
name_ends name h = record { ending = name; holds = h; makes = is_same refl }

pub alike_first_bad : (name : List ℕ) → all in_line name ≡ true → (w : List ℕ) → FirstBad (λ a. same a name) w (alike name w)
unfolding same alike
alike_first_bad [] h [] = bad_end (name_ends [] h)
alike_first_bad [] h (b ∷ w) = bad_here b w (name_ends [] h) (λ e. refl)
alike_first_bad (c ∷ name) h [] = bad_end (name_ends (c ∷ name) h)
alike_first_bad (c ∷ name) h (b ∷ w) = by_byte (alike_first_bad name (both_right (in_line c) (all in_line name) h) w) (eqb c b) refl
  where
    by_byte : FirstBad (λ a. same a name) w (alike name w) → (t : Bool) → eqb c b ≡ t → FirstBad (λ a. same a (c ∷ name)) (b ∷ w) (cond (eqb c b) (suc (alike name w)) 0)
    by_byte f true q = rw q (bad_next b w (bad_as (λ a. rw (eq-eqb b c (sym (eqb-true c b q)))) f))
    by_byte f false q = rw q (bad_here b w (name_ends (c ∷ name) h) (λ e. rw (ne_eqb b c (λ p. eqb-false c b q (sym p)))))

-- of two ways the one that goes further
pub further_first_bad : {one other : List ℕ → Bool} {l : List ℕ} (m n : ℕ) → FirstBad one l m → FirstBad other l n → FirstBad (λ a. one a || other a) l (further m n)
unfolding further
further_first_bad {one} {other} {l} m n f g = go (leb m n) refl
  where
    go : (t : Bool) → leb m n ≡ t → FirstBad (λ a. one a || other a) l (cond (leb m n) n m)
    go true e = rw e (other_further f g (leb-true m n e))
    go false e = rw e (one_further f g (omega (arith, leb-false m n e)))

-- ---- RTS and EX

either_right : (t u : Bool) (m n : Meaning) → faultless m ≡ true → faultless n ≡ true → faultless (cond t m (checked u n)) ≡ (t || u)
either_right true u m n p q = p
either_right false u m n p q = right_checked u n q

pub rts_word : OneWord rts_of rts_taken
unfolding rts_of rts_taken faultless in_line is_byte is_blank
rts_word =
    record {
      first = λ w. bad_as (λ a. sym (is a)) (further_first_bad (alike (ascii "ON") w) (alike (ascii "OFF") w) (alike_first_bad (ascii "ON") refl w) (alike_first_bad (ascii "OFF") refl w));
      solid = λ x y b h. is (x ++ b ∷ y) ∙ rw (name_solid (ascii "ON") refl x y b h, name_solid (ascii "OFF") refl x y b h);
    }
  where
    is : (a : List ℕ) → faultless (rts_of a) ≡ (same a (ascii "ON") || same a (ascii "OFF"))
    is a = either_right (same a (ascii "ON")) (same a (ascii "OFF")) (says (rts true)) (says (rts false)) refl refl

pub ex_word : OneWord ex_in in_taken
unfolding ex_in in_taken faultless in_line is_byte is_blank
ex_word =
    record {
      first = λ w. bad_as (λ a. sym (is a)) (alike_first_bad (ascii "IN") refl w);
      solid = λ x y b h. is (x ++ b ∷ y) ∙ name_solid (ascii "IN") refl x y b h;
    }
  where
    is : (a : List ℕ) → faultless (ex_in a) ≡ same a (ascii "IN")
    is a = right_checked (same a (ascii "IN")) set_ex refl

-- ---- numbers: LOOP and WAIT BYTE

-- up to 60000, in five digits
abbrev whole_number : List ℕ → Bool
whole_number a = is_whole a (number_at 5 60000 a 0)

number_bad : (w : List ℕ) → FirstBad whole_number w (number_taken w)
unfolding number_taken
number_bad w = number_first_bad 5 60000 (omega arith) w

number_solid : (x y : List ℕ) (b : ℕ) → is_blank b ≡ true → whole_number (x ++ b ∷ y) ≡ false
number_solid x y b h = no_other_byte 5 60000 x y b (ap (λ (d : ℕ). ltb d 10) (blank_digit b h))

right_number : (s : ℕ → Statement) (a : List ℕ) → faultless (number 60000 s a) ≡ whole_number a
unfolding number
right_number s a = go (number_at 5 60000 a 0)
  where
    go : (x : NumberRead) → faultless (number_says s a x) ≡ is_whole a x
    go (Ok n) = unfold number_says faultless in right_checked (eqb n.next (length a)) (says (s n.value)) refl
    go (Err at) = unfold number_says faultless in refl

or_swap : (t u v : Bool) → cond (t || u) true v ≡ ((u || v) || t)
or_swap true true v = refl
or_swap true false true = refl
or_swap true false false = refl
or_swap false true v = refl
or_swap false false true = refl
or_swap false false false = refl

or_last : (t v : Bool) → cond t true v ≡ (v || t)
or_last true true = refl
or_last true false = refl
or_last false true = refl
or_last false false = refl

pub none_solid : (x y : List ℕ) (b : ℕ) → same (x ++ b ∷ y) [] ≡ false
unfolding same
none_solid [] y b = refl
none_solid (c ∷ x) y b = refl

pub loop_word : OneWord loop_of loop_taken
unfolding loop_taken in_line is_byte is_blank
loop_word =
    record {
      first = λ w. bad_as (λ a. sym (is a))
          (bad_also ends (further_first_bad (alike (ascii "EVER") w) (number_taken w) (alike_first_bad (ascii "EVER") refl w) (number_bad w)));
      solid = λ x y b h. is (x ++ b ∷ y) ∙ rw (name_solid (ascii "EVER") refl x y b h, number_solid x y b h, none_solid x y b);
    }
  where
    is : (a : List ℕ) → faultless (loop_of a) ≡ ((same a (ascii "EVER") || whole_number a) || same a [])
    is a =
        unfold loop_of faultless in
        (right_cond (same a [] || same a (ascii "EVER")) (says (loop 0)) (number 60000 loop a)
        ∙ ap (λ (t : Bool). cond (same a [] || same a (ascii "EVER")) true t) (right_number loop a)
        ∙ or_swap (same a []) (same a (ascii "EVER")) (whole_number a))

    ends : (a : List ℕ) → same a [] ≡ true → CanEnd (λ a. same a (ascii "EVER") || whole_number a) a
    ends a e = rw (same_is a [] e) (end_as (λ a h. rw h) (name_ends (ascii "EVER") refl))

pub byte_word : OneWord byte_of number_taken
unfolding in_line is_byte is_blank
byte_word =
    record {
      first = λ w. bad_as (λ a. sym (is a)) (bad_also ends (number_bad w));
      solid = λ x y b h. is (x ++ b ∷ y) ∙ rw (number_solid x y b h, none_solid x y b);
    }
  where
    is : (a : List ℕ) → faultless (byte_of a) ≡ (whole_number a || same a [])
    is a =
        unfold byte_of faultless in
        (right_cond (same a []) (says (wait_byte 1)) (number 60000 wait_byte a)
        ∙ ap (λ (t : Bool). cond (same a []) true t) (right_number wait_byte a)
        ∙ or_last (same a []) (whole_number a))

    ends : (a : List ℕ) → same a [] ≡ true → CanEnd whole_number a
    ends a e = rw (same_is a [] e) (subst (CanEnd whole_number) (take-nil (number_taken [])) (number_bad []).before)
