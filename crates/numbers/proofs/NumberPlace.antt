-- THE FIRST BYTE THAT A NUMBER CANNOT TAKE. With it no ending makes a number; what stands before it can be ended. Assumes nothing.
use Rattle.std.specs.Prelude.{Ok, Err}
use Prim.Native.Nat.{ℕ, suc, ◌+◌, ◌*◌, ◌<◌}
use mathlib.Core.Path.{◌≡◌, refl, sym, ap, ◌∙◌}
use mathlib.Core.Bool.{Bool, true, false, cond}
use mathlib.Core.List.{List, [], ◌∷◌, ◌++◌}
use native.Mathlib.Omega.{arith}
use lib.Dec.{ltb, leb, eqb}
use lib.ListN.{length}
use borrow.Author.Tests.{lt-ltb, le-leb, eqb-true, eqb-false, eq-eqb, ne_eqb}
use Rattle.reader.specs.Bytes.{digit_of, is_byte, in_line}
use Rattle.reader.specs.FirstBad.{CanEnd, FirstBad}
use Rattle.reader.proofs.FirstBad.{bad_end, bad_here, bad_next, bad_as}
use Rattle.numbers.specs.Number.{NumberRead, value_at, digits_ended, number_go, number_at, number_place, is_whole}
use Rattle.numbers.specs.Inside.Moved.{moved_on}
use Rattle.numbers.proofs.Moved.{number_moved}

-- one byte before it
next_same : (m n : ℕ) → eqb (1 + m) (suc n) ≡ eqb m n
next_same m n = go (eqb m n) refl
  where
    go : (t : Bool) → eqb m n ≡ t → eqb (1 + m) (suc n) ≡ t
    go true e = eq-eqb (1 + m) (suc n) (omega (arith, eqb-true m n e))
    go false e = ne_eqb (1 + m) (suc n) (λ p. eqb-false m n e (omega arith))

whole_next : (b : ℕ) (a : List ℕ) (x : NumberRead) → is_whole (b ∷ a) (moved_on 1 x) ≡ is_whole a x
unfolding moved_on
whole_next b a (Ok n) = next_same n.next (length a)
whole_next b a (Err at) = refl

pub place_next : (x : NumberRead) → number_place (moved_on 1 x) ≡ suc (number_place x)
unfolding moved_on number_place
place_next (Ok n) = omega arith
place_next (Err at) = omega arith

module _ (most limit : ℕ) where
  -- the bytes after `n` digits with the value `v`
  right : ℕ → ℕ → List ℕ → Bool
  right n v a = is_whole a (number_go most limit a n v 0)

  module _ (n v : ℕ) where
    ended_here : (b : ℕ) (e : List ℕ) → is_whole (b ∷ e) (digits_ended n v 0) ≡ false
    unfolding digits_ended
    ended_here b e = go (ltb 0 n)
      where
        go : (t : Bool) → is_whole (b ∷ e) (cond t (value_at v 0) (Err 0)) ≡ false
        go true = ne_eqb 0 (suc (length e)) (λ p. omega arith)
        go false = refl

    ended_place : number_place (digits_ended n v 0) ≡ 0
    unfolding digits_ended number_place
    ended_place = go (ltb 0 n)
      where
        go : (t : Bool) → number_place (cond t (value_at v 0) (Err 0)) ≡ 0
        go true = refl
        go false = refl

  some_ends : (n v : ℕ) → CanEnd (right (n + 1) v) []
  unfolding right number_go digits_ended
  some_ends n v = record { ending = []; holds = refl; makes = rw (lt-ltb 0 (n + 1) (omega arith)) }

  -- what a byte does after `n` digits with the value `v`, whatever comes after it: the digits end before it, it is a digit that cannot be
  -- taken, or it is the next digit
  pub data Way (b n v : ℕ) : Type 0 where
    ends : ((a : List ℕ) → number_go most limit (b ∷ a) n v 0 ≡ digits_ended n v 0) → Way b n v
    refuses : ltb (digit_of b) 10 ≡ true → ((a : List ℕ) → number_go most limit (b ∷ a) n v 0 ≡ Err 0) → Way b n v
    goes : ((a : List ℕ) → number_go most limit (b ∷ a) n v 0 ≡ moved_on 1 (number_go most limit a (n + 1) (v * 10 + digit_of b) 0)) → Way b n v

  pub way : (b n v : ℕ) → Way b n v
  unfolding number_go
  way b n v = digit (ltb (digit_of b) 10) refl
    where
      w : ℕ
      w = v * 10 + digit_of b

      fits : ltb (digit_of b) 10 ≡ true → ltb n most ≡ true → (t : Bool) → leb w limit ≡ t → Way b n v
      fits d e true k = goes (λ a. rw (d, e, k) (number_moved most limit a (n + 1) w 1 0))
      fits d e false k = refuses d (λ a. rw (d, e, k))

      few : ltb (digit_of b) 10 ≡ true → (t : Bool) → ltb n most ≡ t → Way b n v
      few d true e = fits d e (leb w limit) refl
      few d false e = refuses d (λ a. rw (d, e))

      digit : (t : Bool) → ltb (digit_of b) 10 ≡ t → Way b n v
      digit true d = few d (ltb n most) refl
      digit false d = ends (λ a. rw d)

  abbrev Found : ℕ → ℕ → List ℕ → Type 0
  Found n v l = FirstBad (right n v) l (number_place (number_go most limit l n v 0))

  module _ (b : ℕ) (rest : List ℕ) (n v : ℕ) (c : CanEnd (right n v) []) where
    -- the byte cannot be taken
    here : (x : NumberRead) → number_place x ≡ 0 → ((e : List ℕ) → is_whole (b ∷ e) x ≡ false) → ((a : List ℕ) → number_go most limit (b ∷ a) n v 0 ≡ x) → Found n v (b ∷ rest)
    unfolding right
    here x z dead is = rw (is rest, z) (bad_here b rest c (λ e. ap (is_whole (b ∷ e)) (is e) ∙ dead e))

    by_byte : Found (n + 1) (v * 10 + digit_of b) rest → Way b n v → Found n v (b ∷ rest)
    unfolding right number_place
    by_byte f (ends is) = here (digits_ended n v 0) (ended_place n v) (ended_here n v b) is
    by_byte f (refuses d is) = here (Err 0) refl (λ a. refl) is
    by_byte f (goes is) =
        rw (is rest, place_next (number_go most limit rest (n + 1) (v * 10 + digit_of b) 0))
        (bad_next b rest (bad_as (λ a. sym (ap (is_whole (b ∷ a)) (is a) ∙ whole_next b a (number_go most limit a (n + 1) (v * 10 + digit_of b) 0))) f))

  go : (l : List ℕ) (n v : ℕ) → CanEnd (right n v) [] → Found n v l
  unfolding number_go
  go [] n v c = rw (ended_place n v) (bad_end c)
  go (b ∷ rest) n v c = by_byte b rest n v c (go rest (n + 1) (v * 10 + digit_of b) (some_ends n (v * 10 + digit_of b))) (way b n v)

  -- one digit at least is needed, and a number of one digit is 0
  none_ends : 0 < most → CanEnd (right 0 0) []
  unfolding right number_go digits_ended digit_of is_byte in_line
  none_ends h = record { ending = 48 ∷ []; holds = refl; makes = rw (lt-ltb 0 most h, le-leb 0 limit (omega arith)) }

  -- the place that a number tells is that of the first byte that it cannot take
  pub number_first_bad : 0 < most → (l : List ℕ) → FirstBad (λ a. is_whole a (number_at most limit a 0)) l (number_place (number_at most limit l 0))
  unfolding number_at right
  number_first_bad h l = go l 0 0 (none_ends h)

  -- no byte of a number is other than a digit
  no_other_way : (b : ℕ) (a : List ℕ) (n v : ℕ) → right (n + 1) (v * 10 + digit_of b) a ≡ false → Way b n v → right n v (b ∷ a) ≡ false
  unfolding right
  no_other_way b a n v dead (ends is) = ap (is_whole (b ∷ a)) (is a) ∙ ended_here n v b a
  no_other_way b a n v dead (refuses d is) = ap (is_whole (b ∷ a)) (is a)
  no_other_way b a n v dead (goes is) = ap (is_whole (b ∷ a)) (is a) ∙ whole_next b a (number_go most limit a (n + 1) (v * 10 + digit_of b) 0) ∙ dead

  no_other_go : (b : ℕ) (y : List ℕ) → ltb (digit_of b) 10 ≡ false → (x : List ℕ) (n v : ℕ) → right n v (x ++ b ∷ y) ≡ false
  unfolding right number_go
  no_other_go b y h [] n v = rw h (ended_here n v b y)
  no_other_go b y h (c ∷ x) n v = no_other_way c (x ++ b ∷ y) n v (no_other_go b y h x (n + 1) (v * 10 + digit_of c)) (way c n v)

  pub no_other_byte : (x y : List ℕ) (b : ℕ) → ltb (digit_of b) 10 ≡ false → is_whole (x ++ b ∷ y) (number_at most limit (x ++ b ∷ y) 0) ≡ false
  unfolding number_at right
  no_other_byte x y b h = no_other_go b y h x 0 0
