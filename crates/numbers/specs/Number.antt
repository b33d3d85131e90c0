-- Decimal numbers. "One to five decimal digits, here and below": how many digits at most, and up to which value, is the caller's.
use Rattle.std.specs.Prelude.{ℕ, ◌+◌, ◌*◌, Bool, false, cond, ◌&&◌, List, [], ◌∷◌, length, drop, ltb, leb, eqb, Result, Ok, Err}
use Rattle.reader.specs.Bytes.{digit_of}
use Rattle.numbers.specs.declared.Number.{Number}

-- a number that was read with the place after it, or the place of the first byte that cannot be taken
abbrev pub NumberRead : Type 0
NumberRead = Result Number ℕ

-- a value with the place after it
abbrev pub value_at : ℕ → ℕ → NumberRead
value_at v next = Ok (record { value = v; next = next })

-- where the digits end, after `n` of them with the value `v`: one at least is needed
unfoldable pub digits_ended : ℕ → ℕ → ℕ → NumberRead
digits_ended n v at = cond (ltb 0 n) (value_at v at) (Err at)

-- the bytes left, from the place `at`, after `n` digits with the value `v`: a digit too many, and one that takes the value over
-- the limit, cannot be taken
unfoldable pub number_go : ℕ → ℕ → List ℕ → ℕ → ℕ → ℕ → NumberRead
number_go most limit [] n v at = digits_ended n v at
number_go most limit (b ∷ rest) n v at =
    cond (ltb (digit_of b) 10)
    (cond (ltb n most)
    (cond (leb (v * 10 + digit_of b) limit) (number_go most limit rest (n + 1) (v * 10 + digit_of b) (at + 1)) (Err at))
    (Err at))
    (digits_ended n v at)

-- the number at a place: its value and the place after it, or the place of the first byte that cannot be taken
unfoldable pub number_at : ℕ → ℕ → List ℕ → ℕ → NumberRead
number_at most limit s at = number_go most limit (drop at s) 0 0 at

-- No. 3: "the place of the first byte they can't take": the place after a number, or that of the byte in it
unfoldable pub number_place : NumberRead → ℕ
number_place (Ok n) = n.next
number_place (Err at) = at

-- and whether it is all that there is
abbrev pub is_whole : List ℕ → NumberRead → Bool
is_whole l (Ok n) = eqb n.next (length l)
is_whole l (Err at) = false

-- ---- "two digits for that unit": a value of exactly two digits, from `low` to `high`

-- the second digit, after the first digit `d`
unfoldable pub second_of : ℕ → ℕ → ℕ → List ℕ → ℕ → NumberRead
second_of low high d [] at = Err at
second_of low high d (b ∷ rest) at =
    cond (ltb (digit_of b) 10 && (leb low (d * 10 + digit_of b) && leb (d * 10 + digit_of b) high))
    (value_at (d * 10 + digit_of b) (at + 1))
    (Err at)

-- a first digit cannot be taken where no second one brings the value between the bounds
unfoldable pub pair_of : ℕ → ℕ → List ℕ → ℕ → NumberRead
pair_of low high [] at = Err at
pair_of low high (a ∷ rest) at =
    cond (ltb (digit_of a) 10 && (leb low (digit_of a * 10 + 9) && leb (digit_of a * 10) high))
    (second_of low high (digit_of a) rest (at + 1))
    (Err at)

-- the value of two digits at a place
unfoldable pub pair_at : ℕ → ℕ → List ℕ → ℕ → NumberRead
pair_at low high s at = pair_of low high (drop at s) at
