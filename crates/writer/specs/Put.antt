-- What the writers write: bytes put into a lent slice from a place on, all of them or none.
use Rattle.std.specs.Prelude.{ℕ, zero, suc, ◌+◌, ◌/◌, ◌%◌, ◌^◌, cond, List, [], ◌∷◌, length, ltb, leb, Option, Some, None}
use Rattle.std.proofs.lemmas.List.Edits.{sets}

-- bytes put into `d` from `at` on: the place after them, or that there is no room; and what `d` then holds
unfoldable pub put_answer : List ℕ → List ℕ → ℕ → Option ℕ
put_answer bs d at = cond (leb (at + length bs) (length d)) (Some (at + length bs)) None

-- what the slice holds after it: nothing is altered where there is no room
unfoldable pub put_into : List ℕ → List ℕ → ℕ → List ℕ
put_into bs d at = cond (leb (at + length bs) (length d)) (sets d at bs) d

-- ---- "in decimal with no leading zeros"

-- `m` in `k` digits
unfoldable pub fixed : ℕ → ℕ → List ℕ
fixed zero m = []
fixed (suc k) m = (48 + m / 10 ^ k) ∷ fixed k (m % 10 ^ k)

-- the first of `w`, `w` + 1, .. digits that are enough for `m`, with at most `more` added
unfoldable pub width_go : ℕ → ℕ → ℕ → ℕ
width_go zero w m = w
width_go (suc more) w m = cond (ltb m (10 ^ w)) w (width_go more (w + 1) m)

-- how many digits a number below 10 ^ 10 has
unfoldable pub width_of : ℕ → ℕ
width_of m = width_go 9 1 m

-- a number below 10 ^ 10 in as many digits as it has
unfoldable pub decimal : ℕ → List ℕ
decimal m = fixed (width_of m) m

-- "Dates are two digits": a number below 100
unfoldable pub two_digits : ℕ → List ℕ
two_digits n = (48 + n / 10) ∷ (48 + n % 10) ∷ []
