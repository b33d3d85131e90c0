-- The decimal digit at a place.
use Rattle.std.specs.Prelude.{ℕ, cond, List, [], ◌∷◌, drop, ltb, Option, Some, None}
use Rattle.reader.specs.Bytes.{digit_of}

-- the digit that some bytes begin with, if it is a decimal one
unfoldable pub first_decimal : List ℕ → Option ℕ
first_decimal [] = None
first_decimal (b ∷ rest) = cond (ltb (digit_of b) 10) (Some (digit_of b)) None

-- that of the bytes from a place on
unfoldable pub decimal_at : List ℕ → ℕ → Option ℕ
decimal_at s at = first_decimal (drop at s)
