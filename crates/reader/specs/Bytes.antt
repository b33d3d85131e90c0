-- What a byte is, and tests of bytes one by one.
use Rattle.std.specs.Prelude.{ℕ, ◌-◌, Bool, true, false, cond, ◌&&◌, not, List, [], ◌∷◌, ltb, eqb, Option, Some, None}

-- a byte is below 256
unfoldable pub is_byte : ℕ → Bool
is_byte b = ltb b 256

-- a byte that a line can hold: LF ends it
unfoldable pub in_line : ℕ → Bool
in_line b = is_byte b && not (eqb b 10)

-- "Words are parted by spaces or tabs": a byte that is one of the two
unfoldable pub is_blank : ℕ → Bool
is_blank b = cond (eqb b 32) true (eqb b 9)

-- "digits of either case": the value of a hex digit, 16 for every other byte; below 10 it is a decimal digit
unfoldable pub digit_of : ℕ → ℕ
digit_of b =
    cond (ltb b 48) 16
    (cond (ltb b 58) (b - 48)
    (cond (ltb b 65) 16
    (cond (ltb b 71) (b - 55)
    (cond (ltb b 97) 16
    (cond (ltb b 103) (b - 87) 16)))))

-- the value of a hex digit, and none for every other byte
unfoldable pub digit_value : ℕ → Option ℕ
digit_value b = cond (ltb (digit_of b) 16) (Some (digit_of b)) None

-- every byte, or any other element, passes a test
abbrev pub all : {A : Type 0} → (A → Bool) → List A → Bool
all p [] = true
all p (b ∷ l) = p b && all p l

-- two lists of bytes are the same
unfoldable pub same : List ℕ → List ℕ → Bool
same [] [] = true
same [] (c ∷ w) = false
same (b ∷ l) [] = false
same (b ∷ l) (c ∷ w) = eqb b c && same l w
