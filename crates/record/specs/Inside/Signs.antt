-- The record as the code writes it, byte after byte of the text. Nothing here has to be believed: `next_piece` says that the pieces are
-- `written_out`.
use Rattle.std.specs.Prelude.{ℕ, Bool, true, false, cond, List, [], ◌∷◌, eqb, Option, Some, None}
use Rattle.writer.specs.Put.{two_digits}
use Rattle.process.specs.declared.Reading.{Reading}
use Rattle.record.specs.Logging.{sign_text}

-- which unit of the reading a sign shows
unfoldable pub date_of : Reading → ℕ → Option ℕ
date_of r b =
    cond (eqb b 89) (Some r.year)
    (cond (eqb b 77) (Some r.month)
    (cond (eqb b 68) (Some r.day)
    (cond (eqb b 104) (Some r.hour)
    (cond (eqb b 109) (Some r.minute)
    (cond (eqb b 115) (Some r.second) None)))))

-- the byte that any other sign stands for
unfoldable pub plain_sign : ℕ → ℕ
plain_sign b = cond (eqb b 114) 13 (cond (eqb b 110) 10 b)

-- the text of a sign that shows no count
unfoldable pub date_text : ℕ → Option ℕ → List ℕ
date_text b (Some n) = two_digits n
date_text b None = b ∷ []

-- what a byte of the text adds to the record; the flag tells that `@` stands before
unfoldable pub piece : Reading → ℕ → Bool → ℕ → List ℕ
piece r count true b = sign_text r count b
piece r count false b = cond (eqb b 64) [] (b ∷ [])

-- whether the byte is an `@` that begins a sign
unfoldable pub begins_sign : Bool → ℕ → Bool
begins_sign true b = false
begins_sign false b = eqb b 64
