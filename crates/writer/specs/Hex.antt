-- Hex data that are written. "Data in hex, two capital digits and no spaces"
use Rattle.std.specs.Prelude.{ℕ, ◌+◌, ◌/◌, ◌%◌, cond, List, [], ◌∷◌, ltb}

-- the capital digit of a value below 16
unfoldable pub capital : ℕ → ℕ
capital d = cond (ltb d 10) (48 + d) (55 + d)

-- the text of some bytes
unfoldable pub hex_text : List ℕ → List ℕ
hex_text [] = []
hex_text (b ∷ bs) = capital (b / 16) ∷ capital (b % 16) ∷ hex_text bs
