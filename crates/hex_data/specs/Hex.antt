-- Hex data. "`:` sends hex bytes, digits of either case, spaces and tabs as separators, a run of digits cut in twos"; and No. 5: "a lone
-- digit between separators as a byte"; "A longer run is cut in twos and an odd last digit is a byte."
use Rattle.std.specs.Prelude.{ℕ, ◌+◌, ◌*◌, Bool, true, false, cond, List, [], ◌∷◌, length, drop, ltb, leb, Result, Ok, Err}
use Rattle.std.proofs.lemmas.List.Edits.{sets}
use Rattle.reader.specs.Bytes.{digit_of, is_blank}
use Rattle.numbers.specs.Number.{NumberRead, value_at}
use Rattle.hex_data.specs.declared.HexFault.{HexFault}
use Rattle.hex_data.specs.declared.HexFault.TheVariants.{Wrong, Full}

-- what data say: their bytes, or the place of the first byte that cannot be taken
pub data Said : Type 0 where
  good : List ℕ → Said
  bad : ℕ → Said

-- what a byte of hex data does: it cannot be taken, it parts, it begins a pair, or with it a byte is whole
pub data HexStep : Type 0 where
  Refuse : HexStep
  Skip : HexStep
  First : ℕ → HexStep
  Whole : ℕ → HexStep

-- what a byte does after `half`, the first digit of a pair, or 16 where no pair is begun: a separator leaves that digit a byte
unfoldable pub step_of : ℕ → ℕ → HexStep
step_of half b =
    cond (ltb (digit_of b) 16)
    (cond (ltb half 16) (Whole (half * 16 + digit_of b)) (First (digit_of b)))
    (cond (is_blank b) (cond (ltb half 16) (Whole half) Skip) Refuse)

-- a byte in front of what the rest says
unfoldable pub byte_before : ℕ → Said → Said
byte_before b (good bs) = good (b ∷ bs)
byte_before b (bad at) = bad at

-- how the reading goes on after a step at the place `at`: `next` with no pair begun, `paired` with one
abbrev pub after_step : ℕ → HexStep → Said → (ℕ → Said) → Said
after_step at Refuse next paired = bad at
after_step at Skip next paired = next
after_step at (First h) next paired = paired h
after_step at (Whole b) next paired = byte_before b next

-- the bytes left, from the place `at`, after `half`: "an odd last digit is a byte"
unfoldable pub hex_go : List ℕ → ℕ → ℕ → Said
hex_go [] half at = good (cond (ltb half 16) (half ∷ []) [])
hex_go (b ∷ rest) half at = after_step at (step_of half b) (hex_go rest 16 (at + 1)) (λ h. hex_go rest h (at + 1))

-- the hex data from a place on to the end
unfoldable pub hex_at : List ℕ → ℕ → Said
hex_at s at = hex_go (drop at s) 16 at

-- No. 3: "the place of the first byte they can't take", or `end` where all can be taken
unfoldable pub said_place : ℕ → Said → ℕ
said_place end (good bs) = end
said_place end (bad at) = at

-- and whether all can be taken
abbrev pub is_good : Said → Bool
is_good (good bs) = true
is_good (bad at) = false

-- how many bytes data are, `n` having been counted before
unfoldable pub counted : ℕ → Said → Result ℕ ℕ
counted n (good bs) = Ok (n + length bs)
counted n (bad at) = Err at

-- data read into `d` from `to` on: how many bytes, or why none; and what `d` then holds
unfoldable pub hex_into : Said → List ℕ → ℕ → Result ℕ HexFault
hex_into (bad at) d to = Err (Wrong at)
hex_into (good bs) d to = cond (leb (to + length bs) (length d)) (Ok (length bs)) (Err Full)

-- what the slice holds after it: nothing is altered where the data are bad or have no room
unfoldable pub hex_put : Said → List ℕ → ℕ → List ℕ
hex_put (bad at) d to = d
hex_put (good bs) d to = cond (leb (to + length bs) (length d)) (sets d to bs) d

-- ---- "`:` and one or two hex digits"; "more is ignored": one byte, as ENCODE needs it

-- after the first digit `h`: a second one, or none
unfoldable pub hex_second : ℕ → List ℕ → ℕ → NumberRead
hex_second h [] at = value_at h at
hex_second h (b ∷ rest) at = cond (ltb (digit_of b) 16) (value_at (h * 16 + digit_of b) (at + 1)) (value_at h at)

-- one digit at least, and at most two
unfoldable pub hex_byte_of : List ℕ → ℕ → NumberRead
hex_byte_of [] at = Err at
hex_byte_of (a ∷ rest) at = cond (ltb (digit_of a) 16) (hex_second (digit_of a) rest (at + 1)) (Err at)

-- the byte at a place
unfoldable pub hex_byte_at : List ℕ → ℕ → NumberRead
hex_byte_at s at = hex_byte_of (drop at s) at

-- No. 3: the place of the byte that is no digit, or `end`, since "more is ignored"
unfoldable pub byte_place : ℕ → NumberRead → ℕ
byte_place end (Ok n) = end
byte_place end (Err at) = at

-- and whether there is a digit
abbrev pub is_byte_read : NumberRead → Bool
is_byte_read (Ok n) = true
is_byte_read (Err at) = false
