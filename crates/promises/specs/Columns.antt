-- No. 3: "Readers of numbers, hex and clock values must also tell the place of the first byte they can't take, and every compile refusal gives a
-- column from 1". Assumes nothing: these are definitions.
use Rattle.std.specs.Prelude.{◌≡◌, Bool, true, List, ◌∷◌, ◌++◌, ℕ, suc, ◌+◌, ◌≤◌, ◌<◌, length, take, Err}
use Rattle.reader.specs.Bytes.{all, is_byte}
use Rattle.reader.specs.FirstBad.{FirstBad}
use Rattle.numbers.specs.Number.{number_at, number_place, is_whole, pair_at}
use Rattle.hex_data.specs.Hex.{is_good, hex_at, said_place, is_byte_read, hex_byte_at, byte_place}
use Rattle.language.specs.declared.TextFault.{TextFault}
use Rattle.language.specs.declared.TextFault.TheVariants.{TextTooLong, LineTooLong, TooManyLines, NoSuchName, BadRest, TooMuchData, TooManyOmits, TooManyLoops, EndWithoutLoop, LoopLeftOpen, TooManyProcesses, StretchTooLong}
use Rattle.language.specs.Limits.{line_limit}
use Rattle.language.specs.Lines.{lines_of}
use Rattle.language.specs.Clock.{clock_of}
use Rattle.language.specs.Script.{fault}
use Rattle.language.specs.Meaning.{meaning}
use Rattle.language.specs.Column.{ColumnTold}
use Rattle.language.specs.Answer.{refusal_of, compiled}

-- ---- "the place of the first byte they can't take"

-- a reader that tells a place: what stands before it can be ended rightly, with the byte at it nothing can, and with that byte the place stays
pub record TellsPlace (right : List ℕ → Bool) (place : List ℕ → ℕ) : Type 0 where
  pub first : (l : List ℕ) → FirstBad right l (place l)
  pub stays : (l ending : List ℕ) → place l < length l → place (take (suc (place l)) l ++ ending) ≡ place l

-- "Readers of numbers, hex and clock values", for bounds that leave any value
pub record ReadersTell : Type 0 where
  pub numbers : (most limit : ℕ) → 0 < most → TellsPlace (λ l. is_whole l (number_at most limit l 0)) (λ l. number_place (number_at most limit l 0))
  pub pairs : (low high : ℕ) → low ≤ high → high < 100 → TellsPlace (λ l. is_whole l (pair_at low high l 0)) (λ l. number_place (pair_at low high l 0))
  pub hex_data : TellsPlace (λ l. is_good (hex_at l 0)) (λ l. said_place (length l) (hex_at l 0))
  pub hex_byte : TellsPlace (λ l. is_byte_read (hex_byte_at l 0)) (λ l. byte_place (length l) (hex_byte_at l 0))
  pub clocks : TellsPlace (λ l. is_good (clock_of l)) (λ l. said_place (length l) (clock_of l))

-- ---- "every compile refusal gives a column from 1"

-- 4: the line that the refusal names stands in the text and is wrong, and the column is the one that the request asks for, and no other is
pub record WrongAt (text : List ℕ) (row column : ℕ) : Type 0 where
  pub before : List (List ℕ)
  pub line : List ℕ
  pub after : List (List ℕ)
  pub cut : lines_of text ≡ before ++ line ∷ after
  pub named : row ≡ length before + 1
  pub short : length line ≤ line_limit
  pub wrong : meaning line ≡ fault BadRest
  pub told : ColumnTold line column
  pub one : (k : ℕ) → ColumnTold line k → k ≡ column

-- "for 4 the first byte ..; 128 for 1, and 1 for all others; 0 for 12 and 11"
abbrev pub ColumnOf : List ℕ → ℕ → ℕ → TextFault → Type 0
ColumnOf text row column TextTooLong = column ≡ 0
ColumnOf text row column LineTooLong = column ≡ 128
ColumnOf text row column TooManyLines = column ≡ 1
ColumnOf text row column NoSuchName = column ≡ 1
ColumnOf text row column BadRest = WrongAt text row column
ColumnOf text row column TooMuchData = column ≡ 1
ColumnOf text row column TooManyOmits = column ≡ 1
ColumnOf text row column TooManyLoops = column ≡ 1
ColumnOf text row column EndWithoutLoop = column ≡ 1
ColumnOf text row column LoopLeftOpen = column ≡ 1
ColumnOf text row column TooManyProcesses = column ≡ 1
ColumnOf text row column StretchTooLong = column ≡ 0

-- of every text there can be
pub record ColumnsTold : Type 0 where
  pub refused :
      (text : List ℕ) → all is_byte text ≡ true → (f : TextFault) (row column : ℕ) → (compiled text).answer ≡ Err (refusal_of f row column) →
      ColumnOf text row column f
