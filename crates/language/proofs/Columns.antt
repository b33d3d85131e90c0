-- No. 3's columns of 4, in one table under one statement: a line by itself is refused by 4, and the column is the one that the definitions
-- compute. Assumes nothing.
use Prim.Native.Nat.{ℕ}
use Prim.Native.String.{String}
use mathlib.Core.Path.{◌≡◌, refl}
use mathlib.Core.List.{List, [], ◌∷◌}
use Rattle.reader.specs.Ascii.{ascii}
use Rattle.language.proofs.Opened.{Printed, printed, refuses}

-- a line and its column
pub data Column : Type 0 where
  column : String → ℕ → Column

-- what is printed of each line
pub printed_of : List Column → List Printed
unfolding printed
printed_of [] = []
printed_of (column line k ∷ cs) = printed (ascii line) ∷ printed_of cs

-- and what is to be printed
pub refused_by4 : List Column → List Printed
refused_by4 [] = []
refused_by4 (column line k ∷ cs) = refuses 4 1 k ∷ refused_by4 cs

abbrev pub columns : List Column
columns =
    -- something missing: the line's length plus one
    column "#RTS" 5
    ∷ column "#RTS " 6
    ∷ column "#WAIT DATA" 11
    ∷ column "#WAIT DATA /" 13
    ∷ column "#WAIT DATA : " 14
    ∷ column "#f:OMIT" 8
    ∷ column "#f:EX1" 7
    ∷ column "#f:ENCODE" 10
    ∷ column "#f:ENCODE /  " 14
    ∷ column "#LOG a@" 8
    ∷ column "#WAIT CLOCK h1" 15
    ∷ column "#LOOP EVE" 10
    -- a blank is the bad byte where a word was begun and not ended; behind a whole argument it is fine, and the next word is bad
    ∷ column "#LOOP EVE " 10
    ∷ column "#RTS O " 7
    ∷ column "#WAIT CLOCK h1 " 15
    ∷ column "#f:EX1 I " 9
    ∷ column "#f:ENCODE : 41" 12
    ∷ column "#END x" 6
    ∷ column "#RTS ON x" 9
    ∷ column "#LOOP 3 4" 9
    ∷ column "#WAIT TIME 5 S" 14
    ∷ column "#WAIT CLOCK h 11" 15
    ∷ column "#f:LFEXT a b" 12
    -- numbers: the digit that closes the last way
    ∷ column "#LOOP 60001" 11
    ∷ column "#LOOP 700000" 11
    ∷ column "#LOOP 100000" 12
    ∷ column "#LOOP 000003" 12
    -- the unit comes behind the number
    ∷ column "#WAIT TIME 1000M" 17
    ∷ column "#WAIT TIME 60000M" 18
    ∷ column "#WAIT TIME 1000MX" 17
    ∷ column "#WAIT TIME 1000M " 17
    ∷ column "#WAIT TIME 60001MS" 16
    ∷ column "#WAIT TIME 5MM" 14
    ∷ column "#WAIT TIME X" 12
    -- clock values
    ∷ column "#WAIT CLOCK D32" 15
    ∷ column "#WAIT CLOCK D4" 14
    ∷ column "#WAIT CLOCK D00" 15
    ∷ column "#WAIT CLOCK h3" 14
    ∷ column "#WAIT CLOCK h24" 15
    ∷ column "#WAIT CLOCK h2360" 16
    ∷ column "#WAIT CLOCK h002360" 18
    ∷ column "#WAIT CLOCK s0000" 16
    ∷ column "#WAIT CLOCK h00000000" 20
    ∷ column "#WAIT CLOCK 11h" 15
    -- words, signs, letters; a second CR is a byte
    ∷ column "#LOOP ever" 7
    ∷ column "#LOOP EVERX" 11
    ∷ column "#LOG\t" 5
    ∷ column "#LOG @x" 7
    ∷ column "#LOG @@@" 9
    ∷ column "#f:ENCODE :G" 12
    ∷ column "#f:LFEXT abcd" 13
    ∷ column "#f:LFEXT a_b" 11
    ∷ column "#f:OMIT x" 9
    ∷ column "#RTS ON\r\r\n" 8
    -- hex data: a byte that is no digit, space or tab
    ∷ column ":4G" 3
    ∷ column ":41 G" 5
    ∷ column "#WAIT DATA :G" 13
    ∷ []

pub columns_told : printed_of columns ≡ refused_by4 columns
unfolding printed printed_of refused_by4
columns_told = refl
