-- Document 01, "`#WAIT CLOCK`": clock values. A clock value is the list of the fixed units' values, the longest unit first: at most
-- day, hour, minute, second; empty where every second matches. No. 3: where it is wrong, the place of the first byte that cannot be taken.
use Rattle.std.specs.Prelude.{ℕ, ◌+◌, Bool, cond, ◌&&◌, List, [], ◌∷◌, ◌++◌, drop, leb, eqb, Ok, Err}
use Rattle.reader.specs.Bytes.{same}
use Rattle.numbers.specs.Number.{NumberRead, pair_of}
use Rattle.hex_data.specs.Hex.{Said, byte_before, good, bad}
use Rattle.writer.specs.Put.{two_digits}

-- the range of a unit
pub record Range : Type 0 where
  pub low : ℕ
  pub high : ℕ

-- a range by its bounds
abbrev pub range : ℕ → ℕ → Range
range a e = record { low = a; high = e }

-- a value in a range
unfoldable pub within : Range → ℕ → Bool
within r v = leb r.low v && leb v r.high

-- "D 01 to 31, h to 23, m and s to 59": a unit and each shorter one
abbrev pub second_on : List Range
second_on = range 0 59 ∷ []

-- "m and s to 59"
abbrev pub minute_on : List Range
minute_on = range 0 59 ∷ second_on

-- "h to 23"
abbrev pub hour_on : List Range
hour_on = range 0 23 ∷ minute_on

-- "D 01 to 31"
abbrev pub day_on : List Range
day_on = range 1 31 ∷ hour_on

-- a value that was read, in front of the others
unfoldable pub value_before : NumberRead → Said → Said
value_before (Ok n) rest = byte_before n.value rest
value_before (Err at) rest = bad at

-- "two digits for that unit and each shorter one, any of the last left out. Left-out shorter units are 00"; from the place `at` on
unfoldable pub fill : List Range → List ℕ → ℕ → Said
fill [] l at = cond (same l []) (good []) (bad at)
fill (r ∷ rs) [] at = byte_before 0 (fill rs [] at)
fill (r ∷ rs) (b ∷ l) at = value_before (pair_of r.low r.high (b ∷ l) at) (fill rs (drop 1 l) (at + 2))

-- "with no digits the first unit matches all too"
unfoldable pub from : List Range → List ℕ → ℕ → Said
from [] l at = bad at
from (r ∷ rs) [] at = fill rs [] at
from (r ∷ rs) (b ∷ l) at = fill (r ∷ rs) (b ∷ l) at

-- "unit D, h, m or s (none is h)"
unfoldable pub clock_of : List ℕ → Said
clock_of [] = from hour_on [] 0
clock_of (b ∷ l) =
    cond (eqb b 68) (from day_on l 1)
    (cond (eqb b 104) (from hour_on l 1)
    (cond (eqb b 109) (from minute_on l 1)
    (cond (eqb b 115) (from second_on l 1) (from hour_on (b ∷ l) 0))))

-- "the first fixed unit and every shorter one in full, or `s`"
unfoldable pub in_twos : List ℕ → List ℕ
in_twos [] = []
in_twos (v ∷ vs) = two_digits v ++ in_twos vs

-- "the first fixed unit", `s` where none is fixed
unfoldable pub clock_letter : List ℕ → ℕ
clock_letter [] = 115
clock_letter (s ∷ []) = 115
clock_letter (m ∷ s ∷ []) = 109
clock_letter (h ∷ m ∷ s ∷ []) = 104
clock_letter (d ∷ h ∷ m ∷ s ∷ more) = 68

-- the letter, then two digits for each fixed unit
unfoldable pub clock_text : List ℕ → List ℕ
clock_text vs = clock_letter vs ∷ in_twos vs
