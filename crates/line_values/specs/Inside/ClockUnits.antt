-- The units of a clock value, as the code reads them one after the other.
use Rattle.std.specs.Prelude.{ℕ, List, [], ◌∷◌, Result, Ok, Err}
use Rattle.numbers.specs.Number.{NumberRead, pair_of}
use Rattle.hex_data.specs.Hex.{Said, good, bad}
use Rattle.language.specs.declared.Clock.{Clock}
use Rattle.language.specs.Clock.{Range}
use Rattle.language.specs.Cell.{clock_from}

-- a unit that was read, or the place of its fault
unfoldable pub unit_from : NumberRead → Result ℕ ℕ
unit_from (Ok n) = Ok n.value
unit_from (Err at) = Err at

-- the value of a unit from the place `at` on: "Left-out shorter units are 00"
unfoldable pub unit_at : Range → List ℕ → ℕ → Result ℕ ℕ
unit_at r [] at = Ok 0
unit_at r (b ∷ l) at = unit_from (pair_of r.low r.high (b ∷ l) at)

-- the clock value of all its fixed units
unfoldable pub clock_read : Said → Result Clock ℕ
clock_read (good vs) = Ok (clock_from vs)
clock_read (bad at) = Err at
