-- Hex data a digit at a time, as the code reads them.
use Rattle.std.specs.Prelude.{ℕ, List, [], ◌∷◌, Option, Some, None}
use Rattle.reader.specs.Bytes.{digit_value}
use Rattle.hex_data.specs.Hex.{HexStep, Refuse, Skip, First, Whole}
use Rattle.hex_data.specs.declared.Step.{Step}
use Rattle.hex_data.specs.declared.Step.TheVariants.{Parts, Begins, Ends}

-- the hex digit that some bytes begin with
unfoldable pub first_digit : List ℕ → Option ℕ
first_digit [] = None
first_digit (b ∷ rest) = digit_value b

-- the first digit of a pair, or 16 where no pair is begun
abbrev pub begun : Option ℕ → ℕ
begun None = 16
begun (Some h) = h

-- what a byte does
abbrev pub stepped : Option Step → HexStep
stepped None = Refuse
stepped (Some Parts) = Skip
stepped (Some (Begins h)) = First h
stepped (Some (Ends b)) = Whole b
